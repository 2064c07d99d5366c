use Rattle.std.proofs.Common.{◌∙◌, sym}
use Rattle.std.proofs.lemmas.Iterator.Adapters.{option_map_id}
use Rattle.std.proofs.lemmas.Iterator.Consumers.{YieldsList-from_rest, YieldsList-from_copied, min_from_yields_List}
use Rattle.std.specs.Map.{values_of}
use Rattle.pending.proofs.row_marks.least_time.Goals as goal

pub returns-clause-exact : goal.returns-clause-exact
returns-clause-exact c = sym (option_map_id _) ∙ min_from_yields_List c.copied.result _ c.min.ensures.ran (YieldsList-from_copied (YieldsList-from_rest (values_of c.args.times.now.entries) cc))

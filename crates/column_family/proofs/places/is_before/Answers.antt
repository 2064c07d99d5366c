use Rattle.std.proofs.Common.{◌∙◌, ap}
use Rattle.std.specs.Ordering.{is_lt}
use Rattle.column_family.proofs.Derived.{same_places}
use Rattle.column_family.proofs.places.is_before.Goals as goal

pub returns : goal.returns
returns c = c.is_lt.ensures ∙ ap is_lt (c.cmp.ensures ∙ same_places c.args.a.now c.args.b.now)

use Rattle.std.proofs.Common.{rules, tests}
use Rattle.std.proofs.lemmas.Iterator.Consumers.{YieldsList-from_rest}
use Rattle.std.proofs.lemmas.Iterator.Search.{any_from_yields_List}
use Rattle.store.specs.Crowded.{holds_more}
use Rattle.store.proofs.row.is_crowded_in.Goals as goal

pub returns : goal.returns
returns c = any_from_yields_List holds_more _ _ c.any.result c.any.ensures.ran (YieldsList-from_rest _ c.values.ensures.rest) (λ x b q k. search (rules, tests))

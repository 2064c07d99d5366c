use Rattle.std.proofs.Common.{rules, Ok, ℕ}
use Rattle.std.proofs.lemmas.Iterator.{YieldsList-from_slice, YieldsList-from_take}
use Rattle.std.proofs.lemmas.Iterator.Consumers.{map_from_collect, YieldsList-from_filter, YieldsList-at}
use Rattle.slice.specs.Slice as slice
use Rattle.slice.proofs.selecting.lowest.Goals as goal

pub returns-clause-ok : goal.returns-clause-ok
returns-clause-ok c =
    map_from_collect {E = ℕ} (Ok c.in_ok-found.found) c.in_ok-found.ensures.ran
    (YieldsList-from_take c.args.count
    (YieldsList-at c.take.ensures.source
    (YieldsList-from_filter _ (λ column. slice.is_between c.args.low.now c.args.high.now column.name)
    (YieldsList-at c.filter.ensures.source (YieldsList-from_slice c.args.live.now c.iter.ensures.rest))
    c.filter.ensures.closure (λ x b q k. search rules)))
    c.take.ensures.count)

use Rattle.std.proofs.Common.{rules, Ok, ℕ, ap, ◌∙◌, take}
use Rattle.std.proofs.lemmas.Iterator.{YieldsList-from_take}
use Rattle.std.proofs.lemmas.Iterator.Adapters.{YieldsList-from_rev_slice}
use Rattle.std.proofs.lemmas.Iterator.Consumers.{map_from_collect, YieldsList-from_filter, YieldsList-at}
use Rattle.slice.specs.Slice as slice
use Rattle.slice.proofs.Selected.{filter_reverse}
use Rattle.slice.proofs.selecting.highest.Goals as goal

pub returns-clause-ok : goal.returns-clause-ok
returns-clause-ok c =
    map_from_collect {E = ℕ} (Ok c.in_ok-found.found) c.in_ok-found.ensures.ran
    (YieldsList-from_take c.args.count
    (YieldsList-at c.take.ensures.source
    (YieldsList-from_filter _ (λ column. slice.is_between c.args.low.now c.args.high.now column.name)
    (YieldsList-at c.filter.ensures.source (YieldsList-from_rev_slice c.args.live.now (search rules)))
    c.filter.ensures.closure (λ x b q k. search rules)))
    c.take.ensures.count)
    ∙ ap (take c.args.count) (filter_reverse (λ column. slice.is_between c.args.low.now c.args.high.now column.name) c.args.live.now)

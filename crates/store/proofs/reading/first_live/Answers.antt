use Rattle.std.proofs.Common.{rules, ◌∙◌, ap, sym, take, filter}
use Rattle.std.specs.Prelude.{is_some}
use Rattle.std.specs.Option.{option_copied}
use Rattle.std.proofs.lemmas.Iterator.{YieldsList-from_slice, YieldsList-from_take, items_from_collect}
use Rattle.std.proofs.lemmas.Iterator.Adapters.{YieldsList-from_rev_slice}
use Rattle.std.proofs.lemmas.Iterator.Consumers.{YieldsList-from_copied, YieldsList-from_filter, YieldsList-at}
use Rattle.slice.specs.Slice.{walked}
use Rattle.slice.proofs.Selected.{filter_reverse}
use Rattle.store.specs.declared.sight.Seen.{Seen}
use Rattle.store.specs.Sight.{named, live_of}
use Rattle.store.proofs.seen.Assembled.{if_ok}
use Rattle.store.proofs.reading.first_live.Goals as goal

pub returns-then-reversed : goal.returns-then-reversed
returns-then-reversed c =
    let live = λ (s : Seen). is_some (live_of (option_copied c.args.deletion) (named s)) in
    if_ok c.collect.result
    (λ found is. is
    ∙ ap (take c.args.most) (filter_reverse live c.args.seen.now)
    ∙ ap (λ b. take c.args.most (walked b (filter live c.args.seen.now))) (sym c.if-reversed.true))
    (items_from_collect c.collect.result c.collect.ensures.ran
    (YieldsList-from_take c.args.most
    (YieldsList-at c.take.ensures.source
    (YieldsList-from_filter _ (λ s. is_some (live_of (option_copied c.args.deletion) (named s)))
    (YieldsList-at c.filter.ensures.source (YieldsList-from_copied (YieldsList-at c.copied.ensures.source (YieldsList-from_rev_slice c.args.seen.now (search rules)))))
    c.filter.ensures.closure (λ x b q k. search rules)))
    c.take.ensures.count))

pub returns-else-reversed : goal.returns-else-reversed
returns-else-reversed c =
    let live = λ (s : Seen). is_some (live_of (option_copied c.args.deletion) (named s)) in
    if_ok c.collect-else-reversed.result
    (λ found is. is ∙ ap (λ b. take c.args.most (walked b (filter live c.args.seen.now))) (sym c.if-reversed.false))
    (items_from_collect c.collect-else-reversed.result c.collect-else-reversed.ensures.ran
    (YieldsList-from_take c.args.most
    (YieldsList-at c.take-else-reversed.ensures.source
    (YieldsList-from_filter _ (λ s. is_some (live_of (option_copied c.args.deletion) (named s)))
    (YieldsList-at c.filter-else-reversed.ensures.source (YieldsList-from_copied (YieldsList-at c.copied-else-reversed.ensures.source (YieldsList-from_slice c.args.seen.now c.iter-else-reversed.ensures.rest))))
    c.filter-else-reversed.ensures.closure (λ x b q k. search rules)))
    c.take-else-reversed.ensures.count))

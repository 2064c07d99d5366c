use Rattle.std.proofs.Common.{subst, sym, [], ◌∷◌, ◌++◌}
use Rattle.std.specs.List.Sorted.{IsStrictlySortedBy}
use Rattle.logical_time.specs.Stamps.{writer_cmp}
use Rattle.store.proofs.seen.Assembled.{if_ok}
use Rattle.store.proofs.seen.Gathered.{then_same}
use Rattle.store.proofs.seen.Gatherings.{at_either_end}
use Rattle.store.proofs.newest.OneWriter.{alone_in_order}
use Rattle.store.proofs.gathering.all_writers.Goals as goal

pub returns-in-None-clause-same : goal.returns-in-None-clause-same
returns-in-None-clause-same c = rw c.in-None.is c.sorted.ensures.same

pub returns-in-Some-clause-in_order : goal.returns-in-Some-clause-in_order
returns-in-Some-clause-in_order c = subst (IsStrictlySortedBy writer_cmp) (sym c.one.ensures) (alone_in_order c.in-Some.writer)

pub returns-in_ok-push-in-Some-2-clause-same : goal.returns-in_ok-push-in-Some-2-clause-same
returns-in_ok-push-in-Some-2-clause-same c =
    let ws = c.args.more.items in
    let w = c.in-Some-2.writer in
    if_ok c.sorted-in-Some-2.result
    (λ all same. rw c.in-Some-2.is (then_same all (ws ++ w ∷ []) (w ∷ ws) (rw c.in_ok-push-in-Some-2.ensures.items at same) (at_either_end w ws)))
    c.sorted-in-Some-2.ensures.same

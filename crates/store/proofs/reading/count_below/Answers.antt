use Rattle.std.proofs.Common.{rules, of_calls, get_or, arith}
use Rattle.std.specs.Ordering.{is_lt}
use Rattle.std.proofs.lemmas.Fn.{always_returns_same}
use Rattle.slice.specs.Slice.{name_le}
use Rattle.store.specs.declared.sight.Seen.{Seen}
use Rattle.store.specs.Stored.{name_cmp}
use Rattle.store.proofs.lists.CameTo.{below_first, back_kept, is_below, not_below}
use Rattle.store.proofs.reading.count_below.Goals as goal

pub returns-clause-below : goal.returns-clause-below
returns-clause-below c = λ sorted.
    let xs = c.args.seen.now in
    let n = c.args.name.now in
    let called = c.partition_point in
    let point = called.ensures.partitioned (λ s. is_lt (name_cmp s.name.now n)) (always_returns_same _ _ _ (λ a r f k. search (rules, of_calls)))
    (below_first (λ (s : Seen). s.name.now) n xs sorted) in
    back_kept (λ s. name_le n s.name.now) xs called.result called.ensures.bound
    (λ k d lt. is_below (get_or xs k d).name.now n (point.0 k d (omega arith) lt))
    (λ k d ge lt. not_below (get_or xs k d).name.now n (point.1 k d ge lt))

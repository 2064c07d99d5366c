use Rattle.std.proofs.Common.{rules, of_calls, arith}
use Rattle.std.proofs.lemmas.Fn.{always_returns_same}
use Rattle.slice.specs.Slice.{name_le}
use Rattle.store.specs.declared.sight.Seen.{Seen}
use Rattle.store.proofs.lists.CameTo.{up_to_first, front_kept}
use Rattle.store.proofs.reading.count_up_to.Goals as goal

pub returns-clause-up_to : goal.returns-clause-up_to
returns-clause-up_to c = λ sorted.
    let xs = c.args.seen.now in
    let n = c.args.name.now in
    let called = c.partition_point in
    let point = called.ensures.partitioned (λ s. name_le s.name.now n) (always_returns_same _ _ _ (λ a r f k. search (rules, of_calls)))
    (up_to_first (λ (s : Seen). s.name.now) n xs sorted) in
    front_kept (λ s. name_le s.name.now n) xs called.result called.ensures.bound
    (λ k d lt. point.0 k d (omega arith) lt)
    (λ k d ge lt. point.1 k d ge lt)

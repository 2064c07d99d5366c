use Rattle.std.proofs.lemmas.List.Filters.{dedup_is}
use Rattle.std.proofs.lemmas.List.Sorted.{Contains-permutation, IsPermutation-sym}
use Rattle.pending.proofs.BelowRows.{same_number, kept_once, only_kept, strictly_sorted}
use Rattle.pending.proofs.rows.in_order.Goals as goal

pub returns-clause-same : goal.returns-clause-same
returns-clause-same c =
    let is = dedup_is same_number _ _ c.dedup.ensures.filtered in
    λ t. (
      λ has. Contains-permutation _ _ t (IsPermutation-sym _ _ c.sort_unstable.ensures.permutation) (only_kept _ t (rw is at has)),
      λ has. rw is (kept_once _ t (Contains-permutation _ _ t c.sort_unstable.ensures.permutation has)),
    )

pub returns-clause-in_order : goal.returns-clause-in_order
returns-clause-in_order c =
    let is = dedup_is same_number _ _ c.dedup.ensures.filtered in
    rw is (strictly_sorted _ c.sort_unstable.ensures.sorted)

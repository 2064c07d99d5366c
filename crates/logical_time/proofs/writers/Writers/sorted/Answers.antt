use Rattle.std.proofs.lemmas.List.Filters.{dedup_is}
use Rattle.std.proofs.lemmas.List.Sorted.{Contains-permutation, IsPermutation-sym}
use Rattle.logical_time.proofs.WriterOrder.{same_writer, kept_once, only_kept, strictly_sorted}
use Rattle.logical_time.proofs.writers.Writers.sorted.Goals as goal

pub returns-clause-same : goal.returns-clause-same
returns-clause-same c =
    let is = dedup_is same_writer _ _ c.dedup.ensures.filtered in
    λ w. (
      (λ has. Contains-permutation _ _ w (IsPermutation-sym _ _ c.in_ok-sort.ensures.permutation) (only_kept _ w (rw (c.from_vec.ensures, c.trimmed.ensures, is) at has))),
      (λ has. rw (c.from_vec.ensures, c.trimmed.ensures, is) (kept_once _ w (Contains-permutation _ _ w c.in_ok-sort.ensures.permutation has))),
    )

pub returns-clause-sorted : goal.returns-clause-sorted
returns-clause-sorted c =
    let is = dedup_is same_writer _ _ c.dedup.ensures.filtered in
    rw (c.from_vec.ensures, c.trimmed.ensures, is) (strictly_sorted _ c.in_ok-sort.ensures.sorted)

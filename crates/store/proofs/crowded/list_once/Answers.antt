use Rattle.std.proofs.lemmas.List.Filters.{dedup_is}
use Rattle.column_family.specs.Location.{is_same_row}
use Rattle.store.proofs.applied.Listed.{listed_once}
use Rattle.store.proofs.crowded.list_once.Goals as goal

pub returns : goal.returns
returns c =
    let is = dedup_is is_same_row _ _ c.dedup.ensures.filtered in
    λ r. rw is (listed_once _ _ c.sort_unstable.ensures.permutation r)

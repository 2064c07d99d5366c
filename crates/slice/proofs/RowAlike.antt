-- A history of parts that has the same of a row as a history of whole batches makes the same of it: the same is newest at
-- each of its locations, it shows the same columns, and a read of it rests on the same.
use Rattle.std.proofs.Common.{◌≡◌, ◌∙◌, ℕ, sym, ap, refl, inl, inr, Bool, List, Option, Some, None}
use Rattle.std.specs.Prelude.{Contains, ◌↔◌}
use Rattle.logical_time.specs.Stamps.{StampValue}
use Rattle.column_family.specs.declared.batch.Row.{Row}
use Rattle.column_family.specs.declared.batch.Change.{Change}
use Rattle.column_family.specs.declared.batch.Committed.{Committed}
use Rattle.column_family.specs.Location.{touches, strikes, is_row_deletion}
use Rattle.column_family.specs.History.{History, Stamped, newest, newest_of, value_of, stamp_of, ranges_at}
use Rattle.column_family.proofs.Standing.{rests_alike as location_alike}
use Rattle.slice.specs.declared.predicate.Predicate.{Predicate}
use Rattle.slice.specs.Live.{live_columns}
use Rattle.slice.specs.Rests.{RowRestsOn}
use Rattle.slice.specs.Parts.{HaveSameOf}
use Rattle.slice.proofs.LiveTable.{at, live_columns_alike}
use Rattle.slice.proofs.Standing.{rests_alike as row_alike}
use Rattle.slice.proofs.SameNewest.{HasEach, same_newest, newest_some}
use Rattle.slice.proofs.SameRanges.{same_ranges, range_entry}
use Rattle.slice.proofs.RowTests.{IsRowTest, touches_test, deletion_test, strikes_test, last_alike, row_of_last}

module _ (r : Row) (parts whole : History) (same : HaveSameOf r parts whole) where
  -- each part has what a whole batch last does by a test of the row's changes
  all_of : (q : Change → Bool) → IsRowTest r q → HasEach q whole parts
  all_of q test w m has e =
      let p = same.each w has (row_of_last r q test _ m (test.normal w.batch ∙ e)) in
      (p.0, p.1, p.2.stamp, p.2.commit, last_alike r q test p.0.batch w.batch p.2.changes ∙ e)

  -- and the other way round
  each_of : (q : Change → Bool) → IsRowTest r q → HasEach q parts whole
  each_of q test p m has e =
      let w = same.only p has (row_of_last r q test p.batch m e) in
      (w.0, w.1, sym w.2.stamp, sym w.2.commit, sym (last_alike r q test p.batch w.0.batch w.2.changes) ∙ e)

  -- so the same is newest by each test
  by_test : (q : Change → Bool) → IsRowTest r q → newest_of q parts ≡ newest_of q whole
  by_test q test = sym (same_newest q whole parts (all_of q test) (each_of q test) same.apart)

  pub newest_alike : (name : List ℕ) → newest parts (at r name) ≡ newest whole (at r name)
  newest_alike name = by_test (touches (at r name)) (touches_test (at r name))

  pub live_alike : live_columns parts r ≡ live_columns whole r
  live_alike = live_columns_alike parts whole r (λ name. ap value_of (newest_alike name))

  -- the same transactions delete ranges with a location
  ranges_alike : (name : List ℕ) (s : StampValue) → ranges_at parts (at r name) s ≡ ranges_at whole (at r name) s
  ranges_alike name s =
      same_ranges (at r name) s parts whole
      (each_of (strikes (at r name)) (strikes_test (at r name)))
      (all_of (strikes (at r name)) (strikes_test (at r name)))
      (by_test (is_row_deletion r) (deletion_test r))

  pub rest_alike : (p : Predicate) (s : StampValue) → RowRestsOn parts r p s ↔ RowRestsOn whole r p s
  rest_alike p s =
      let deletion = by_test (is_row_deletion r) (deletion_test r) in (
        row_alike parts whole r p s live_alike (λ name. location_alike (at r name) parts whole s (newest_alike name) deletion (ranges_alike name s)) deletion,
        row_alike whole parts r p s (sym live_alike) (λ name. location_alike (at r name) whole parts s (sym (newest_alike name)) (sym deletion) (sym (ranges_alike name s))) (sym deletion),
      )

-- ---- what a read of a row rests on is one of the history's transactions
newest_entry : (q : Change → Bool) (h : History) (s : StampValue) → stamp_of (newest_of q h) ≡ Some s → (c : Committed) × Contains h c × (c.stamp ≡ s)
newest_entry q h s e = go (newest_of q h) refl e
  where
    go : (o : Option Stamped) → newest_of q h ≡ o → stamp_of o ≡ Some s → (c : Committed) × Contains h c × (c.stamp ≡ s)
    go None f g = absurd (cc)
    go (Some x) f g =
        let n = newest_some q h x f in
        let is : x.stamp ≡ s = cc in
        (n.entry, n.among, n.stamp ∙ is)

pub rested_entry : (h : History) (r : Row) (p : Predicate) (s : StampValue) → RowRestsOn h r p s → (c : Committed) × Contains h c × (c.stamp ≡ s)
rested_entry h r p s (inl (name, looked, inl column)) = newest_entry (touches (at r name)) h s column.1
rested_entry h r p s (inl (name, looked, inr (inl gone))) = newest_entry (is_row_deletion r) h s gone
rested_entry h r p s (inl (name, looked, inr (inr range))) = let c = range_entry (at r name) s h range in (c.0, c.1, c.2)
rested_entry h r p s (inr gone) = newest_entry (is_row_deletion r) h s gone

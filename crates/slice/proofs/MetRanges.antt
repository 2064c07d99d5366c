-- A range deletion counts for a read of a row exactly where it counts at some column that the read looked at.
use Rattle.std.proofs.Common.{◌≡◌, ◌∙◌, ℕ, ap, sym, refl, inl, inr, Bool, true, ◌&&◌, ◌||◌, not, List, [], ◌∷◌, Some, ◌↔◌, ◌⊎◌}
use Rattle.std.specs.List.{list_any}
use Rattle.std.specs.Ordering.{is_eq}
use Rattle.logical_time.specs.Stamps.{StampValue, stamp_cmp}
use Rattle.column_family.specs.declared.batch.Row.{Row}
use Rattle.column_family.specs.declared.batch.Change.{Change}
use Rattle.column_family.specs.declared.batch.Mutation.{Mutation}
use Rattle.column_family.specs.declared.batch.Mutation.TheVariants.{Insert, DeleteColumn, DeleteRow, DeleteRange}
use Rattle.column_family.specs.Location.{deletes_range, is_same_row, ranges_over, is_row_deletion}
use Rattle.column_family.specs.History.{History, newest_of, stamp_of, leaves_range, is_older_than, ranges_at}
use Rattle.column_family.specs.Normal.{IsInOrderOf, IsNormal}
use Rattle.column_family.proofs.Leaving.{leaves_one, leaves_same, none_follows, order_of_rest, unasked}
use Rattle.column_family.proofs.Options.{both_true, either_true, both_hold, first_holds, second_holds}
use Rattle.slice.specs.declared.column.Column.{Column}
use Rattle.slice.specs.declared.predicate.Predicate.{Predicate}
use Rattle.slice.specs.Slice.{slice_of}
use Rattle.slice.specs.Live.{live_columns}
use Rattle.slice.specs.Rests.{is_looked_at, RowRestsOn, RestsByNewest}
use Rattle.slice.specs.Meeting.{meets_range, leaves_met, ranges_met}
use Rattle.slice.proofs.LiveTable.{at}
use Rattle.slice.proofs.Ranges.{meets_exactly}

-- ---- of a batch
range_met : (p : Predicate) (columns : List Column) (m : Mutation) → meets_range p columns m ≡ true → (name : List ℕ) × (is_looked_at p columns name ≡ true) × (ranges_over m name ≡ true)
range_met p columns (Insert n v) h = absurd (cc)
range_met p columns (DeleteColumn n) h = absurd (cc)
range_met p columns DeleteRow h = absurd (cc)
range_met p columns (DeleteRange s f) h = (meets_exactly p columns s f).0 h

met_range : (p : Predicate) (columns : List Column) (m : Mutation) (name : List ℕ) → is_looked_at p columns name ≡ true → ranges_over m name ≡ true → meets_range p columns m ≡ true
met_range p columns (Insert n v) name h k = absurd (cc)
met_range p columns (DeleteColumn n) name h k = absurd (cc)
met_range p columns DeleteRow name h k = absurd (cc)
met_range p columns (DeleteRange s f) name h k = (meets_exactly p columns s f).1 (name, h, k)

module _ (r : Row) (p : Predicate) (columns : List Column) where
  batch_met : (cs : List Change) → leaves_met r p columns cs ≡ true → (name : List ℕ) × (is_looked_at p columns name ≡ true) × (leaves_one (at r name) cs ≡ true)
  batch_met [] h = absurd (cc)
  batch_met (c ∷ cs) h = go (λ g. batch_met cs g) (either_true (is_same_row r c.row && (meets_range p columns c.mutation && not (list_any (is_row_deletion r) cs))) (leaves_met r p columns cs) h)
    where
      go : (leaves_met r p columns cs ≡ true → (name : List ℕ) × (is_looked_at p columns name ≡ true) × (leaves_one (at r name) cs ≡ true))
          → (((is_same_row r c.row && (meets_range p columns c.mutation && not (list_any (is_row_deletion r) cs))) ≡ true) ⊎ (leaves_met r p columns cs ≡ true))
          → (name : List ℕ) × (is_looked_at p columns name ≡ true) × (leaves_one (at r name) (c ∷ cs) ≡ true)
      go ih (inl g) =
          let e = both_true (is_same_row r c.row) (meets_range p columns c.mutation && not (list_any (is_row_deletion r) cs)) g in
          let d = both_true (meets_range p columns c.mutation) (not (list_any (is_row_deletion r) cs)) e.1 in
          let f = range_met p columns c.mutation d.0 in
          (f.0, f.1, first_holds _ _ (both_hold (is_same_row r c.row) _ e.0 (both_hold (ranges_over c.mutation f.0) (not (list_any (is_row_deletion r) cs)) f.2 d.1)))
      go ih (inr g) = let f = ih g in (f.0, f.1, second_holds _ _ f.2)

  met_batch : (cs : List Change) (name : List ℕ) → is_looked_at p columns name ≡ true → leaves_one (at r name) cs ≡ true → leaves_met r p columns cs ≡ true
  met_batch [] name k h = absurd (cc)
  met_batch (c ∷ cs) name k h = go (λ g. met_batch cs name k g) (either_true (is_same_row r c.row && (ranges_over c.mutation name && not (list_any (is_row_deletion r) cs))) (leaves_one (at r name) cs) h)
    where
      go : (leaves_one (at r name) cs ≡ true → leaves_met r p columns cs ≡ true)
          → (((is_same_row r c.row && (ranges_over c.mutation name && not (list_any (is_row_deletion r) cs))) ≡ true) ⊎ (leaves_one (at r name) cs ≡ true))
          → leaves_met r p columns (c ∷ cs) ≡ true
      go ih (inl g) =
          let e = both_true (is_same_row r c.row) (ranges_over c.mutation name && not (list_any (is_row_deletion r) cs)) g in
          let d = both_true (ranges_over c.mutation name) (not (list_any (is_row_deletion r) cs)) e.1 in
          first_holds _ _ (both_hold (is_same_row r c.row) _ e.0 (both_hold (meets_range p columns c.mutation) (not (list_any (is_row_deletion r) cs)) (met_range p columns c.mutation name k d.0) d.1))
      go ih (inr g) = second_holds _ _ (ih g)

  meets_of_range : (m : Mutation) → meets_range p columns m ≡ true → deletes_range m ≡ true
  meets_of_range (Insert n v) h = absurd (cc)
  meets_of_range (DeleteColumn n) h = absurd (cc)
  meets_of_range DeleteRow h = absurd (cc)
  meets_of_range (DeleteRange s f) h = refl

  ordered_met : (batch cs : List Change) → IsInOrderOf batch cs → leaves_met r p columns cs ≡ list_any (λ c. is_same_row r c.row && meets_range p columns c.mutation) cs
  ordered_met batch [] h = refl
  ordered_met batch (c ∷ cs) h =
      ap (λ (x : Bool). x || leaves_met r p columns cs) (unasked (is_same_row r c.row) (meets_range p columns c.mutation) (list_any (is_row_deletion r) cs) (λ s o. none_follows batch r c cs h s (meets_of_range c.mutation o)))
      ∙ ap (λ (x : Bool). (is_same_row r c.row && meets_range p columns c.mutation) || x) (ordered_met batch cs (order_of_rest batch c cs h))

  -- of a normal form each deletion of a range that meets the read counts
  pub normal_met : (cs : List Change) → IsNormal cs → leaves_met r p columns cs ≡ list_any (λ c. is_same_row r c.row && meets_range p columns c.mutation) cs
  normal_met cs h = ordered_met cs cs h

  -- ---- of a history
  history_met : (s : StampValue) (h : History) → list_any (λ c. is_eq (stamp_cmp c.stamp s) && leaves_met r p columns c.batch) h ≡ true
      → (name : List ℕ) × (is_looked_at p columns name ≡ true) × (list_any (λ c. is_eq (stamp_cmp c.stamp s) && leaves_range (at r name) c.batch) h ≡ true)
  history_met s [] e = absurd (cc)
  history_met s (c ∷ h) e = go (λ g. history_met s h g) (either_true (is_eq (stamp_cmp c.stamp s) && leaves_met r p columns c.batch) (list_any (λ d. is_eq (stamp_cmp d.stamp s) && leaves_met r p columns d.batch) h) e)
    where
      go : (list_any (λ d. is_eq (stamp_cmp d.stamp s) && leaves_met r p columns d.batch) h ≡ true → (name : List ℕ) × (is_looked_at p columns name ≡ true) × (list_any (λ d. is_eq (stamp_cmp d.stamp s) && leaves_range (at r name) d.batch) h ≡ true))
          → (((is_eq (stamp_cmp c.stamp s) && leaves_met r p columns c.batch) ≡ true) ⊎ (list_any (λ d. is_eq (stamp_cmp d.stamp s) && leaves_met r p columns d.batch) h ≡ true))
          → (name : List ℕ) × (is_looked_at p columns name ≡ true) × (list_any (λ d. is_eq (stamp_cmp d.stamp s) && leaves_range (at r name) d.batch) (c ∷ h) ≡ true)
      go ih (inl g) =
          let b = both_true (is_eq (stamp_cmp c.stamp s)) (leaves_met r p columns c.batch) g in
          let f = batch_met c.batch b.1 in
          (f.0, f.1, first_holds _ _ (both_hold (is_eq (stamp_cmp c.stamp s)) (leaves_range (at r f.0) c.batch) b.0 (leaves_same (at r f.0) c.batch ∙ f.2)))
      go ih (inr g) = let f = ih g in (f.0, f.1, second_holds _ _ f.2)

  met_history : (s : StampValue) (h : History) (name : List ℕ) → is_looked_at p columns name ≡ true → list_any (λ c. is_eq (stamp_cmp c.stamp s) && leaves_range (at r name) c.batch) h ≡ true
      → list_any (λ c. is_eq (stamp_cmp c.stamp s) && leaves_met r p columns c.batch) h ≡ true
  met_history s [] name k e = absurd (cc)
  met_history s (c ∷ h) name k e = go (λ g. met_history s h name k g) (either_true (is_eq (stamp_cmp c.stamp s) && leaves_range (at r name) c.batch) (list_any (λ d. is_eq (stamp_cmp d.stamp s) && leaves_range (at r name) d.batch) h) e)
    where
      go : (list_any (λ d. is_eq (stamp_cmp d.stamp s) && leaves_range (at r name) d.batch) h ≡ true → list_any (λ d. is_eq (stamp_cmp d.stamp s) && leaves_met r p columns d.batch) h ≡ true)
          → (((is_eq (stamp_cmp c.stamp s) && leaves_range (at r name) c.batch) ≡ true) ⊎ (list_any (λ d. is_eq (stamp_cmp d.stamp s) && leaves_range (at r name) d.batch) h ≡ true))
          → list_any (λ d. is_eq (stamp_cmp d.stamp s) && leaves_met r p columns d.batch) (c ∷ h) ≡ true
      go ih (inl g) =
          let b = both_true (is_eq (stamp_cmp c.stamp s)) (leaves_range (at r name) c.batch) g in
          first_holds _ _ (both_hold (is_eq (stamp_cmp c.stamp s)) (leaves_met r p columns c.batch) b.0 (met_batch c.batch name k (sym (leaves_same (at r name) c.batch) ∙ b.1)))
      go ih (inr g) = second_holds _ _ (ih g)

  -- a transaction's ranges meet the read exactly where they count at some column that it looked at
  pub met_exactly : (h : History) (s : StampValue) → (ranges_met h r p columns s ≡ true) ↔ ((name : List ℕ) × (is_looked_at p columns name ≡ true) × (ranges_at h (at r name) s ≡ true))
  met_exactly h s = (
    λ e.
        let b = both_true (list_any (λ c. is_eq (stamp_cmp c.stamp s) && leaves_met r p columns c.batch) h) (not (is_older_than (newest_of (is_row_deletion r) h) s)) e in
        let f = history_met s h b.0 in
        (f.0, f.1, both_hold (list_any (λ c. is_eq (stamp_cmp c.stamp s) && leaves_range (at r f.0) c.batch) h) (not (is_older_than (newest_of (is_row_deletion r) h) s)) f.2 b.1),
    λ f.
        let b = both_true (list_any (λ c. is_eq (stamp_cmp c.stamp s) && leaves_range (at r f.0) c.batch) h) (not (is_older_than (newest_of (is_row_deletion r) h) s)) f.2 in
        both_hold (list_any (λ c. is_eq (stamp_cmp c.stamp s) && leaves_met r p columns c.batch) h) (not (is_older_than (newest_of (is_row_deletion r) h) s)) (met_history s h f.0 f.1 b.0) b.1,
  )

-- ---- what the read of a row rests on, by its newest mutations, its deletion and the ranges that meet it
pub row_rests_by : (h : History) (r : Row) (p : Predicate) (s : StampValue) → RowRestsOn h r p s
    ↔ (RestsByNewest h r p (slice_of p (live_columns h r)) s ⊎ ((stamp_of (newest_of (is_row_deletion r) h) ≡ Some s) ⊎ (ranges_met h r p (slice_of p (live_columns h r)) s ≡ true)))
row_rests_by h r p s = (to, from)
  where
    to : RowRestsOn h r p s → RestsByNewest h r p (slice_of p (live_columns h r)) s ⊎ ((stamp_of (newest_of (is_row_deletion r) h) ≡ Some s) ⊎ (ranges_met h r p (slice_of p (live_columns h r)) s ≡ true))
    to (inl (name, looked, inl c)) = inl (name, looked, c.0, c.1)
    to (inl (name, looked, inr (inl d))) = inr (inl d)
    to (inl (name, looked, inr (inr t))) = inr (inr ((met_exactly r p (slice_of p (live_columns h r)) h s).1 (name, looked, t)))
    to (inr d) = inr (inl d)

    from : RestsByNewest h r p (slice_of p (live_columns h r)) s ⊎ ((stamp_of (newest_of (is_row_deletion r) h) ≡ Some s) ⊎ (ranges_met h r p (slice_of p (live_columns h r)) s ≡ true)) → RowRestsOn h r p s
    from (inl f) = inl (f.0, f.1, inl (f.2, f.3))
    from (inr (inl d)) = inr d
    from (inr (inr t)) = let f = (met_exactly r p (slice_of p (live_columns h r)) h s).0 t in inl (f.0, f.1, inr (inr f.2))

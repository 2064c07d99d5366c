-- The part by the newest versions is right from its earliest valid time on.
use Rattle.std.proofs.Common.{◌≡◌, ◌∙◌, sym, ap, subst, refl, ℕ, ◌≤◌, inl, inr, Bool, true, false, not, ◌&&◌, ◌||◌, nat_le, List, [], ◌∷◌, Option, Some, None, option_map, arith}
use Rattle.std.specs.Prelude.{filter_map, flat_map, is_some, Contains}
use Rattle.std.specs.Ordering.{nat_cmp, is_eq}
use Rattle.std.specs.Cmp.Lexicographic.{slice_cmp}
use Rattle.std.specs.List.{list_any}
use Rattle.std.proofs.lemmas.Bool.Decides.{nat_tests}
use Rattle.logical_time.specs.Stamps.{StampValue, WriterValue, stamp_cmp}
use Rattle.column_family.specs.declared.batch.Row.{Row}
use Rattle.column_family.specs.declared.batch.Change.{Change}
use Rattle.column_family.specs.declared.batch.Committed.{Committed}
use Rattle.column_family.specs.declared.batch.Mutation.{Mutation}
use Rattle.column_family.specs.declared.batch.Mutation.TheVariants.{Insert, DeleteColumn, DeleteRow, DeleteRange}
use Rattle.column_family.specs.Names.{is_between}
use Rattle.column_family.specs.Location.{is_same_row, deletes_row, ranges_over, strikes, touches, is_column_change, is_row_deletion}
use Rattle.column_family.specs.History.{History, Stamped, newer_of, newest, newest_of, value_of, stamp_of, is_older_than, leaves_range, ranges_at, RestsOn}
use Rattle.column_family.proofs.Leaving.{normal_leaves}
use Rattle.column_family.proofs.Options.{both_true, both_hold}
use Rattle.slice.specs.declared.column.Column.{Column}
use Rattle.slice.specs.declared.predicate.Predicate.{Predicate}
use Rattle.slice.specs.Slice.{is_asked, slice_of}
use Rattle.slice.specs.Live.{column_changed, columns_changed, live_column, live_columns}
use Rattle.slice.specs.Rests.{is_within, is_looked_at, RowRestsOn}
use Rattle.slice.proofs.Asked.{is_among}
use Rattle.slice.proofs.LiveTable.{at, live_if_in_table}
use Rattle.slice.proofs.NameOrder.{sorted_in_order}
use Rattle.slice.proofs.Ranges.{asks_exactly}
use Rattle.store.specs.declared.part.Applied.{Applied}
use Rattle.store.specs.declared.part.Part.{Part}
use Rattle.store.specs.Part.{committed_of, history_of, applied_by, IsRestedOn, IsRightPart, IsNewestPart, commit_of, column_evt, evt_of}
use Rattle.store.specs.Keeps.{AreApart, is_row_newer}
use Rattle.store.proofs.lists.Lists.{none_in_empty, first_or_rest, kept, kept_only, given_only, any_has, any_found, not_true, mapped, mapped_only}
use Rattle.slice.proofs.Changed.{among_if_changed, own_name}
use Rattle.store.proofs.newest.Newer.{newest_by, history_by}
use Rattle.store.proofs.newest.Apart.{apart_by, one_part, newest_from, normal_part}
use Rattle.store.proofs.newest.Passing.{newest_passes, same_stamp, strike_kind}
use Rattle.store.proofs.times.Ranged.{evt_of_part}
use Rattle.store.proofs.newest.Touched.{newest_touch}
use Rattle.store.proofs.seen.Slices.{slice_alike, asked_some, live_keeps_names}
use Rattle.store.proofs.seen.View.{below_greatest, newest_strike, row_level, range_level}

-- ---- a column that is live is among those that are changed
among_contained : (q : List ℕ) (ns : List (List ℕ)) → Contains ns q → is_among q ns ≡ true
among_contained q [] has = absurd (none_in_empty q has)
among_contained q (n ∷ ns) has = elim (first_or_rest n q ns has) [
  | inl here ↦ (let e : is_eq (slice_cmp nat_cmp q n) ≡ true = ap (λ (m : List ℕ). is_eq (slice_cmp nat_cmp q m)) here ∙ own_name q in rw e refl)
  | inr there ↦ more (is_eq (slice_cmp nat_cmp q n)) (among_contained q ns there)
]
  where
    more : (b : Bool) → is_among q ns ≡ true → (b || is_among q ns) ≡ true
    more true e = refl
    more false e = e

live_among : (h : History) (r : Row) (n : List ℕ) → is_some (live_column h r n) ≡ true → is_among n (columns_changed h r) ≡ true
live_among h r n some = go (value_of (newest h (at r n))) refl some
  where
    go : (o : Option (List ℕ)) → value_of (newest h (at r n)) ≡ o → is_some {T = Column} (option_map (λ v. record { name = n; value = v }) o) ≡ true → is_among n (columns_changed h r) ≡ true
    go None e s = absurd (cc)
    go (Some v) e s =
        let c : Column = record { name = n; value = v } in
        let g = given_only (live_column h r) (columns_changed h r) c ((live_if_in_table h r c).1 e) in
        let same : n ≡ g.0 = live_keeps_names h r g.0 c g.2 in
        among_contained n (columns_changed h r) (subst (Contains (columns_changed h r)) (sym same) g.1)

-- ---- two histories that agree on what is asked
pub slices_agree : (h k : History) (r : Row) (p : Predicate) → ((n : List ℕ) → is_asked p n ≡ true → newest h (at r n) ≡ newest k (at r n))
    → slice_of p (live_columns h r) ≡ slice_of p (live_columns k r)
slices_agree h k r p agree =
    slice_alike p (live_column h r) (live_column k r) (live_keeps_names h r) (live_keeps_names k r) (columns_changed h r) (columns_changed k r)
    (sorted_in_order (flat_map (λ c. filter_map (column_changed r) c.batch) h)) (sorted_in_order (flat_map (λ c. filter_map (column_changed r) c.batch) k))
    (λ n asked. ap (λ (o : Option Stamped). option_map (λ (v : List ℕ). record { name = n; value = v }) (value_of o)) (agree n asked))
    (λ n some. live_among h r n (asked_some p (live_column h r) n some).1)
    (λ n some. live_among k r n (asked_some p (live_column k r) n some).1)

pub rests_agree : (h k : History) (r : Row) (p : Predicate) (w : StampValue) → slice_of p (live_columns h r) ≡ slice_of p (live_columns k r)
    → ((n : List ℕ) → is_asked p n ≡ true → newest_of (is_column_change (at r n)) h ≡ newest_of (is_column_change (at r n)) k)
    → ((n : List ℕ) → is_asked p n ≡ true → newest h (at r n) ≡ newest k (at r n))
    → newest_of (is_row_deletion r) h ≡ newest_of (is_row_deletion r) k
    → ((n : List ℕ) → is_asked p n ≡ true → ranges_at h (at r n) w ≡ true → ranges_at k (at r n) w ≡ true)
    → RowRestsOn h r p w → RowRestsOn k r p w
rests_agree h k r p w slices changes touched gone ranges (inr e) = inr (ap stamp_of (sym gone) ∙ e)
rests_agree h k r p w slices changes touched gone ranges (inl (n, looked, rests)) =
    inl (n, ap (λ (cs : List Column). is_looked_at p cs n) (sym slices) ∙ looked, column rests)
  where
    asked : is_asked p n ≡ true
    asked = (both_true (is_asked p n) (is_within p (slice_of p (live_columns h r)) n) looked).0

    column : RestsOn h (at r n) w → RestsOn k (at r n) w
    column (inl c) = inl (ap is_some (sym (changes n asked)) ∙ c.0, ap stamp_of (sym (touched n asked)) ∙ c.1)
    column (inr (inl e)) = inr (inl (ap stamp_of (sym gone) ∙ e))
    column (inr (inr e)) = inr (inr (ranges n asked e))

-- ---- what a read rests on was applied
stamp_from : (q : Change → Bool) (applied : List Applied) (w : StampValue) → stamp_of (newest_of q (history_of applied)) ≡ Some w → (b : Applied) × Contains applied b × (b.stamp ≡ w)
stamp_from q applied w e = go (newest_of q (history_of applied)) refl e
  where
    go : (o : Option Stamped) → newest_of q (history_of applied) ≡ o → stamp_of o ≡ Some w → (b : Applied) × Contains applied b × (b.stamp ≡ w)
    go None f g = absurd (cc)
    go (Some y) f g = let b = newest_from q applied y f in let same : y.stamp ≡ w = cc in (b.0, b.1, b.2 ∙ same)

pub rested_from : (applied : List Applied) (r : Row) (p : Predicate) (w : StampValue) → RowRestsOn (history_of applied) r p w → (b : Applied) × Contains applied b × (b.stamp ≡ w)
rested_from applied r p w (inr e) = stamp_from (is_row_deletion r) applied w e
rested_from applied r p w (inl (n, looked, rests)) = elim rests [
  | inl c ↦ stamp_from (touches (at r n)) applied w c.1
  | inr d ↦ elim d [
    | inl e ↦ stamp_from (is_row_deletion r) applied w e
    | inr e ↦
        (let b = both_true (list_any (λ (c : Committed). is_eq (stamp_cmp c.stamp w) && leaves_range (at r n) c.batch) (history_of applied)) (not (is_row_newer applied r w)) e in
        let c = any_found (λ (c : Committed). is_eq (stamp_cmp c.stamp w) && leaves_range (at r n) c.batch) (history_of applied) b.0 in
        let a = mapped_only committed_of applied c.0 c.1 in
        let t = both_true (is_eq (stamp_cmp c.0.stamp w)) (leaves_range (at r n) c.0.batch) c.2 in
        (a.0, a.1, ap (λ (k : Committed). k.stamp) a.2 ∙ same_stamp c.0.stamp w t.0))
  ]
]

-- ---- by the time all that is asked is as it is now
deletion_agrees : (all : List Applied) (r : Row) (p : Predicate) (t : ℕ) → evt_of (history_of all) r p ≤ t
    → newest_of (is_row_deletion r) (history_of all) ≡ newest_of (is_row_deletion r) (history_of (applied_by t all))
deletion_agrees all r p t le =
    sym (ap (newest_of (is_row_deletion r)) (history_by t all) ∙ newest_by (is_row_deletion r) t (history_of all) (omega (arith, le)))

change_agrees : (all : List Applied) (r : Row) (p : Predicate) (t : ℕ) → evt_of (history_of all) r p ≤ t → (n : List ℕ) → is_asked p n ≡ true
    → newest_of (is_column_change (at r n)) (history_of all) ≡ newest_of (is_column_change (at r n)) (history_of (applied_by t all))
change_agrees all r p t le n asked =
    sym (ap (newest_of (is_column_change (at r n))) (history_by t all) ∙ newest_by (is_column_change (at r n)) t (history_of all) (go (newest_of (is_column_change (at r n)) (history_of all)) refl))
  where
    go : (o : Option Stamped) → newest_of (is_column_change (at r n)) (history_of all) ≡ o → commit_of (newest_of (is_column_change (at r n)) (history_of all)) ≤ t
    go None e = rw e (omega arith)
    go (Some y) e =
        let below = below_greatest (column_evt (history_of all) r p) n (columns_changed (history_of all) r) (among_if_changed r n (history_of all) ∙ ap is_some e) in
        let own : column_evt (history_of all) r p n ≡ commit_of (newest_of (is_column_change (at r n)) (history_of all)) = rw asked refl in
        omega (arith, le, below, own)

-- what is newest of a row's deletions is committed with that of its stamp
deletion_commit : (all : List Applied) (r : Row) (a : Applied) → AreApart all → Contains all a → stamp_of (newest_of (is_row_deletion r) (history_of all)) ≡ Some a.stamp
    → commit_of (newest_of (is_row_deletion r) (history_of all)) ≡ a.commit
deletion_commit all r a apart has e = go (newest_of (is_row_deletion r) (history_of all)) refl e
  where
    go : (o : Option Stamped) → newest_of (is_row_deletion r) (history_of all) ≡ o → stamp_of o ≡ Some a.stamp → commit_of o ≡ a.commit
    go None is f = absurd (cc)
    go (Some y) is f =
        let p = newest_passes (is_row_deletion r) all y is in
        let same : y.stamp ≡ a.stamp = cc in
        let one : p.0 ≡ a = one_part all apart p.0 a p.2 has (p.3 ∙ same) in
        sym p.4 ∙ ap (λ (b : Applied). b.commit) one

-- what strikes an asked column is committed by the time
strike_by : (all : List Applied) (r : Row) (p : Predicate) (t : ℕ) → AreApart all → evt_of (history_of all) r p ≤ t → (n : List ℕ) → is_asked p n ≡ true
    → commit_of (newest_strike all r n) ≤ t
strike_by all r p t apart le n asked = go (newest_strike all r n) refl
  where
    go : (o : Option Stamped) → newest_strike all r n ≡ o → commit_of o ≤ t
    go None is = omega arith
    go (Some y) is =
        let q = newest_passes (strikes (at r n)) all y is in
        let b = both_true (is_same_row r q.1.row) (deletes_row q.1.mutation || ranges_over q.1.mutation n) q.6 in
        elim (strike_kind q.1.mutation n b.1) [
          | inl row ↦
              (let stamp = row_level all r n y q.0 q.1 is (sym q.3) q.2 q.5 (both_hold (is_same_row r q.1.row) (deletes_row q.1.mutation) b.0 row) in
              let same = deletion_commit all r q.0 apart q.2 stamp in
              omega (arith, le, same, q.4))
          | inr range ↦
              (let evt = evt_of_part all r p q.0 q.1 range.0 range.1 apart q.2 q.5 b.0 range.2 (ap (is_row_newer all r) q.3 ∙ range_level all r n y is)
              ((asks_exactly p range.0 range.1).1 (n, asked, range.3)) in
              omega (arith, le, evt, q.4))
        ]

strike_agrees : (all : List Applied) (r : Row) (p : Predicate) (t : ℕ) → AreApart all → evt_of (history_of all) r p ≤ t → (n : List ℕ) → is_asked p n ≡ true
    → newest_strike all r n ≡ newest_strike (applied_by t all) r n
strike_agrees all r p t apart le n asked =
    sym (ap (newest_of (strikes (at r n))) (history_by t all) ∙ newest_by (strikes (at r n)) t (history_of all) (strike_by all r p t apart le n asked))

pub touch_agrees : (all : List Applied) (r : Row) (p : Predicate) (t : ℕ) → AreApart all → evt_of (history_of all) r p ≤ t → (n : List ℕ) → is_asked p n ≡ true
    → newest (history_of all) (at r n) ≡ newest (history_of (applied_by t all)) (at r n)
touch_agrees all r p t apart le n asked =
    newest_touch all apart (at r n)
    ∙ ap (λ (o : Option Stamped). newer_of o (newest_strike all r n)) (change_agrees all r p t le n asked)
    ∙ ap (newer_of (newest_of (is_column_change (at r n)) (history_of (applied_by t all)))) (strike_agrees all r p t apart le n asked)
    ∙ sym (newest_touch (applied_by t all) (apart_by t all apart) (at r n))

-- ---- deletions of ranges that count at an asked column
over_kind : (m : Mutation) (n : List ℕ) → ranges_over m n ≡ true → (s : List ℕ) × (e : List ℕ) × (m ≡ DeleteRange s e) × (is_between s e n ≡ true)
over_kind (Insert a v) n h = absurd (cc)
over_kind (DeleteColumn a) n h = absurd (cc)
over_kind DeleteRow n h = absurd (cc)
over_kind (DeleteRange s e) n h = (s, e, refl, h)

-- whether a part of this stamp deletes a range with the location
abbrev has_left : Row → List ℕ → StampValue → List Applied → Bool
has_left r n w applied = list_any (λ (c : Committed). is_eq (stamp_cmp c.stamp w) && leaves_range (at r n) c.batch) (history_of applied)

-- one that does
left_by : (applied : List Applied) (r : Row) (n : List ℕ) (w : StampValue) → has_left r n w applied ≡ true
    → (a : Applied) × Contains applied a × (is_eq (stamp_cmp a.stamp w) ≡ true) × (leaves_range (at r n) a.part.batch ≡ true)
left_by applied r n w e =
    let c = any_found (λ (c : Committed). is_eq (stamp_cmp c.stamp w) && leaves_range (at r n) c.batch) (history_of applied) e in
    let a = mapped_only committed_of applied c.0 c.1 in
    let t = both_true (is_eq (stamp_cmp c.0.stamp w)) (leaves_range (at r n) c.0.batch) c.2 in
    (a.0, a.1, ap (λ (k : Committed). is_eq (stamp_cmp k.stamp w)) a.2 ∙ t.0, ap (λ (k : Committed). leaves_range (at r n) k.batch) a.2 ∙ t.1)

by_left : (applied : List Applied) (r : Row) (n : List ℕ) (w : StampValue) (a : Applied) → Contains applied a → is_eq (stamp_cmp a.stamp w) ≡ true
    → leaves_range (at r n) a.part.batch ≡ true → has_left r n w applied ≡ true
by_left applied r n w a has same left =
    any_has (λ (c : Committed). is_eq (stamp_cmp c.stamp w) && leaves_range (at r n) c.batch) (history_of applied) (committed_of a) (mapped committed_of applied a has)
    (both_hold (is_eq (stamp_cmp a.stamp w)) (leaves_range (at r n) a.part.batch) same left)

ranges_then : (all : List Applied) (r : Row) (p : Predicate) (t : ℕ) (w : StampValue) → AreApart all → evt_of (history_of all) r p ≤ t → (n : List ℕ) → is_asked p n ≡ true
    → ranges_at (history_of all) (at r n) w ≡ true → ranges_at (history_of (applied_by t all)) (at r n) w ≡ true
ranges_then all r p t w apart le n asked e =
    let b = both_true (has_left r n w all) (not (is_row_newer all r w)) e in
    let a = left_by all r n w b.0 in
    let c = any_found (λ (c : Change). is_same_row r c.row && ranges_over c.mutation n) a.0.part.batch
    (sym (normal_leaves a.0.part.batch (normal_part all apart a.0 a.1) (at r n)) ∙ a.3) in
    let g = both_true (is_same_row r c.0.row) (ranges_over c.0.mutation n) c.2 in
    let k = over_kind c.0.mutation n g.1 in
    let stands : is_row_newer all r a.0.stamp ≡ false = ap (is_row_newer all r) (same_stamp a.0.stamp w a.2) ∙ not_true (is_row_newer all r w) b.1 in
    let evt = evt_of_part all r p a.0 c.0 k.0 k.1 apart a.1 c.1 g.0 k.2 stands ((asks_exactly p k.0 k.1).1 (n, asked, k.3)) in
    let by : nat_le a.0.commit t ≡ true = is_le a.0.commit t (omega (arith, le, evt)) in
    both_hold (has_left r n w (applied_by t all)) (not (is_row_newer (applied_by t all) r w))
    (by_left (applied_by t all) r n w a.0 (kept (λ (x : Applied). nat_le x.commit t) all a.0 a.1 by) a.2 a.3)
    (ap (λ (o : Option Stamped). not (is_older_than o w)) (sym (deletion_agrees all r p t le)) ∙ b.1)
  where
    is_le : (m n : ℕ) → m ≤ n → nat_le m n ≡ true
    is_le m n le = grind (arith, nat_tests, le)

ranges_ever : (all : List Applied) (r : Row) (p : Predicate) (t : ℕ) (w : StampValue) → evt_of (history_of all) r p ≤ t → (n : List ℕ) → is_asked p n ≡ true
    → ranges_at (history_of (applied_by t all)) (at r n) w ≡ true → ranges_at (history_of all) (at r n) w ≡ true
ranges_ever all r p t w le n asked e =
    let b = both_true (has_left r n w (applied_by t all)) (not (is_row_newer (applied_by t all) r w)) e in
    let a = left_by (applied_by t all) r n w b.0 in
    both_hold (has_left r n w all) (not (is_row_newer all r w))
    (by_left all r n w a.0 (kept_only (λ (x : Applied). nat_le x.commit t) all a.0 a.1).0 a.2 a.3)
    (ap (λ (o : Option Stamped). not (is_older_than o w)) (deletion_agrees all r p t le) ∙ b.1)

-- from its earliest valid time on, the part by the newest versions is right
pub right_from_evt : (all : List Applied) (r : Row) (p : Predicate) (t : ℕ) (part : Part) → AreApart all → IsNewestPart all r p part → part.evt ≤ t → IsRightPart all r p t part
right_from_evt all r p t part apart newest_part from =
    let h = history_of all in
    let k = history_of (applied_by t all) in
    let le : evt_of h r p ≤ t = rw (← newest_part.evt) from in
    let gone = deletion_agrees all r p t le in
    let changes = change_agrees all r p t le in
    let touched = touch_agrees all r p t apart le in
    let slices = slices_agree h k r p touched in
    let forth : (w : StampValue) → RowRestsOn h r p w → RowRestsOn k r p w = λ w. rests_agree h k r p w slices changes touched gone (ranges_then all r p t w apart le) in
    let back : (w : StampValue) → RowRestsOn k r p w → RowRestsOn h r p w =
    λ w. rests_agree k h r p w (sym slices) (λ n asked. sym (changes n asked)) (λ n asked. sym (touched n asked)) (sym gone) (ranges_ever all r p t w le) in
    record {
      columns = newest_part.shown.columns ∙ slices;
      writers = λ w. (
        (λ has. by_then forth w ((newest_part.shown.writers w).0 has)),
        (λ rests. (newest_part.shown.writers w).1 (ever back w rests)),
      );
      in_order = newest_part.shown.in_order;
    }
  where
    by_then : ((w : StampValue) → RowRestsOn (history_of all) r p w → RowRestsOn (history_of (applied_by t all)) r p w) → (w : WriterValue) → IsRestedOn all r p w → IsRestedOn (applied_by t all) r p w
    by_then forth w (a, has, is, rests) =
        let rests' = forth a.stamp rests in
        let b = rested_from (applied_by t all) r p a.stamp rests' in
        let same : b.0 ≡ a = one_part all apart b.0 a (kept_only (λ (c : Applied). nat_le c.commit t) all b.0 b.1).0 has b.2 in
        (a, subst (Contains (applied_by t all)) same b.1, is, rests')

    ever : ((w : StampValue) → RowRestsOn (history_of (applied_by t all)) r p w → RowRestsOn (history_of all) r p w) → (w : WriterValue) → IsRestedOn (applied_by t all) r p w → IsRestedOn all r p w
    ever back w (a, has, is, rests) = (a, (kept_only (λ (c : Applied). nat_le c.commit t) all a has).0, is, back a.stamp rests)

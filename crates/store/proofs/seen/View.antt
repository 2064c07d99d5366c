-- What is seen of a row, where it stands for parts that stand apart.
use Rattle.std.proofs.Common.{◌≡◌, ◌∙◌, sym, ap, subst, refl, ℕ, ◌≤◌, ◌<◌, max, inl, inr, Bool, true, false, not, ◌&&◌, ◌||◌, zero, suc, List, [], ◌∷◌, ◌++◌, map, Option, Some, None, option_map, if◌then◌else◌, arith}
use Rattle.std.specs.Prelude.{filter, filter_map, flat_map, is_some, option_to_list, Contains, ◌⊎◌, ◌↔◌}
use Rattle.std.specs.Ordering.{nat_cmp, is_eq}
use Rattle.std.specs.Cmp.Lexicographic.{slice_cmp}
use Rattle.std.specs.List.{cons_option, list_any}
use Rattle.std.proofs.lemmas.List.Elements.{Contains-append_left, Contains-append_right, Contains-append_cases}
use Rattle.std.proofs.lemmas.Slice.Eq.{bytes_eq-Decides}
use Rattle.logical_time.specs.Stamps.{StampValue, WriterValue, stamp_cmp, is_older}
use Rattle.column_family.specs.declared.batch.Row.{Row}
use Rattle.column_family.specs.declared.batch.Change.{Change}
use Rattle.column_family.specs.declared.batch.Committed.{Committed}
use Rattle.column_family.specs.declared.batch.Mutation.{Mutation}
use Rattle.column_family.specs.declared.batch.Mutation.TheVariants.{Insert, DeleteColumn, DeleteRow, DeleteRange}
use Rattle.column_family.specs.Names.{is_between}
use Rattle.column_family.specs.Location.{is_same_row, deletes_row, ranges_over, strikes as strikes_location, is_column_change, is_row_deletion}
use Rattle.column_family.specs.History.{History, Stamped, newer_of, newest, newest_of, inserted, value_of, stamp_of, stamped, is_older_than}
use Rattle.column_family.proofs.Options.{by_cases, both_true, either_true, neither, both_hold}
use Rattle.versions.specs.declared.version.Version.{Version}
use Rattle.versions.specs.declared.range.RangeDeletion.{RangeDeletion}
use Rattle.slice.specs.declared.column.Column.{Column}
use Rattle.slice.specs.declared.predicate.Predicate.{Predicate}
use Rattle.slice.specs.Slice.{is_asked, slice_of}
use Rattle.slice.specs.Live.{live_column, live_columns, columns_changed, column_changed}
use Rattle.slice.specs.Meeting.{meets, asks_between, meets_range, leaves_met, ranges_met}
use Rattle.slice.specs.Rests.{is_within, is_looked_at, RestsByNewest}
use Rattle.slice.proofs.Asked.{is_among}
use Rattle.slice.proofs.LiveTable.{at}
use Rattle.slice.proofs.MetRanges.{normal_met, row_rests_by}
use Rattle.slice.proofs.NameOrder.{sorted_in_order}
use Rattle.slice.proofs.Ranges.{meets_exactly}
use Rattle.slice.proofs.Selected.{is_eq_named}
use Rattle.store.specs.declared.part.Applied.{Applied}
use Rattle.store.specs.declared.part.Part.{Part}
use Rattle.store.specs.Part.{committed_of, history_of, IsRestedOn, IsPartOf, commit_of, column_evt, greatest_of, evt_of}
use Rattle.store.specs.Stored.{Place, is_at}
use Rattle.store.specs.Keeps.{AreApart, mutation_of, stamped_of, IsFrom, IsRangeFrom, is_row_newer}
use Rattle.store.specs.Sight.{Sight, NamedVersion, AreSeen, is_covered, live_of, evt_or_0, evt_of_sight, writer_of, writers_of}
use Rattle.versions.specs.Ranges.{is_under}
use Rattle.store.specs.Struck.{strikes, is_struck, unstruck, writers_met, evt_asked, IsPartUnder}
use Rattle.store.proofs.lists.Lists.{none_in_empty, contains_first, contains_rest, first_or_rest, kept, kept_only, given, given_only, no_truth, or_left, or_right, any_has, any_found, same_if, not_true, not_false, mapped, mapped_only}
use Rattle.slice.proofs.Changed.{among_if_changed, own_name}
use Rattle.store.proofs.newest.Apart.{one_part, normal_part}
use Rattle.store.proofs.newest.Newer.{IsNoOlder, same_itself}
use Rattle.store.proofs.newest.Passing.{newest_passes, no_older_than, no_older_wider, older_still, older_twice, level, same_stamp, row_newer, strike_kind, strike_deletes, own_row, range_by, range_left, range_change}
use Rattle.store.proofs.times.Ranged.{asked_evt_below, asked_evt_above, evt_at_most}
use Rattle.store.proofs.newest.Touched.{newest_touch}
use Rattle.store.proofs.seen.Slices.{slice_alike, asked_some, live_keeps_names}

-- What is seen of each place of a row is the newest of these parts there, and comes from them; and these are the deletions of
-- ranges of the row that are newer than its newest deletion.
pub record IsView (applied : List Applied) (r : Row) (f : Sight) (xs : List RangeDeletion) : Type 0 where
  pub apart : AreApart applied
  pub newest_there : (q : Place) → option_map (stamped_of q) (f q) ≡ newest_of (is_at r q) (history_of applied)
  pub from : (q : Place) (v : Version) → f q ≡ Some v → IsFrom applied v
  pub ranges : (x : RangeDeletion) → Contains xs x ↔ (IsRangeFrom applied r x × (is_under (f None) x ≡ false))

abbrev names_of : List NamedVersion → List (List ℕ)
names_of seen = map (λ s. s.0) seen

-- ---- what strikes a column
-- the newest deletion of the column's row or of a range that has it
abbrev pub newest_strike : List Applied → Row → List ℕ → Option Stamped
newest_strike applied r n = newest_of (strikes_location (at r n)) (history_of applied)

covered_by : (d : Option Version) (v : Version) → is_covered d v ≡ is_older_than (option_map (stamped_of None) d) v.stamp
covered_by None v = refl
covered_by (Some d) v = refl

pub under_by : (d : Option Version) (x : RangeDeletion) → is_under d x ≡ is_older_than (option_map (stamped_of None) d) x.stamp
under_by None x = refl
under_by (Some d) x = refl

deletion_strikes : (r : Row) (n : List ℕ) (c : Change) → is_row_deletion r c ≡ true → strikes_location (at r n) c ≡ true
deletion_strikes r n c e =
    let b = both_true (is_same_row r c.row) (deletes_row c.mutation) e in
    both_hold (is_same_row r c.row) (deletes_row c.mutation || ranges_over c.mutation n) b.0 (or_left (deletes_row c.mutation) (ranges_over c.mutation n) b.1)

-- the newest deletion of the row, as it is seen
seen_newer : (applied : List Applied) (r : Row) (f : Sight) (xs : List RangeDeletion) (s : StampValue) → IsView applied r f xs
    → is_older_than (option_map (stamped_of None) (f None)) s ≡ is_row_newer applied r s
seen_newer applied r f xs s view = ap (λ (o : Option Stamped). is_older_than o s) (view.newest_there None)

-- a range that a part deletes is one of those that are seen, or the row's deletion is newer
pub range_or_row : (applied : List Applied) (r : Row) (f : Sight) (xs : List RangeDeletion) (a : Applied) (c : Change) (s e : List ℕ) → IsView applied r f xs
    → Contains applied a → Contains a.part.batch c → is_same_row r c.row ≡ true → c.mutation ≡ DeleteRange s e
    → Contains xs (range_by a s e) ⊎ (is_row_newer applied r a.stamp ≡ true)
range_or_row applied r f xs a c s e view has own row is =
    let x = range_left applied r a c s e has own row is in
    by_cases (is_under (f None) (range_by a s e))
    (λ gone. inr (sym (seen_newer applied r f xs a.stamp view) ∙ sym (under_by (f None) (range_by a s e)) ∙ gone))
    (λ stands. inl ((view.ranges (range_by a s e)).1 (x, stands)))

-- a deletion of its row or of a range strikes a column's version exactly where the newest of these is newer
struck_seen : (applied : List Applied) (r : Row) (f : Sight) (xs : List RangeDeletion) (n : List ℕ) (v : Version) → IsView applied r f xs
    → is_older_than (newest_strike applied r n) v.stamp ≡ (is_covered (f None) v || is_struck xs (n, v))
struck_seen applied r f xs n v view =
    same_if (is_older_than (newest_strike applied r n) v.stamp) (is_covered (f None) v || is_struck xs (n, v))
    (λ e. to (newest_strike applied r n) refl e)
    (λ e. from (either_true (is_covered (f None) v) (is_struck xs (n, v)) e))
  where
    covered : is_row_newer applied r v.stamp ≡ true → (is_covered (f None) v || is_struck xs (n, v)) ≡ true
    covered e = or_left (is_covered (f None) v) (is_struck xs (n, v)) (covered_by (f None) v ∙ seen_newer applied r f xs v.stamp view ∙ e)

    through : (s t : StampValue) → is_older s t ≡ true → (o : Option Stamped) → is_older_than o t ≡ true → is_older_than o s ≡ true
    through s t lt None e = absurd (cc)
    through s t lt (Some y) e = older_twice s t y.stamp lt e

    by_range : (a : Applied) (s e : List ℕ) → is_older v.stamp a.stamp ≡ true → is_between s e n ≡ true
        → Contains xs (range_by a s e) ⊎ (is_row_newer applied r a.stamp ≡ true) → (is_covered (f None) v || is_struck xs (n, v)) ≡ true
    by_range a s e lt between (inl x) =
        or_right (is_covered (f None) v) (is_struck xs (n, v))
        (any_has (λ (y : RangeDeletion). strikes y (n, v)) xs (range_by a s e) x (both_hold (is_between s e n) (is_older v.stamp a.stamp) between lt))
    by_range a s e lt between (inr gone) = covered (through v.stamp a.stamp lt (newest_of (is_row_deletion r) (history_of applied)) gone)

    to : (o : Option Stamped) → newest_strike applied r n ≡ o → is_older_than o v.stamp ≡ true → (is_covered (f None) v || is_struck xs (n, v)) ≡ true
    to None is e = absurd (cc)
    to (Some y) is e =
        let p = newest_passes (strikes_location (at r n)) applied y is in
        let b = both_true (is_same_row r p.1.row) (deletes_row p.1.mutation || ranges_over p.1.mutation n) p.6 in
        let lt : is_older v.stamp p.0.stamp ≡ true = ap (is_older v.stamp) p.3 ∙ e in
        elim (strike_kind p.1.mutation n b.1) [
          | inl row ↦ covered (row_newer applied r v.stamp p.0 p.1 p.2 p.5 (both_hold (is_same_row r p.1.row) (deletes_row p.1.mutation) b.0 row) lt)
          | inr range ↦ by_range p.0 range.0 range.1 lt range.3 (range_or_row applied r f xs p.0 p.1 range.0 range.1 view p.2 p.5 b.0 range.2)
        ]

    newer : (o : Option Stamped) → IsNoOlder (newest_strike applied r n) o → is_older_than o v.stamp ≡ true → is_older_than (newest_strike applied r n) v.stamp ≡ true
    newer None h e = absurd (cc)
    newer (Some y) h e = older_still v.stamp (newest_strike applied r n) y h e

    from : (is_covered (f None) v ≡ true) ⊎ (is_struck xs (n, v) ≡ true) → is_older_than (newest_strike applied r n) v.stamp ≡ true
    from (inl e) =
        newer (newest_of (is_row_deletion r) (history_of applied)) (no_older_wider (is_row_deletion r) (strikes_location (at r n)) (deletion_strikes r n) applied)
        (sym (seen_newer applied r f xs v.stamp view) ∙ sym (covered_by (f None) v) ∙ e)
    from (inr e) =
        let x = any_found (λ (y : RangeDeletion). strikes y (n, v)) xs e in
        let b = both_true (is_between x.0.start x.0.finish n) (is_older v.stamp x.0.stamp) x.2 in
        let c = range_change applied r x.0 ((view.ranges x.0).0 x.1).0 in
        let change : Change = record { row = r; mutation = DeleteRange x.0.start x.0.finish } in
        older_still v.stamp (newest_strike applied r n) (stamped (committed_of c.0) change.mutation)
        (no_older_than (strikes_location (at r n)) applied c.0 change c.1 c.3 (both_hold (is_same_row r r) (is_between x.0.start x.0.finish n) (own_row r) b.0))
        (ap (is_older v.stamp) c.2 ∙ b.1)

-- what strikes a column leaves no value
no_value : (applied : List Applied) (r : Row) (n : List ℕ) → value_of (newest_strike applied r n) ≡ None
no_value applied r n = go (newest_strike applied r n) refl
  where
    go : (o : Option Stamped) → newest_strike applied r n ≡ o → value_of o ≡ None
    go None is = refl
    go (Some y) is =
        let p = newest_passes (strikes_location (at r n)) applied y is in
        let b = both_true (is_same_row r p.1.row) (deletes_row p.1.mutation || ranges_over p.1.mutation n) p.6 in
        ap inserted (sym p.7) ∙ strike_deletes p.1.mutation n b.1

-- ---- the live columns
inserted_of : (n : List ℕ) (o : Option (List ℕ)) → inserted (mutation_of (Some n) o) ≡ o
inserted_of n None = refl
inserted_of n (Some v) = refl

-- the column that is seen of a version, if any
abbrev shown : Option Version → List RangeDeletion → List ℕ → Option Version → Option Column
shown d xs n None = None
shown d xs n (Some v) = if is_struck xs (n, v) then None else live_of d (n, v)

live_shown : (n : List ℕ) (a d : Option Version) (xs : List RangeDeletion) (k : Option Stamped) → value_of k ≡ None
    → ((v : Version) → is_older_than k v.stamp ≡ (is_covered d v || is_struck xs (n, v)))
    → option_map (λ v. record { name = n; value = v }) (value_of (newer_of (option_map (stamped_of (Some n)) a) k)) ≡ shown d xs n a
live_shown n None d xs k none newer = ap (option_map (λ (w : List ℕ). record { name = n; value = w })) none
live_shown n (Some v) d xs None none newer =
    let bare = neither (is_covered d v) (is_struck xs (n, v)) (sym (newer v)) in
    rw (bare.1, bare.0) (ap (option_map (λ (w : List ℕ). record { name = n; value = w })) (inserted_of n v.what.value))
live_shown n (Some v) d xs (Some y) none newer =
    by_cases (is_older v.stamp y.stamp)
    (λ lt. rw lt (ap (option_map (λ (w : List ℕ). record { name = n; value = w })) none ∙ sym (hidden (option_map (λ w. record { name = n; value = w }) v.what.value) (is_covered d v) (is_struck xs (n, v)) (sym (newer v) ∙ lt))))
    (λ ge.
    let bare = neither (is_covered d v) (is_struck xs (n, v)) (sym (newer v) ∙ ge) in
    rw (ge, bare.1, bare.0) (ap (option_map (λ (w : List ℕ). record { name = n; value = w })) (inserted_of n v.what.value)))
  where
    hidden : (column : Option Column) (c s : Bool) → (c || s) ≡ true → (if s then None else (if c then None else column)) ≡ None
    hidden column true true e = refl
    hidden column true false e = refl
    hidden column false true e = refl
    hidden column false false e = absurd (cc)

newest_seen : (applied : List Applied) (r : Row) (f : Sight) (xs : List RangeDeletion) → IsView applied r f xs → (n : List ℕ)
    → newest (history_of applied) (at r n) ≡ newer_of (option_map (stamped_of (Some n)) (f (Some n))) (newest_strike applied r n)
newest_seen applied r f xs view n =
    newest_touch applied view.apart (at r n)
    ∙ ap (λ (o : Option Stamped). newer_of o (newest_strike applied r n)) (sym (view.newest_there (Some n)))

live_seen : (applied : List Applied) (r : Row) (f : Sight) (xs : List RangeDeletion) → IsView applied r f xs → (n : List ℕ)
    → live_column (history_of applied) r n ≡ shown (f None) xs n (f (Some n))
live_seen applied r f xs view n =
    ap (λ (o : Option Stamped). option_map (λ (v : List ℕ). record { name = n; value = v }) (value_of o)) (newest_seen applied r f xs view n)
    ∙ live_shown n (f (Some n)) (f None) xs (newest_strike applied r n) (no_value applied r n) (λ v. struck_seen applied r f xs n v view)

seen_at : (f : Sight) (p : Predicate) (seen : List NamedVersion) → AreSeen f p seen → (s : NamedVersion) → Contains seen s → f (Some s.0) ≡ Some s.1
seen_at f p seen of s has = (of.sound s.0 s.1 has).1

-- a column is kept unless it is struck
kept_unstruck : (d : Option Version) (s : NamedVersion) (us : List NamedVersion) (b : Bool)
    → filter_map (live_of d) (if not b then s ∷ us else us) ≡ cons_option (if b then None else live_of d s) (filter_map (live_of d) us)
kept_unstruck d s us true = refl
kept_unstruck d s us false = refl

columns_seen : (f : Sight) (xs : List RangeDeletion) (seen : List NamedVersion) → ((s : NamedVersion) → Contains seen s → f (Some s.0) ≡ Some s.1)
    → filter_map (live_of (f None)) (unstruck xs seen) ≡ filter_map (λ n. shown (f None) xs n (f (Some n))) (names_of seen)
columns_seen f xs [] at_each = refl
columns_seen f xs (s ∷ rest) at_each =
    kept_unstruck (f None) s (unstruck xs rest) (is_struck xs s)
    ∙ ap (λ (o : Option Column). cons_option o (filter_map (live_of (f None)) (unstruck xs rest))) (sym (ap (shown (f None) xs s.0) (at_each s (contains_first s rest))))
    ∙ ap (cons_option (shown (f None) xs s.0 (f (Some s.0)))) (columns_seen f xs rest (λ z has. at_each z (contains_rest s z rest has)))

among_names : (q : List ℕ) (v : Version) (seen : List NamedVersion) → Contains seen (q, v) → is_among q (names_of seen) ≡ true
among_names q v [] has = absurd (none_in_empty (q, v) has)
among_names q v (s ∷ rest) has = elim (first_or_rest s (q, v) rest has) [
  | inl here ↦ (let e : is_eq (slice_cmp nat_cmp q s.0) ≡ true = ap (λ (z : NamedVersion). is_eq (slice_cmp nat_cmp q z.0)) here ∙ own_name q in rw e refl)
  | inr there ↦ more (is_eq (slice_cmp nat_cmp q s.0)) (among_names q v rest there)
]
  where
    more : (b : Bool) → is_among q (names_of rest) ≡ true → (b || is_among q (names_of rest)) ≡ true
    more true e = refl
    more false e = e

some_seen : (d : Option Version) (xs : List RangeDeletion) (n : List ℕ) (o : Option Version) → is_some (shown d xs n o) ≡ true → (v : Version) × (o ≡ Some v)
some_seen d xs n None h = absurd (cc)
some_seen d xs n (Some v) h = (v, refl)

slice_seen : (applied : List Applied) (r : Row) (f : Sight) (xs : List RangeDeletion) (p : Predicate) (seen : List NamedVersion)
    → IsView applied r f xs → AreSeen f p seen
    → slice_of p (filter_map (live_of (f None)) (unstruck xs seen)) ≡ slice_of p (live_columns (history_of applied) r)
slice_seen applied r f xs p seen view of =
    let g = λ (n : List ℕ). shown (f None) xs n (f (Some n)) in
    let h = history_of applied in
    ap (slice_of p) (columns_seen f xs seen (seen_at f p seen of))
    ∙ slice_alike p g (live_column h r) (λ n c e. live_keeps_names h r n c (live_seen applied r f xs view n ∙ e)) (live_keeps_names h r)
    (names_of seen) (columns_changed h r) of.in_order (sorted_in_order (flat_map (λ c. filter_map (column_changed r) c.batch) h))
    (λ n asked. sym (live_seen applied r f xs view n))
    (λ n some.
    let a = asked_some p g n some in
    let v = some_seen (f None) xs n (f (Some n)) a.1 in
    among_names n v.0 seen (of.whole n v.0 a.0 v.1))
    (λ n some.
    let a = asked_some p (live_column h r) n some in
    let v = some_seen (f None) xs n (f (Some n)) (ap is_some (sym (live_seen applied r f xs view n)) ∙ a.1) in
    among_if_changed r n h ∙ ap is_some (sym (view.newest_there (Some n))) ∙ ap (λ (o : Option Version). is_some (option_map (stamped_of (Some n)) o)) v.1)

-- ---- the earliest valid time
commit_seen : (q : Place) (o : Option Version) → commit_of (option_map (stamped_of q) o) ≡ evt_or_0 o
commit_seen q None = refl
commit_seen q (Some v) = refl

-- since when the version of a column is seen, if it is asked
abbrev asked_evt : Sight → Predicate → List ℕ → ℕ
asked_evt f p n = if is_asked p n then evt_or_0 (f (Some n)) else 0

map_alike : (f g : List ℕ → ℕ) → ((n : List ℕ) → f n ≡ g n) → (ns : List (List ℕ)) → map f ns ≡ map g ns
map_alike f g e [] = refl
map_alike f g e (n ∷ ns) = ap (λ (x : ℕ). x ∷ map f ns) (e n) ∙ ap (λ (xs : List ℕ). g n ∷ xs) (map_alike f g e ns)

evts_seen : (f : Sight) (p : Predicate) (seen : List NamedVersion) → ((s : NamedVersion) → Contains seen s → (is_asked p s.0 ≡ true) × (f (Some s.0) ≡ Some s.1))
    → map (λ s. s.1.evt) seen ≡ map (asked_evt f p) (names_of seen)
evts_seen f p [] at_each = refl
evts_seen f p (s ∷ rest) at_each =
    let here = at_each s (contains_first s rest) in
    let e : s.1.evt ≡ asked_evt f p s.0 = rw here.0 (rw here.1 refl) in
    ap (λ (x : ℕ). x ∷ map (λ (z : NamedVersion). z.1.evt) rest) e
    ∙ ap (λ (xs : List ℕ). asked_evt f p s.0 ∷ xs) (evts_seen f p rest (λ z has. at_each z (contains_rest s z rest has)))

pub below_greatest : (e : List ℕ → ℕ) (q : List ℕ) (ns : List (List ℕ)) → is_among q ns ≡ true → e q ≤ greatest_of (map e ns)
below_greatest e q [] h = absurd (cc)
below_greatest e q (n ∷ ns) h = elim (either_true (is_eq (slice_cmp nat_cmp q n)) (is_among q ns) h) [
  | inl here ↦ (let same : e n ≡ e q = ap e ((bytes_eq-Decides n q).0 (sym (is_eq_named q n) ∙ here)) in omega arith)
  | inr there ↦ (let le = below_greatest e q ns there in omega (arith, le))
]

greatest_below : (e : List ℕ → ℕ) (all : List (List ℕ)) (ns : List (List ℕ)) → ((n : List ℕ) → is_among n ns ≡ true → 0 < e n → is_among n all ≡ true)
    → greatest_of (map e ns) ≤ greatest_of (map e all)
greatest_below e all [] among = omega arith
greatest_below e all (n ∷ ns) among =
    let rest = greatest_below e all ns (λ q h. among q (more (is_eq (slice_cmp nat_cmp q n)) (is_among q ns) h)) in
    let first : e n ≤ greatest_of (map e all) = go (e n) refl in
    omega (arith, rest, first)
  where
    more : (a b : Bool) → b ≡ true → (a || b) ≡ true
    more true b h = refl
    more false b h = h

    go : (k : ℕ) → e n ≡ k → e n ≤ greatest_of (map e all)
    go zero is = omega (arith, is)
    go (suc k) is = below_greatest e n all (among n (rw (own_name n) refl) (omega (arith, is)))

some_evt : (o : Option Version) → 0 < evt_or_0 o → (v : Version) × (o ≡ Some v)
some_evt None lt = absurd (omega (arith, lt))
some_evt (Some v) lt = (v, refl)

asked_some_evt : (f : Sight) (p : Predicate) (n : List ℕ) → 0 < asked_evt f p n → (is_asked p n ≡ true) × ((v : Version) × (f (Some n) ≡ Some v))
asked_some_evt f p n lt = go (is_asked p n) refl lt
  where
    go : (b : Bool) → is_asked p n ≡ b → 0 < (if b then evt_or_0 (f (Some n)) else 0) → (is_asked p n ≡ true) × ((v : Version) × (f (Some n) ≡ Some v))
    go true e lt = (e, some_evt (f (Some n)) lt)
    go false e lt = absurd (omega (arith, lt))

columns_evt : (applied : List Applied) (r : Row) (f : Sight) (xs : List RangeDeletion) (p : Predicate) (seen : List NamedVersion)
    → IsView applied r f xs → AreSeen f p seen → evt_of_sight (f None) seen ≡ max (commit_of (newest_of (is_row_deletion r) (history_of applied))) (greatest_of (map (column_evt (history_of applied) r p) (columns_changed (history_of applied) r)))
columns_evt applied r f xs p seen view of =
    let h = history_of applied in
    let e = asked_evt f p in
    let names = columns_changed h r in
    let deletion : commit_of (newest_of (is_row_deletion r) h) ≡ evt_or_0 (f None) = ap commit_of (sym (view.newest_there None)) ∙ commit_seen None (f None) in
    let columns : map (column_evt h r p) names ≡ map e names =
    map_alike (column_evt h r p) e
    (λ n. ap (λ (o : Option Stamped). if is_asked p n then commit_of o else 0) (sym (view.newest_there (Some n))) ∙ ap (λ (k : ℕ). if is_asked p n then k else 0) (commit_seen (Some n) (f (Some n))))
    names in
    let found : map (λ (s : NamedVersion). s.1.evt) seen ≡ map e (names_of seen) = evts_seen f p seen (λ s has. of.sound s.0 s.1 has) in
    let up : greatest_of (map e (names_of seen)) ≤ greatest_of (map e names) =
    greatest_below e names (names_of seen)
    (λ n h' lt. let a = asked_some_evt f p n lt in
    among_if_changed r n h ∙ ap is_some (sym (view.newest_there (Some n))) ∙ ap (λ (o : Option Version). is_some (option_map (stamped_of (Some n)) o)) a.1.1) in
    let down : greatest_of (map e names) ≤ greatest_of (map e (names_of seen)) =
    greatest_below e (names_of seen) names
    (λ n h' lt. let a = asked_some_evt f p n lt in among_names n a.1.0 seen (of.whole n a.1.0 a.0 a.1.1)) in
    let same : greatest_of (map e (names_of seen)) ≡ greatest_of (map e names) = omega (arith, up, down) in
    ap (λ (ts : List ℕ). max (evt_or_0 (f None)) (greatest_of ts)) found
    ∙ ap (λ (t : ℕ). max (evt_or_0 (f None)) t) same
    ∙ ap (λ (ts : List ℕ). max (evt_or_0 (f None)) (greatest_of ts)) (sym columns)
    ∙ ap (λ (t : ℕ). max t (greatest_of (map (column_evt h r p) names))) (sym deletion)

evt_seen : (applied : List Applied) (r : Row) (f : Sight) (xs : List RangeDeletion) (p : Predicate) (seen : List NamedVersion)
    → IsView applied r f xs → AreSeen f p seen → max (evt_of_sight (f None) seen) (evt_asked p xs) ≡ evt_of (history_of applied) r p
evt_seen applied r f xs p seen view of =
    let columns = columns_evt applied r f xs p seen view of in
    let below = asked_evt_below applied r p (evt_asked p xs) view.apart (λ a c s e has own row is stands asked. above a c s e has own row is stands asked) in
    let above' = asked_evt_above applied r p xs view.apart (λ x has. let h = (view.ranges x).0 has in (h.0, sym (seen_newer applied r f xs x.stamp view) ∙ sym (under_by (f None) x) ∙ h.1)) in
    omega (arith, columns, below, above')
  where
    above : (a : Applied) (c : Change) (s e : List ℕ) → Contains applied a → Contains a.part.batch c → is_same_row r c.row ≡ true → c.mutation ≡ DeleteRange s e
        → is_row_newer applied r a.stamp ≡ false → asks_between p s e ≡ true → a.commit ≤ evt_asked p xs
    above a c s e has own row is stands asked = elim (range_or_row applied r f xs a c s e view has own row is) [
      | inl x ↦ evt_at_most p xs (range_by a s e) x asked
      | inr gone ↦ no_truth (is_row_newer applied r a.stamp) gone stands
    ]

-- ---- what a read rests on
-- what isn't struck stays the newest
stays : (y : Stamped) (k : Option Stamped) → is_older_than k y.stamp ≡ false → newer_of (Some y) k ≡ Some y
stays y None h = refl
stays y (Some z) h = rw h refl

chosen : (b : Bool) (x w : WriterValue) → (if b then Some x else None) ≡ Some w → (b ≡ true) × (x ≡ w)
chosen true x w e = (refl, cc)
chosen false x w e = absurd (cc)

one_writer : (d : Option Version) (w : WriterValue) → Contains (option_to_list (option_map (λ v. v.what.writer) d)) w → (v : Version) × (d ≡ Some v) × (v.what.writer ≡ w)
one_writer None w has = absurd (none_in_empty w has)
one_writer (Some v) w has = elim (first_or_rest v.what.writer w [] has) [ inl here ↦ (v, refl, here) | inr there ↦ absurd (none_in_empty w there) ]

-- all writers of a read which returned these columns
abbrev all_writers : Sight → List RangeDeletion → Predicate → List NamedVersion → List Column → List WriterValue
all_writers f xs p seen columns = writers_of p columns (f None) (unstruck xs seen) ++ writers_met p columns xs

rested : (applied : List Applied) (r : Row) (f : Sight) (xs : List RangeDeletion) (p : Predicate) (seen : List NamedVersion) (columns : List Column) (w : WriterValue)
    → IsView applied r f xs → AreSeen f p seen → columns ≡ slice_of p (live_columns (history_of applied) r)
    → Contains (all_writers f xs p seen columns) w → IsRestedOn applied r p w
rested applied r f xs p seen columns w view of is has = elim (Contains-append_cases (writers_of p columns (f None) (unstruck xs seen)) (writers_met p columns xs) w has) [
  | inl place ↦ elim (Contains-append_cases (filter_map (writer_of p columns (f None)) (unstruck xs seen)) (option_to_list (option_map (λ (v : Version). v.what.writer) (f None))) w place) [
    | inl column ↦ by_column column
    | inr gone ↦ by_deletion gone
  ]
  | inr met ↦ by_range met
]
  where
    h : History
    h = history_of applied

    by_deletion : Contains (option_to_list (option_map (λ (v : Version). v.what.writer) (f None))) w → IsRestedOn applied r p w
    by_deletion gone =
        let o = one_writer (f None) w gone in
        let a = view.from None o.0 o.1 in (
          a.0,
          a.1,
          a.4 ∙ o.2,
          inr (ap stamp_of (sym (view.newest_there None) ∙ ap (option_map (stamped_of None)) o.1) ∙ ap Some (sym a.2)),
        )

    by_column : Contains (filter_map (writer_of p columns (f None)) (unstruck xs seen)) w → IsRestedOn applied r p w
    by_column column =
        let g = given_only (writer_of p columns (f None)) (unstruck xs seen) w column in
        let n = g.0.0 in
        let v = g.0.1 in
        let u = kept_only (λ (z : NamedVersion). not (is_struck xs z)) seen g.0 g.1 in
        let c = chosen (is_within p columns n && not (is_covered (f None) v)) v.what.writer w g.2 in
        let b = both_true (is_within p columns n) (not (is_covered (f None) v)) c.0 in
        let s = of.sound n v u.0 in
        let a = view.from (Some n) v s.1 in
        let looked : is_looked_at p columns n ≡ true = rw s.0 b.0 in
        let bare : is_older_than (newest_strike applied r n) v.stamp ≡ false =
        struck_seen applied r f xs n v view ∙ rw (not_true (is_covered (f None) v) b.1) (not_true (is_struck xs (n, v)) u.1) in
        let first : RestsByNewest h r p (slice_of p (live_columns h r)) a.0.stamp = (
          n,
          ap (λ (cs : List Column). is_looked_at p cs n) (sym is) ∙ looked,
          ap is_some (sym (view.newest_there (Some n)) ∙ ap (option_map (stamped_of (Some n))) s.1),
          ap stamp_of (newest_seen applied r f xs view n ∙ ap (λ (o : Option Version). newer_of (option_map (stamped_of (Some n)) o) (newest_strike applied r n)) s.1
              ∙ stays (stamped_of (Some n) v) (newest_strike applied r n) bare)
              ∙ ap Some (sym a.2),
        ) in
        (a.0, a.1, a.4 ∙ c.1, (row_rests_by h r p a.0.stamp).1 (inl first))

    met_by : (x : RangeDeletion) → meets p columns x.start x.finish ≡ true → IsRangeFrom applied r x → is_under (f None) x ≡ false → x.writer ≡ w → IsRestedOn applied r p w
    met_by x meet (a, has, stamp, commit, writer, place) stands own =
        let change : Change = record { row = r; mutation = DeleteRange x.start x.finish } in
        let left : leaves_met r p columns a.part.batch ≡ true =
        normal_met r p columns a.part.batch (normal_part applied view.apart a has)
        ∙ any_has (λ (c : Change). is_same_row r c.row && meets_range p columns c.mutation) a.part.batch change place
        (both_hold (is_same_row r r) (meets p columns x.start x.finish) (own_row r) meet) in
        let some : list_any (λ (c : Committed). is_eq (stamp_cmp c.stamp a.stamp) && leaves_met r p columns c.batch) h ≡ true =
        any_has (λ (c : Committed). is_eq (stamp_cmp c.stamp a.stamp) && leaves_met r p columns c.batch) h (committed_of a) (mapped committed_of applied a has)
        (both_hold (is_eq (stamp_cmp a.stamp a.stamp)) (leaves_met r p columns a.part.batch) (same_itself a.stamp) left) in
        let newer : is_row_newer applied r a.stamp ≡ false =
        ap (is_row_newer applied r) stamp ∙ sym (seen_newer applied r f xs x.stamp view) ∙ sym (under_by (f None) x) ∙ stands in
        let met : ranges_met h r p columns a.stamp ≡ true =
        both_hold (list_any (λ (c : Committed). is_eq (stamp_cmp c.stamp a.stamp) && leaves_met r p columns c.batch) h) (not (is_row_newer applied r a.stamp)) some (not_false (is_row_newer applied r a.stamp) newer) in
        (a, has, writer ∙ own, (row_rests_by h r p a.stamp).1 (inr (inr (ap (λ (cs : List Column). ranges_met h r p cs a.stamp) (sym is) ∙ met))))

    by_range : Contains (writers_met p columns xs) w → IsRestedOn applied r p w
    by_range met =
        let m = mapped_only (λ (x : RangeDeletion). x.writer) (filter (λ x. meets p columns x.start x.finish) xs) w met in
        let k = kept_only (λ (x : RangeDeletion). meets p columns x.start x.finish) xs m.0 m.1 in
        let v = (view.ranges m.0).0 k.0 in
        met_by m.0 k.1 v.0 v.1 m.2

writer_by : (applied : List Applied) → AreApart applied → (a : Applied) (w : WriterValue) (v : Version) → Contains applied a → a.part.writer ≡ w → v.stamp ≡ a.stamp → IsFrom applied v → v.what.writer ≡ w
writer_by applied apart a w v has is same b =
    let one = one_part applied apart a b.0 has b.1 (sym same ∙ sym b.2) in
    sym b.4 ∙ ap (λ (x : Applied). x.part.writer) (sym one) ∙ is

seen_some : (q : Place) (o : Option Version) → is_some (option_map (stamped_of q) o) ≡ true → (v : Version) × (o ≡ Some v)
seen_some q None h = absurd (cc)
seen_some q (Some v) h = (v, refl)

seen_stamp : (q : Place) (o : Option Version) (s : StampValue) → stamp_of (option_map (stamped_of q) o) ≡ Some s → (v : Version) × (o ≡ Some v) × (v.stamp ≡ s)
seen_stamp q None s h = absurd (cc)
seen_stamp q (Some v) s h = (v, refl, cc)

-- the stamp of the newest is that of the version, where nothing newer strikes it, or that of what does
one_stamp : (v : Stamped) (k : Option Stamped) (s : StampValue) → stamp_of (newer_of (Some v) k) ≡ Some s
    → ((is_older_than k v.stamp ≡ false) × (v.stamp ≡ s)) ⊎ ((y : Stamped) × (k ≡ Some y) × (y.stamp ≡ s))
one_stamp v None s h = inl (refl, cc)
one_stamp v (Some u) s h =
    by_cases (is_older v.stamp u.stamp)
    (λ lt. let k : Some u.stamp ≡ Some s = rw lt at h in inr (u, refl, cc))
    (λ ge. let k : Some v.stamp ≡ Some s = rw ge at h in inl (ge, cc))

meets_kind : (p : Predicate) (columns : List Column) (m : Mutation) → meets_range p columns m ≡ true → (s : List ℕ) × (e : List ℕ) × (m ≡ DeleteRange s e) × (meets p columns s e ≡ true)
meets_kind p columns (Insert n v) h = absurd (cc)
meets_kind p columns (DeleteColumn n) h = absurd (cc)
meets_kind p columns DeleteRow h = absurd (cc)
meets_kind p columns (DeleteRange s e) h = (s, e, refl, h)

-- a newest deletion that strikes a column and is of its row is the newest of the row
pub row_level : (applied : List Applied) (r : Row) (n : List ℕ) (y : Stamped) (a : Applied) (c : Change) → newest_strike applied r n ≡ Some y → y.stamp ≡ a.stamp
    → Contains applied a → Contains a.part.batch c → is_row_deletion r c ≡ true → stamp_of (newest_of (is_row_deletion r) (history_of applied)) ≡ Some a.stamp
row_level applied r n y a c is same has own row =
    go (newest_of (is_row_deletion r) (history_of applied)) (no_older_than (is_row_deletion r) applied a c has own row)
    (subst (λ (o : Option Stamped). IsNoOlder o (newest_of (is_row_deletion r) (history_of applied))) is
    (no_older_wider (is_row_deletion r) (strikes_location (at r n)) (deletion_strikes r n) applied))
  where
    go : (o : Option Stamped) → IsNoOlder o (Some (stamped (committed_of a) c.mutation)) → IsNoOlder (Some y) o → stamp_of o ≡ Some a.stamp
    go None h k = absurd h
    go (Some d) h k = ap Some (level d.stamp a.stamp h (ap (λ (s : StampValue). is_older s d.stamp) (sym same) ∙ k))

-- where a deletion of a range is the newest that strikes a column no deletion of the row is newer
pub range_level : (applied : List Applied) (r : Row) (n : List ℕ) (y : Stamped) → newest_strike applied r n ≡ Some y → is_row_newer applied r y.stamp ≡ false
range_level applied r n y is =
    go (newest_of (is_row_deletion r) (history_of applied))
    (subst (λ (o : Option Stamped). IsNoOlder o (newest_of (is_row_deletion r) (history_of applied))) is
    (no_older_wider (is_row_deletion r) (strikes_location (at r n)) (deletion_strikes r n) applied))
  where
    go : (o : Option Stamped) → IsNoOlder (Some y) o → is_older_than o y.stamp ≡ false
    go None k = refl
    go (Some d) k = k

written : (applied : List Applied) (r : Row) (f : Sight) (xs : List RangeDeletion) (p : Predicate) (seen : List NamedVersion) (columns : List Column) (w : WriterValue)
    → IsView applied r f xs → AreSeen f p seen → columns ≡ slice_of p (live_columns (history_of applied) r)
    → IsRestedOn applied r p w → Contains (all_writers f xs p seen columns) w
written applied r f xs p seen columns w view of is (a, has, writes, rests) = elim ((row_rests_by (history_of applied) r p a.stamp).0 rests) [
  | inl newest_one ↦ by_change newest_one.0 newest_one.1 newest_one.2 newest_one.3
  | inr other ↦ elim other [ inl gone ↦ by_deletion gone | inr met ↦ by_range met ]
]
  where
    h : History
    h = history_of applied

    bare_seen : List NamedVersion
    bare_seen = unstruck xs seen

    of_place : Contains (writers_of p columns (f None) bare_seen) w → Contains (all_writers f xs p seen columns) w
    of_place has = Contains-append_left (writers_of p columns (f None) bare_seen) (writers_met p columns xs) w has

    of_deletion : stamp_of (option_map (stamped_of None) (f None)) ≡ Some a.stamp → Contains (all_writers f xs p seen columns) w
    of_deletion e =
        let v = seen_stamp None (f None) a.stamp e in
        let own = writer_by applied view.apart a w v.0 has writes v.2 (view.from None v.0 v.1) in
        of_place
        (Contains-append_right (filter_map (writer_of p columns (f None)) bare_seen) (option_to_list (option_map (λ (u : Version). u.what.writer) (f None))) w
        (subst (λ (o : Option Version). Contains (option_to_list (option_map (λ (u : Version). u.what.writer) o)) w) (sym v.1)
        (subst (Contains (v.0.what.writer ∷ [])) own (contains_first v.0.what.writer []))))

    by_deletion : stamp_of (newest_of (is_row_deletion r) h) ≡ Some a.stamp → Contains (all_writers f xs p seen columns) w
    by_deletion gone = of_deletion (ap stamp_of (view.newest_there None) ∙ gone)

    by_version : (n : List ℕ) (v : Version) → is_asked p n ≡ true → is_within p columns n ≡ true → f (Some n) ≡ Some v → is_covered (f None) v ≡ false
        → is_struck xs (n, v) ≡ false → v.stamp ≡ a.stamp → Contains (all_writers f xs p seen columns) w
    by_version n v asked within e bare unstruck_one same =
        let own = writer_by applied view.apart a w v has writes same (view.from (Some n) v e) in
        let there = kept (λ (z : NamedVersion). not (is_struck xs z)) seen (n, v) (of.whole n v asked e) (not_false (is_struck xs (n, v)) unstruck_one) in
        of_place
        (Contains-append_left (filter_map (writer_of p columns (f None)) bare_seen) (option_to_list (option_map (λ (u : Version). u.what.writer) (f None))) w
        (given (writer_of p columns (f None)) bare_seen (n, v) w there (rw (within, bare) (ap Some own))))

    of_range : (b : Applied) (s e : List ℕ) → b ≡ a → Contains xs (range_by b s e) → meets p columns s e ≡ true → Contains (all_writers f xs p seen columns) w
    of_range b s e same there meet =
        let own : b.part.writer ≡ w = ap (λ (c : Applied). c.part.writer) same ∙ writes in
        Contains-append_right (writers_of p columns (f None) bare_seen) (writers_met p columns xs) w
        (subst (Contains (writers_met p columns xs)) own
        (mapped (λ (x : RangeDeletion). x.writer) (filter (λ x. meets p columns x.start x.finish) xs) (range_by b s e)
        (kept (λ (x : RangeDeletion). meets p columns x.start x.finish) xs (range_by b s e) there meet)))

    by_met : (b : Applied) (c : Change) → b ≡ a → Contains applied b → Contains b.part.batch c → is_same_row r c.row ≡ true → meets_range p columns c.mutation ≡ true
        → is_row_newer applied r a.stamp ≡ false → Contains (all_writers f xs p seen columns) w
    by_met b c same there own row meet stands =
        let k = meets_kind p columns c.mutation meet in
        elim (range_or_row applied r f xs b c k.0 k.1 view there own row k.2) [
          | inl x ↦ of_range b k.0 k.1 same x k.3
          | inr gone ↦ no_truth (is_row_newer applied r a.stamp) (ap (λ (z : Applied). is_row_newer applied r z.stamp) (sym same) ∙ gone) stands
        ]

    by_range : ranges_met h r p (slice_of p (live_columns h r)) a.stamp ≡ true → Contains (all_writers f xs p seen columns) w
    by_range met =
        let e = both_true (list_any (λ (c : Committed). is_eq (stamp_cmp c.stamp a.stamp) && leaves_met r p columns c.batch) h) (not (is_row_newer applied r a.stamp))
        (ap (λ (cs : List Column). ranges_met h r p cs a.stamp) is ∙ met) in
        let m = any_found (λ (c : Committed). is_eq (stamp_cmp c.stamp a.stamp) && leaves_met r p columns c.batch) h e.0 in
        let b = mapped_only committed_of applied m.0 m.1 in
        let t = both_true (is_eq (stamp_cmp m.0.stamp a.stamp)) (leaves_met r p columns m.0.batch) m.2 in
        let same : b.0 ≡ a = one_part applied view.apart b.0 a b.1 has (ap (λ (c : Committed). c.stamp) b.2 ∙ same_stamp m.0.stamp a.stamp t.0) in
        let left : leaves_met r p columns b.0.part.batch ≡ true = ap (λ (c : Committed). leaves_met r p columns c.batch) b.2 ∙ t.1 in
        let c = any_found (λ (c : Change). is_same_row r c.row && meets_range p columns c.mutation) b.0.part.batch
        (sym (normal_met r p columns b.0.part.batch (normal_part applied view.apart b.0 b.1)) ∙ left) in
        let g = both_true (is_same_row r c.0.row) (meets_range p columns c.0.mutation) c.2 in
        by_met b.0 c.0 same b.1 c.1 g.0 g.1 (not_true (is_row_newer applied r a.stamp) e.1)

    by_strike : (n : List ℕ) (y : Stamped) → is_looked_at p columns n ≡ true → newest_strike applied r n ≡ Some y → y.stamp ≡ a.stamp → Contains (all_writers f xs p seen columns) w
    by_strike n y looked at same =
        let q = newest_passes (strikes_location (record { row = r; name = n })) applied y at in
        let one : q.0 ≡ a = one_part applied view.apart q.0 a q.2 has (q.3 ∙ same) in
        let b = both_true (is_same_row r q.1.row) (deletes_row q.1.mutation || ranges_over q.1.mutation n) q.6 in
        elim (strike_kind q.1.mutation n b.1) [
          | inl row ↦
              by_deletion
              (row_level applied r n y q.0 q.1 at (sym q.3) q.2 q.5 (both_hold (is_same_row r q.1.row) (deletes_row q.1.mutation) b.0 row) ∙ ap (λ (z : Applied). Some z.stamp) one)
          | inr range ↦
              (elim (range_or_row applied r f xs q.0 q.1 range.0 range.1 view q.2 q.5 b.0 range.2) [
                | inl x ↦ of_range q.0 range.0 range.1 one x ((meets_exactly p columns range.0 range.1).1 (n, looked, range.3))
                | inr gone ↦ no_truth (is_row_newer applied r y.stamp) (ap (is_row_newer applied r) (sym q.3) ∙ gone) (range_level applied r n y at)
              ])
        ]

    by_change : (n : List ℕ) → is_looked_at p (slice_of p (live_columns h r)) n ≡ true
        → is_some (newest_of (is_column_change (at r n)) h) ≡ true → stamp_of (newest h (at r n)) ≡ Some a.stamp
        → Contains (all_writers f xs p seen columns) w
    by_change n looked some stamp =
        let here : is_looked_at p columns n ≡ true = ap (λ (cs : List Column). is_looked_at p cs n) is ∙ looked in
        let b = both_true (is_asked p n) (is_within p columns n) here in
        let v = seen_some (Some n) (f (Some n)) (ap is_some (view.newest_there (Some n)) ∙ some) in
        let s : stamp_of (newer_of (Some (stamped_of (Some n) v.0)) (newest_strike applied r n)) ≡ Some a.stamp =
        ap stamp_of (ap (λ (o : Option Version). newer_of (option_map (stamped_of (Some n)) o) (newest_strike applied r n)) (sym v.1) ∙ sym (newest_seen applied r f xs view n)) ∙ stamp in
        elim (one_stamp (stamped_of (Some n) v.0) (newest_strike applied r n) a.stamp s) [
          | inl own ↦
              (let bare = neither (is_covered (f None) v.0) (is_struck xs (n, v.0)) (sym (struck_seen applied r f xs n v.0 view) ∙ own.0) in
              by_version n v.0 b.0 b.1 v.1 bare.0 bare.1 own.1)
          | inr struck ↦ by_strike n struck.0 here struck.1 struck.2
        ]

-- ---- all of it
pub view_part : (applied : List Applied) (r : Row) (f : Sight) (xs : List RangeDeletion) (p : Predicate) (part : Part) → IsView applied r f xs → IsPartUnder f xs p part
    → IsPartOf applied r p part × (part.evt ≡ evt_of (history_of applied) r p)
view_part applied r f xs p part view shows =
    let made = shows.made in
    let columns : part.columns ≡ slice_of p (live_columns (history_of applied) r) = made.columns ∙ slice_seen applied r f xs p shows.seen view shows.are_seen in (
      record {
        columns = columns;
        writers = λ w. (
          (λ has. rested applied r f xs p shows.seen part.columns w view shows.are_seen columns ((made.writers w).0 has)),
          (λ rests. (made.writers w).1 (written applied r f xs p shows.seen part.columns w view shows.are_seen columns rests)),
        );
        in_order = made.in_order;
      },
      made.evt ∙ evt_seen applied r f xs p shows.seen view shows.are_seen,
    )

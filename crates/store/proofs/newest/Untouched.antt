-- Parts that don't touch a row, or are committed later, change nothing of what is right of it.
use Rattle.std.proofs.Common.{◌≡◌, ◌∙◌, sym, ap, subst, refl, ℕ, ◌<◌, Bool, true, false, not, ◌&&◌, ◌||◌, List, [], ◌∷◌, ◌++◌, Option, None, option_map, nat_le, arith}
use Rattle.std.specs.Prelude.{Contains}
use Rattle.std.specs.List.{AllByRecursion, list_any}
use Rattle.std.specs.Ordering.{is_eq}
use Rattle.std.proofs.lemmas.Bool.Decides.{nat_tests}
use Rattle.std.proofs.lemmas.List.Elements.{filter-append, Contains-append_left}
use Rattle.std.proofs.lemmas.List.Folds.{list_any-append}
use Rattle.logical_time.specs.Stamps.{StampValue, WriterValue, stamp_cmp}
use Rattle.column_family.specs.declared.batch.Row.{Row}
use Rattle.column_family.specs.declared.batch.Change.{Change}
use Rattle.column_family.specs.declared.batch.Committed.{Committed}
use Rattle.column_family.specs.declared.batch.Mutation.{Mutation}
use Rattle.column_family.specs.Location.{is_same_row, touches, touches_name, changes_name, deletes_row, ranges_over, strikes, is_column_change, is_row_deletion}
use Rattle.column_family.specs.History.{Stamped, newer_of, newest, newest_of, last_of, stamped, keeps_row, leaves_range, is_older_than, ranges_at}
use Rattle.column_family.proofs.Options.{both_true}
use Rattle.column_family.proofs.Joins.{newer_of_none, newest_of_append}
use Rattle.slice.specs.declared.predicate.Predicate.{Predicate}
use Rattle.slice.specs.Slice.{is_asked}
use Rattle.slice.specs.Rests.{RowRestsOn}
use Rattle.slice.proofs.LiveTable.{at as column_at}
use Rattle.store.specs.declared.part.Applied.{Applied}
use Rattle.store.specs.declared.part.Part.{Part}
use Rattle.store.specs.Part.{has_row, committed_of, history_of, applied_by, IsRestedOn, IsPartOf, IsRightPart}
use Rattle.store.specs.Keeps.{AreApart}
use Rattle.store.proofs.lists.Lists.{any_has, each_from, kept_only, no_truth}
use Rattle.store.proofs.newest.Apart.{apart_by, one_part}
use Rattle.store.proofs.newest.Touched.{none_last}
use Rattle.store.proofs.times.FromEvt.{slices_agree, rests_agree, rested_from}

-- none of the parts touches the row
abbrev AreUntouched : Row → List Applied → Type 0
AreUntouched r ys = AllByRecursion (λ x. has_row r x.part.batch ≡ false) ys

-- the test passes changes of the row alone
abbrev IsOfRow : Row → (Change → Bool) → Type 0
IsOfRow r q = (c : Change) → q c ≡ true → is_same_row r c.row ≡ true

none_of_row : (q : Change → Bool) (r : Row) → IsOfRow r q → (cs : List Change) → has_row r cs ≡ false → (c : Change) → Contains cs c → q c ≡ false
none_of_row q r only cs none c has = go (q c) refl
  where
    go : (b : Bool) → q c ≡ b → b ≡ false
    go true e = no_truth (has_row r cs) (any_has (λ (d : Change). is_same_row r d.row) cs c has (only c e)) none
    go false e = refl

newest_none : (q : Change → Bool) (r : Row) → IsOfRow r q → (ys : List Applied) → AreUntouched r ys → newest_of q (history_of ys) ≡ None
newest_none q r only [] h = refl
newest_none q r only (y ∷ ys) h =
    let last : last_of q y.part.batch ≡ None =
    none_last q y.part.batch (each_from (λ d. q d ≡ false) y.part.batch (none_of_row q r only y.part.batch h.0)) in
    ap (λ o. newer_of (option_map (stamped (committed_of y)) o) (newest_of q (history_of ys))) last ∙ newest_none q r only ys h.1

history_joined : (xs ys : List Applied) → history_of (xs ++ ys) ≡ history_of xs ++ history_of ys
history_joined [] ys = refl
history_joined (x ∷ xs) ys = ap (λ h. committed_of x ∷ h) (history_joined xs ys)

newest_stays : (q : Change → Bool) (r : Row) → IsOfRow r q → (xs ys : List Applied) → AreUntouched r ys
    → newest_of q (history_of xs) ≡ newest_of q (history_of (xs ++ ys))
newest_stays q r only xs ys h =
    sym
    (ap (newest_of q) (history_joined xs ys)
    ∙ newest_of_append q (history_of xs) (history_of ys)
    ∙ ap (newer_of (newest_of q (history_of xs))) (newest_none q r only ys h)
    ∙ newer_of_none (newest_of q (history_of xs)))

touch_of_row : (r : Row) (n : List ℕ) → IsOfRow r (touches (column_at r n))
touch_of_row r n c e = (both_true (is_same_row r c.row) (touches_name c.mutation n) e).0

change_of_row : (r : Row) (n : List ℕ) → IsOfRow r (is_column_change (column_at r n))
change_of_row r n c e = (both_true (is_same_row r c.row) (changes_name c.mutation n) e).0

deletion_of_row : (r : Row) → IsOfRow r (is_row_deletion r)
deletion_of_row r c e = (both_true (is_same_row r c.row) (deletes_row c.mutation) e).0

strike_of_row : (r : Row) (n : List ℕ) → IsOfRow r (strikes (column_at r n))
strike_of_row r n c e = (both_true (is_same_row r c.row) (deletes_row c.mutation || ranges_over c.mutation n) e).0

-- ---- deletions of ranges
none_left : (r : Row) (n : List ℕ) (w : StampValue) (ys : List Applied) → AreUntouched r ys
    → list_any (λ (c : Committed). is_eq (stamp_cmp c.stamp w) && leaves_range (column_at r n) c.batch) (history_of ys) ≡ false
none_left r n w [] h = refl
none_left r n w (y ∷ ys) h =
    let last : last_of (strikes (column_at r n)) y.part.batch ≡ None =
    none_last (strikes (column_at r n)) y.part.batch
    (each_from (λ d. strikes (column_at r n) d ≡ false) y.part.batch (none_of_row (strikes (column_at r n)) r (strike_of_row r n) y.part.batch h.0)) in
    ap (λ (o : Option Mutation). (is_eq (stamp_cmp y.stamp w) && keeps_row o) || list_any (λ (c : Committed). is_eq (stamp_cmp c.stamp w) && leaves_range (column_at r n) c.batch) (history_of ys)) last
    ∙ neither_one (is_eq (stamp_cmp y.stamp w)) (none_left r n w ys h.1)
  where
    neither_one : (b : Bool) {rest : Bool} → rest ≡ false → ((b && false) || rest) ≡ false
    neither_one true e = e
    neither_one false e = e

or_nothing : (b c : Bool) → c ≡ false → (b || c) ≡ b
or_nothing true c e = refl
or_nothing false c e = e

ranges_stay : (xs ys : List Applied) (r : Row) (n : List ℕ) (w : StampValue) → AreUntouched r ys → ranges_at (history_of xs) (column_at r n) w ≡ ranges_at (history_of (xs ++ ys)) (column_at r n) w
ranges_stay xs ys r n w h =
    let q = λ (c : Committed). is_eq (stamp_cmp c.stamp w) && leaves_range (column_at r n) c.batch in
    let some : list_any q (history_of (xs ++ ys)) ≡ list_any q (history_of xs) =
    ap (list_any q) (history_joined xs ys) ∙ list_any-append q (history_of xs) (history_of ys)
    ∙ or_nothing (list_any q (history_of xs)) (list_any q (history_of ys)) (none_left r n w ys h) in
    ap (λ (b : Bool). b && not (is_older_than (newest_of (is_row_deletion r) (history_of xs)) w)) (sym some)
    ∙ ap (λ (o : Option Stamped). list_any q (history_of (xs ++ ys)) && not (is_older_than o w)) (newest_stays (is_row_deletion r) r (deletion_of_row r) xs ys h)

-- what is shown of a row stays when parts that don't touch it come after
part_stays : (xs ys : List Applied) (r : Row) (p : Predicate) (part : Part) → AreApart (xs ++ ys) → AreUntouched r ys → IsPartOf xs r p part
    → IsPartOf (xs ++ ys) r p part
part_stays xs ys r p part apart none shown =
    let h = history_of xs in
    let k = history_of (xs ++ ys) in
    let touched : (n : List ℕ) → is_asked p n ≡ true → newest h (column_at r n) ≡ newest k (column_at r n) =
    λ n asked. newest_stays (touches (column_at r n)) r (touch_of_row r n) xs ys none in
    let changed : (n : List ℕ) → is_asked p n ≡ true → newest_of (is_column_change (column_at r n)) h ≡ newest_of (is_column_change (column_at r n)) k =
    λ n asked. newest_stays (is_column_change (column_at r n)) r (change_of_row r n) xs ys none in
    let gone : newest_of (is_row_deletion r) h ≡ newest_of (is_row_deletion r) k =
    newest_stays (is_row_deletion r) r (deletion_of_row r) xs ys none in
    let slices = slices_agree h k r p touched in
    let forth : (w : StampValue) → RowRestsOn h r p w → RowRestsOn k r p w =
    λ w. rests_agree h k r p w slices changed touched gone (λ n asked e. sym (ranges_stay xs ys r n w none) ∙ e) in
    let back : (w : StampValue) → RowRestsOn k r p w → RowRestsOn h r p w =
    λ w. rests_agree k h r p w (sym slices) (λ n asked. sym (changed n asked)) (λ n asked. sym (touched n asked)) (sym gone) (λ n asked e. ranges_stay xs ys r n w none ∙ e) in
    record {
      columns = shown.columns ∙ slices;
      writers = λ w. (
        (λ has. longer forth w ((shown.writers w).0 has)),
        (λ rests. (shown.writers w).1 (shorter back w rests)),
      );
      in_order = shown.in_order;
    }
  where
    longer : ((w : StampValue) → RowRestsOn (history_of xs) r p w → RowRestsOn (history_of (xs ++ ys)) r p w) → (w : WriterValue)
        → IsRestedOn xs r p w → IsRestedOn (xs ++ ys) r p w
    longer forth w (a, has, is, rests) = (a, Contains-append_left xs ys a has, is, forth a.stamp rests)

    shorter : ((w : StampValue) → RowRestsOn (history_of (xs ++ ys)) r p w → RowRestsOn (history_of xs) r p w) → (w : WriterValue)
        → IsRestedOn (xs ++ ys) r p w → IsRestedOn xs r p w
    shorter back w (a, has, is, rests) =
        let less = back a.stamp rests in
        let b = rested_from xs r p a.stamp less in
        let same : b.0 ≡ a = one_part (xs ++ ys) apart b.0 a (Contains-append_left xs ys b.0 b.1) has b.2 in
        (a, subst (Contains xs) same b.1, is, less)

not_by : (n t : ℕ) → t < n → nat_le n t ≡ true → ⊥
not_by n t lt le = (let below : nat_le n t ≡ false = grind (arith, nat_tests) in no_truth (nat_le n t) le below)

later_untouched : (ys : List Applied) (r : Row) (t : ℕ) → ((x : Applied) → Contains ys x → has_row r x.part.batch ≡ true → t < x.commit)
    → AreUntouched r (applied_by t ys)
later_untouched ys r t later =
    each_from (λ x. has_row r x.part.batch ≡ false) (applied_by t ys)
    (λ x has. (let by_then = kept_only (λ (c : Applied). nat_le c.commit t) ys x has in go x by_then.0 by_then.1 (has_row r x.part.batch) refl))
  where
    go : (x : Applied) → Contains ys x → nat_le x.commit t ≡ true → (b : Bool) → has_row r x.part.batch ≡ b → b ≡ false
    go x has le true e = absurd (not_by x.commit t (later x has e) le)
    go x has le false e = refl

-- What is right of a row at a time stays right, where all that comes after and touches the row is committed later.
pub right_stays : (xs ys : List Applied) (r : Row) (p : Predicate) (t : ℕ) (part : Part) → AreApart (xs ++ ys)
    → ((x : Applied) → Contains ys x → has_row r x.part.batch ≡ true → t < x.commit)
    → IsRightPart xs r p t part → IsRightPart (xs ++ ys) r p t part
right_stays xs ys r p t part apart later right =
    let joined : applied_by t (xs ++ ys) ≡ applied_by t xs ++ applied_by t ys = filter-append (λ (a : Applied). nat_le a.commit t) xs ys in
    subst (λ (zs : List Applied). IsPartOf zs r p part) (sym joined)
    (part_stays (applied_by t xs) (applied_by t ys) r p part (subst AreApart joined (apart_by t (xs ++ ys) apart)) (later_untouched ys r t later) right)

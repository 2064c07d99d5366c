-- What a walk finds that ends once its count is full is what is seen of the row.
use Rattle.std.proofs.Common.{◌≡◌, ◌∙◌, ap, sym, subst, refl, ℕ, max, Bool, true, false, List, [], ◌∷◌, ◌++◌, map, filter, filter_map, take, reverse, Option, Some, None, option_map, inl, inr}
use Rattle.std.specs.Prelude.{Contains, is_some, if◌then◌else◌, option_to_list, slice_get}
use Rattle.std.specs.List.{cons_option}
use Rattle.std.specs.List.Sorted.{IsStrictlySortedBy}
use Rattle.std.proofs.lemmas.Grind.{reverse_onto}
use Rattle.std.proofs.lemmas.List.Elements.{Contains-append_cases, Contains-append_left, Contains-append_right}
use Rattle.logical_time.specs.Stamps.{WriterValue, writer_cmp}
use Rattle.slice.specs.declared.column.Column.{Column}
use Rattle.slice.specs.declared.predicate.Predicate.{Predicate}
use Rattle.slice.specs.declared.predicate.Predicate.TheVariants.{Range}
use Rattle.slice.specs.Rests.{is_within}
use Rattle.slice.specs.Slice.{is_asked, walked}
use Rattle.slice.proofs.Selected.{cut_of_asked}
use Rattle.versions.specs.declared.version.Version.{Version}
use Rattle.store.specs.declared.part.Part.{Part}
use Rattle.store.specs.declared.sight.Moment.TheVariants.{Now}
use Rattle.store.specs.declared.sight.Seen.{Seen}
use Rattle.store.specs.Stored.{Chains, name_cmp}
use Rattle.store.specs.Latest.{IsLatest}
use Rattle.store.specs.Part.{greatest_of}
use Rattle.store.specs.Sight.{NamedVersion, named, AreSeen, HaveSameWriters, IsMadeOf, IsPartSeen, evt_or_0, is_covered, live_of, seen_entry, sight_of, uncovered_writer, writer_of}
use Rattle.store.specs.Walk.{seen_until, until_full}
use Rattle.store.proofs.seen.Assembled.{live_asked}
use Rattle.store.proofs.seen.Gathered.{at_end, given_next, then_same, within_only}
use Rattle.store.proofs.times.Latest.{latest_seen}
use Rattle.store.proofs.lists.Lists.{contains_first, contains_rest, first_or_rest, given_seen, none_in_empty}
use Rattle.store.proofs.seen.Sights.{entries_seen}
use Rattle.store.proofs.seen.Walks.{KeepsName, made_walked, sorted_walked, until_found, until_within}

-- ---- writers that a walk meets
back_to : {X : Type 0} (xs : List X) (x : X) → Contains xs x → Contains (reverse xs) x
back_to [] x has = has
back_to (z ∷ xs) x has =
    subst (λ ys. Contains ys x) (sym (reverse_onto xs z []))
    (elim (first_or_rest z x xs has) [
      | inl here ↦ subst (Contains (reverse xs ++ z ∷ [])) here (at_end (reverse xs) z)
      | inr there ↦ Contains-append_left (reverse xs) (z ∷ []) x (back_to xs x there)
    ])

back_from : {X : Type 0} (xs : List X) (x : X) → Contains (reverse xs) x → Contains xs x
back_from [] x has = has
back_from (z ∷ xs) x has =
    elim (Contains-append_cases (reverse xs) (z ∷ []) x (subst (λ ys. Contains ys x) (reverse_onto xs z []) has)) [
      | inl there ↦ contains_rest z x xs (back_from xs x there)
      | inr end ↦ (elim (first_or_rest z x [] end) [
        | inl here ↦ subst (Contains (z ∷ xs)) here (contains_first z xs)
        | inr none ↦ absurd (none_in_empty x none)
      ])
    ]

met_to : {X : Type 0} (r : Bool) (xs : List X) (x : X) → Contains xs x → Contains (walked r xs) x
met_to true xs x has = back_to xs x has
met_to false xs x has = has

met_from : {X : Type 0} (r : Bool) (xs : List X) (x : X) → Contains (walked r xs) x → Contains xs x
met_from true xs x has = back_from xs x has
met_from false xs x has = has

-- which way a walk meets them
met_either_way : (r : Bool) (ws rest : List WriterValue) → HaveSameWriters (walked r ws ++ rest) (ws ++ rest)
met_either_way r ws rest = λ w. (moved w (walked r ws) ws (λ has. met_from r ws w has), moved w ws (walked r ws) (λ has. met_to r ws w has))
  where
    moved : (w : WriterValue) (us vs : List WriterValue) → (Contains us w → Contains vs w) → Contains (us ++ rest) w → Contains (vs ++ rest) w
    moved w us vs moves has = elim (Contains-append_cases us rest w has) [
      | inl column ↦ Contains-append_left vs rest w (moves column)
      | inr deletion ↦ Contains-append_right vs rest w deletion
    ]

-- the writers of those within what was found are those on which the read rests
within_writers : (p : Predicate) (columns : List Column) (d : Option Version) (ss : List NamedVersion)
    → filter_map (uncovered_writer d) (filter (λ s. is_within p columns s.0) ss) ≡ filter_map (writer_of p columns d) ss
within_writers p columns d [] = refl
within_writers p columns d (s ∷ ss) =
    given_next (uncovered_writer d) s (filter (λ x. is_within p columns x.0) ss) (filter_map (writer_of p columns d) ss) (is_within p columns s.0) (within_writers p columns d ss)
    ∙ ap (λ o. cons_option o (filter_map (writer_of p columns d) ss)) (within_only (is_within p columns s.0) (is_covered d s.1) s.1.what.writer)

-- ---- the part
live_keeps_name : (d : Option Version) → KeepsName (λ s. s.0) (live_of d)
live_keeps_name d s c e = covers (is_covered d s.1) e
  where
    holds : (o : Option (List ℕ)) → option_map {U = Column} (λ v. record { name = s.0; value = v }) o ≡ Some c → c.name ≡ s.0
    holds None e = absurd (cc)
    holds (Some v) e = let same : record { name = s.0; value = v } ≡ c = cc in sym (ap (λ (x : Column). x.name) same)

    covers : (b : Bool) → (if b then None else option_map {U = Column} (λ v. record { name = s.0; value = v }) s.1.what.value) ≡ Some c → c.name ≡ s.0
    covers true e = absurd (cc)
    covers false e = holds s.1.what.value e

pub asks_all : (r : Bool) (n : ℕ) (m : List ℕ) → is_asked (Range [] [] r n) m ≡ true
asks_all true n m = refl
asks_all false n m = refl

pub all_of : {X : Type 0} (xs : List X) → filter (λ x. true) xs ≡ xs
all_of [] = refl
all_of (x ∷ xs) = ap (λ ys. x ∷ ys) (all_of xs)

-- the part is made of all columns that are seen, though the walk didn't come past all
walk_makes : (r : Bool) (n : ℕ) (part : Part) (d : Option Version) (all past : List NamedVersion) → IsStrictlySortedBy name_cmp (map (λ s. s.0) all)
    → past ≡ until_full (λ s. is_some (live_of d s)) n (walked r all) → part.columns ≡ filter_map (live_of d) past
    → HaveSameWriters part.writers (filter_map (uncovered_writer d) past ++ option_to_list (option_map (λ v. v.what.writer) d))
    → IsStrictlySortedBy writer_cmp part.writers → part.evt ≡ max (evt_or_0 d) (greatest_of (map (λ s. s.1.evt) all)) → IsMadeOf d all (Range [] [] r n) part
walk_makes r n part d all past sorted goes shows same in_order evt =
    let p = Range [] [] r n in
    let found = shows ∙ ap (filter_map (live_of d)) goes in
    let first : part.columns ≡ take n (walked r (filter_map (live_of d) all)) = found ∙ until_found (live_of d) n (walked r all) ∙ ap (take n) (made_walked (live_of d) r all) in
    let within : past ≡ filter (λ s. is_within p part.columns s.0) (walked r all) =
    goes ∙ sym (until_within r (λ (s : NamedVersion). s.0) (live_of d) (live_keeps_name d) n (walked r all) part.columns (sorted_walked (λ (s : NamedVersion). s.0) r all sorted) found) in
    let rest = option_to_list (option_map (λ (v : Version). v.what.writer) d) in
    let ws = filter_map (writer_of p part.columns d) all in
    let writes : filter_map (uncovered_writer d) past ≡ walked r ws =
    ap (filter_map (uncovered_writer d)) within ∙ within_writers p part.columns d (walked r all) ∙ made_walked (writer_of p part.columns d) r all in
    record {
      columns = first ∙ cut_of_asked p (filter_map (live_of d) all) (live_asked p d all (λ m v has. asks_all r n m));
      writers = then_same part.writers (walked r ws ++ rest) (ws ++ rest) (subst (λ us. HaveSameWriters part.writers (us ++ rest)) writes same) (met_either_way r ws rest);
      in_order = in_order;
      evt = evt;
    }

pub walked_part : (row : Chains) (r : Bool) (n t : ℕ) (part : Part) (walk : List Seen) (d : Option Version)
    → IsStrictlySortedBy name_cmp (map (λ e. e.0) row.columns) → d ≡ slice_get row.deletions.versions 0 → map named walk ≡ seen_until d n (walked r row.columns)
    → part.columns ≡ filter_map (λ s. live_of d (named s)) walk
    → HaveSameWriters part.writers (filter_map (λ s. uncovered_writer d (named s)) walk ++ option_to_list (option_map (λ v. v.what.writer) d))
    → IsStrictlySortedBy writer_cmp part.writers → part.evt ≡ max (evt_or_0 d) t → IsLatest row.columns t → IsPartSeen (sight_of Now row) (Range [] [] r n) part
walked_part row r n t part walk d sorted deletion walks shows same in_order evt latest =
    let p = Range [] [] r n in
    let all = filter_map (seen_entry Now) row.columns in
    let are : AreSeen (sight_of Now row) p all = entries_seen Now row p (λ m. true) all (asks_all r n) sorted (sym (ap (filter_map (seen_entry Now)) (all_of row.columns))) in
    let rest = option_to_list (option_map (λ (v : Version). v.what.writer) d) in
    record {
      seen = all;
      are_seen = are;
      made = subst (λ (o : Option Version). IsMadeOf o all p part) deletion
          (walk_makes r n part d all (map named walk) are.in_order
          (walks ∙ ap (until_full (λ s. is_some (live_of d s)) n) (made_walked (seen_entry Now) r row.columns))
          (shows ∙ sym (given_seen (live_of d) named walk))
          (subst (λ ws. HaveSameWriters part.writers (ws ++ rest)) (sym (given_seen (uncovered_writer d) named walk)) same)
          in_order
          (evt ∙ ap (max (evt_or_0 d)) (sym (latest_seen row p all t are (asks_all r n) latest))));
    }

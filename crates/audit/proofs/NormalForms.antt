-- What a store shows to which the normal forms of a history's entries were applied, in some order.
use Rattle.std.proofs.Common.{◌≡◌, ◌∙◌, sym, ap, subst, refl, ℕ, Bool, true, false, cond, nat_le, List, [], ◌∷◌, ◌⊎◌, inl, inr}
use Rattle.std.specs.Prelude.{Contains}
use Rattle.std.specs.List.Sorted.{IsPermutation}
use Rattle.std.specs.Ordering.{is_eq}
use Rattle.std.proofs.lemmas.List.Sorted.{IsPermutation-sym, Contains-permutation}
use Rattle.logical_time.specs.Stamps.{StampValue, stamp_cmp}
use Rattle.column_family.specs.declared.batch.Row.{Row}
use Rattle.column_family.specs.declared.batch.Committed.{Committed}
use Rattle.column_family.specs.History.{History, up_to}
use Rattle.slice.specs.declared.read.Read.{Read}
use Rattle.slice.specs.Rows.{row_of}
use Rattle.slice.specs.Slice.{slice_of}
use Rattle.slice.specs.Live.{live_columns}
use Rattle.slice.specs.Parts.{AgreesOn, HaveSameOf, AreStampedApart}
use Rattle.slice.proofs.Lists.{none_in_empty, contains_first, contains_rest, first_or_rest}
use Rattle.slice.proofs.RowAlike.{live_alike}
use Rattle.table.specs.Meaning.{shown_row}
use Rattle.store.specs.declared.part.Part.{Part}
use Rattle.store.specs.Part.{IsRightPart, committed_of, history_of, applied_by}
use Rattle.store.specs.Keeps.{AreApart, IsNewStamp}
use Rattle.store.proofs.newest.Apart.{new_stamp}
use Rattle.store.proofs.newest.Newer.{same_itself}
use Rattle.audit.specs.Laid.{applied_of, all_applied}

-- ---- elements of lists
kept_in : (t : ℕ) (h : History) (c : Committed) → Contains h c → nat_le c.commit t ≡ true → Contains (up_to t h) c
kept_in t [] c has passes = absurd (none_in_empty c has)
kept_in t (d ∷ h) c has passes = go (nat_le d.commit t) refl (first_or_rest d c h has) (λ e. kept_in t h c e passes)
  where
    go : (b : Bool) → nat_le d.commit t ≡ b → (d ≡ c) ⊎ Contains h c → (Contains h c → Contains (up_to t h) c) → Contains (cond b (d ∷ up_to t h) (up_to t h)) c
    go true e (inl s) rest = subst (λ (z : Committed). Contains (d ∷ up_to t h) z) s (contains_first d (up_to t h))
    go true e (inr m) rest = contains_rest d c (up_to t h) (rest m)
    go false e (inl s) rest =
        let off : nat_le c.commit t ≡ false = ap (λ (z : Committed). nat_le z.commit t) (sym s) ∙ e in
        absurd (cc)
    go false e (inr m) rest = rest m

kept_from : (t : ℕ) (h : History) (c : Committed) → Contains (up_to t h) c → Contains h c × (nat_le c.commit t ≡ true)
kept_from t [] c has = absurd (none_in_empty c has)
kept_from t (d ∷ h) c has = go (nat_le d.commit t) refl (kept_from t h c) has
  where
    go : (b : Bool) → nat_le d.commit t ≡ b → (Contains (up_to t h) c → Contains h c × (nat_le c.commit t ≡ true)) → Contains (cond b (d ∷ up_to t h) (up_to t h)) c
        → Contains (d ∷ h) c × (nat_le c.commit t ≡ true)
    go true e rest m = at (first_or_rest d c (up_to t h) m)
      where
        at : (d ≡ c) ⊎ Contains (up_to t h) c → Contains (d ∷ h) c × (nat_le c.commit t ≡ true)
        at (inl s) = (subst (λ (z : Committed). Contains (d ∷ h) z) s (contains_first d h), ap (λ (z : Committed). nat_le z.commit t) (sym s) ∙ e)
        at (inr n) = let found = rest n in (contains_rest d c h found.0, found.1)
    go false e rest m = let found = rest m in (contains_rest d c h found.0, found.1)

-- an entry as the history of what was applied has it
abbrev in_normal_form : Committed → Committed
in_normal_form c = committed_of (applied_of c)

applied_in : (h : History) (c : Committed) → Contains h c → Contains (history_of (all_applied h)) (in_normal_form c)
applied_in [] c has = absurd (none_in_empty c has)
applied_in (d ∷ h) c has = elim (first_or_rest d c h has) [
  | inl s ↦ subst (λ (z : Committed). Contains (history_of (all_applied (d ∷ h))) (in_normal_form z)) s (contains_first (in_normal_form d) (history_of (all_applied h)))
  | inr m ↦ contains_rest (in_normal_form d) (in_normal_form c) (history_of (all_applied h)) (applied_in h c m)
]

applied_from : (h : History) (p : Committed) → Contains (history_of (all_applied h)) p → (c : Committed) × Contains h c × (in_normal_form c ≡ p)
applied_from [] p has = absurd (none_in_empty p has)
applied_from (d ∷ h) p has = elim (first_or_rest (in_normal_form d) p (history_of (all_applied h)) has) [
  | inl s ↦ (d, contains_first d h, s)
  | inr m ↦ let found = applied_from h p m in (found.0, contains_rest d found.0 h found.1, found.2)
]

-- ---- a stamp names one entry, where no two that were applied have one
stamp_apart : (s : StampValue) (h : History) (c : Committed) → IsNewStamp s (all_applied h) → Contains h c → s ≡ c.stamp → ⊥
stamp_apart s [] c new has e = none_in_empty c has
stamp_apart s (d ∷ h) c new has e =
    let other : is_eq (stamp_cmp s c.stamp) ≡ false = new_stamp s (all_applied (d ∷ h)) (applied_of c) new (among (d ∷ h) has) in
    let same : is_eq (stamp_cmp s c.stamp) ≡ true = ap (λ (t : StampValue). is_eq (stamp_cmp s t)) (sym e) ∙ same_itself s in
    cc
  where
    among : (g : History) → Contains g c → Contains (all_applied g) (applied_of c)
    among [] m = absurd (none_in_empty c m)
    among (b ∷ g) m = elim (first_or_rest b c g m) [
      | inl i ↦ subst (λ (z : Committed). Contains (all_applied (b ∷ g)) (applied_of z)) i (contains_first (applied_of b) (all_applied g))
      | inr j ↦ contains_rest (applied_of b) (applied_of c) (all_applied g) (among g j)
    ]

one_entry : (h : History) → AreApart (all_applied h) → AreStampedApart h
one_entry [] apart c d has also e = absurd (none_in_empty c has)
one_entry (b ∷ h) apart c d has also e = elim (first_or_rest b c h has) [
  | inl here ↦ elim (first_or_rest b d h also) [
    | inl too ↦ sym here ∙ too
    | inr far ↦ absurd (stamp_apart b.stamp h d apart.1 far (ap (λ (z : Committed). z.stamp) here ∙ e))
  ]
  | inr there ↦ elim (first_or_rest b d h also) [
    | inl too ↦ absurd (stamp_apart b.stamp h c apart.1 there (ap (λ (z : Committed). z.stamp) too ∙ sym e))
    | inr far ↦ one_entry h apart.2 c d there far e
  ]
]

-- ---- what was applied in some order shows the same of a row at each time
by_time : (t : ℕ) (h : History) → applied_by t (all_applied h) ≡ all_applied (up_to t h)
by_time t [] = refl
by_time t (c ∷ h) = go (nat_le c.commit t) (by_time t h)
  where
    go : (b : Bool) → applied_by t (all_applied h) ≡ all_applied (up_to t h)
        → cond b (applied_of c ∷ applied_by t (all_applied h)) (applied_by t (all_applied h)) ≡ all_applied (cond b (c ∷ up_to t h) (up_to t h))
    go true ih = ap (λ parts. applied_of c ∷ parts) ih
    go false ih = ih

module _ (h order : History) (same : IsPermutation h order) (apart : AreApart (all_applied order)) (t : ℕ) (r : Row) where
  to_order : (c : Committed) → Contains (up_to t h) c → Contains (up_to t order) c
  to_order c has = let found = kept_from t h c has in kept_in t order c (Contains-permutation h order c same found.0) found.1

  from_order : (c : Committed) → Contains (up_to t order) c → Contains (up_to t h) c
  from_order c has = let found = kept_from t order c has in kept_in t h c (Contains-permutation order h c (IsPermutation-sym h order same) found.0) found.1

  have_same : HaveSameOf r (history_of (all_applied (up_to t order))) (up_to t h)
  have_same = record {
    only = λ p has touches.
        let found = applied_from (up_to t order) p has in
        (found.0, from_order found.0 found.1, subst (λ (z : Committed). AgreesOn r z found.0) found.2 (record { stamp = refl; commit = refl; changes = refl }));
    each = λ w has touches. (in_normal_form w, applied_in (up_to t order) w (to_order w has), record { stamp = refl; commit = refl; changes = refl });
    apart = λ c d has also e.
        one_entry order apart c d (kept_from t order c (to_order c has)).0 (kept_from t order d (to_order d also)).0 e;
  }

  live_same : live_columns (history_of (applied_by t (all_applied order))) r ≡ live_columns (up_to t h) r
  live_same =
      ap (λ parts. live_columns (history_of parts) r) (by_time t order)
      ∙ live_alike r (history_of (all_applied (up_to t order))) (up_to t h) have_same

-- a row that is right by them is that of the history's own table
pub row_by_parts : (read : Read) (h order : History) (key : List ℕ) (t : ℕ) (row : Row) (part : Part) → IsPermutation h order → AreApart (all_applied order)
    → row ≡ row_of read key → IsRightPart (all_applied order) row read.predicate t part → record { key = row.key; columns = part.columns } ≡ shown_row read (up_to t h) key
row_by_parts read h order key t row part same apart e right =
    ap (λ (r : Row). record { key = r.key; columns = part.columns }) e
    ∙ ap (λ columns. record { key = key; columns = columns }) (of_row.columns ∙ ap (slice_of read.predicate) (live_same h order same apart t (row_of read key)))
  where
    of_row : IsRightPart (all_applied order) (row_of read key) read.predicate t part
    of_row = subst (λ (r : Row). IsRightPart (all_applied order) r read.predicate t part) e right

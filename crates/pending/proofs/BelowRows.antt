-- The transactions below a time in several rows.
use Rattle.std.proofs.Common.{◌≡◌, ◌∙◌, sym, subst, inl, inr, ℕ, ◌<◌, Bool, true, ◌&&◌, List, [], ◌∷◌, ◌++◌, Some, Contains, ◌↔◌, arith}
use Rattle.std.specs.Prelude.{◌==◌, IsSorted}
use Rattle.std.specs.Cmp.{IsEquivalence}
use Rattle.std.specs.Ordering.{eq_by_cmp}
use Rattle.std.specs.List.{dedup}
use Rattle.std.specs.List.Sorted.{IsStrictlySortedBy}
use Rattle.std.proofs.lemmas.Bool.Decides.{nat_tests}
use Rattle.std.proofs.lemmas.Cmp.{eq_by_cmp_equiv}
use Rattle.std.proofs.lemmas.List.Elements.{Contains-append_left, Contains-append_right, Contains-append_cases, Contains-push, Contains-push_cases}
use Rattle.std.proofs.lemmas.List.Kept.{Contains-dedup, Contains-from_dedup, IsStrictlySortedBy-dedup}
use Rattle.logical_time.specs.Stamps.{TxnValue, txn_cmp}
use Rattle.column_family.specs.declared.batch.Row.{Row}
use Rattle.pending.specs.Marks.{MarkList, time_at, IsBelow}
use Rattle.pending.specs.Marked.{IsMarkedBelow}
use Rattle.pending.proofs.Times.{txn_total}

-- whether both are the same transaction
abbrev pub same_number : TxnValue → TxnValue → Bool
same_number t u = (t.session == u.session) && (t.number == u.number)

ties : (t u : TxnValue) → same_number t u ≡ eq_by_cmp txn_cmp t u
ties t u = grind (arith, nat_tests)

equivalence : IsEquivalence same_number
equivalence =
    let known = eq_by_cmp_equiv txn_total in
    record {
      refl = λ t. ties t t ∙ known.refl t;
      symm = λ t u. ties t u ∙ known.symm t u ∙ sym (ties u t);
      congr = λ s t u h. ties s u ∙ known.congr s t u (sym (ties s t) ∙ h) ∙ sym (ties t u);
    }

same_sessions : (t u : TxnValue) → same_number t u ≡ true → t.session ≡ u.session
same_sessions t u e = grind (arith, nat_tests)

same_numbers : (t u : TxnValue) → same_number t u ≡ true → t.number ≡ u.number
same_numbers t u e = grind (arith, nat_tests)

same : (t u : TxnValue) → same_number t u ≡ true → t ≡ u
same t u e = let s = same_sessions t u e in let n = same_numbers t u e in λ i. record { session = s i; number = n i }

pub kept_once : (ts : List TxnValue) (t : TxnValue) → Contains ts t → Contains (dedup same_number ts) t
kept_once ts t has = Contains-dedup equivalence same ts t has

pub only_kept : (ts : List TxnValue) (t : TxnValue) → Contains (dedup same_number ts) t → Contains ts t
only_kept ts t has = Contains-from_dedup same_number ts t has

pub strictly_sorted : (ts : List TxnValue) → IsSorted txn_cmp ts → IsStrictlySortedBy txn_cmp (dedup same_number ts)
strictly_sorted ts sorted = IsStrictlySortedBy-dedup txn_total ties ts sorted

-- of no row there is none
pub below_none : (ms : MarkList) (bound : ℕ) (t : TxnValue) → Contains [] t ↔ IsMarkedBelow ms [] bound t
below_none ms bound t = (λ has. absurd (omega (arith, has.1)), λ (r, has, m). absurd (omega (arith, has.1)))

-- one row more
pub below_more : (ms : MarkList) (rows : List Row) (r : Row) (bound : ℕ) (ts more : List TxnValue) → ((t : TxnValue) → Contains ts t ↔ IsMarkedBelow ms rows bound t)
    → IsBelow (time_at ms r) bound more → (t : TxnValue) → Contains (ts ++ more) t ↔ IsMarkedBelow ms (rows ++ r ∷ []) bound t
below_more ms rows r bound ts more so_far one t = (into, out_of)
  where
    earlier : IsMarkedBelow ms rows bound t → IsMarkedBelow ms (rows ++ r ∷ []) bound t
    earlier (s, has, m) = (s, Contains-append_left rows (r ∷ []) s has, m)

    into : Contains (ts ++ more) t → IsMarkedBelow ms (rows ++ r ∷ []) bound t
    into has = elim (Contains-append_cases ts more t has) [
      | inl old ↦ earlier ((so_far t).0 old)
      | inr new ↦ (r, Contains-push rows r, (one.1 t).0 new)
    ]

    out_of : IsMarkedBelow ms (rows ++ r ∷ []) bound t → Contains (ts ++ more) t
    out_of (s, has, m) = elim (Contains-push_cases rows r s has) [
      | inl old ↦ Contains-append_left ts more t ((so_far t).1 (s, old, m))
      | inr here ↦
          Contains-append_right ts more t
          ((one.1 t).1 (subst (λ (z : Row). (n : ℕ) × (time_at ms z t ≡ Some n) × (n < bound)) (sym here) m))
    ]

-- The same range deletions are kept whether or not the deletions of the row were collected before.
use Rattle.std.proofs.Common.{◌≡◌, refl, ap, ℕ, max, ◌≤◌, Bool, List, [], ◌∷◌, Option, arith}
use Rattle.std.specs.Prelude.{filter, not}
use Rattle.versions.specs.declared.version.Version.{Version}
use Rattle.versions.specs.declared.range.RangeDeletion.{RangeDeletion}
use Rattle.versions.specs.Chain.{kept_from}
use Rattle.versions.specs.Ranges.{is_under, hidden, kept_ranges}
use Rattle.versions.proofs.Tests.{by_cases}
use Rattle.version_gc.proofs.Collected.{at_kept}

hidden_alike : (deletions : List Version) (s t : ℕ) (x : RangeDeletion) → s ≤ t → hidden t (kept_from s deletions) x ≡ hidden t deletions x
hidden_alike deletions s t x le = ap (λ (o : Option Version). is_under o x) (at_kept s deletions (max t x.evt) (omega (arith, le)))

filter_alike : (p q : RangeDeletion → Bool) → ((x : RangeDeletion) → p x ≡ q x) → (xs : List RangeDeletion) → filter p xs ≡ filter q xs
filter_alike p q same [] = refl
filter_alike p q same (x ∷ xs) = rw (same x) (by_cases (q x)
    (λ yes. rw yes (ap (λ (ys : List RangeDeletion). x ∷ ys) (filter_alike p q same xs)))
    (λ no. rw no (filter_alike p q same xs)))

-- the deletions of the row may be collected before or after
pub dropped_alike : (deletions : List Version) (ranges : List RangeDeletion) (s t : ℕ) → s ≤ t → kept_ranges t (kept_from s deletions) ranges ≡ kept_ranges t deletions ranges
dropped_alike deletions ranges s t le =
    filter_alike (λ x. not (hidden t (kept_from s deletions) x)) (λ x. not (hidden t deletions x)) (λ x. ap not (hidden_alike deletions s t x le)) ranges

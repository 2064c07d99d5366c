-- Few bytes that are the same by two numbers.
use Rattle.std.proofs.Common.{◌≡◌, ◌∙◌, ℕ, ◌<◌, ◌≤◌, ap, refl, sym, Bool, true, false, ◌&&◌, List, length, arith}
use Rattle.std.specs.Prelude.{◌==◌}
use Rattle.std.specs.declared.cmp.Ordering.{Ordering}
use Rattle.std.specs.declared.cmp.Ordering.TheVariants.{Less, Equal, Greater}
use Rattle.std.specs.Ordering.{MatchOrdering, nat_cmp, is_eq}
use Rattle.std.specs.Cmp.Lexicographic.{slice_cmp}
use Rattle.std.proofs.lemmas.Cmp.{ranked}
use Rattle.std.proofs.lemmas.Bool.Decides.{nat_tests}
use Rattle.column_family.specs.Heads.{first_of, second_of, StartsWithBytes}
use Rattle.column_family.proofs.Heads.{by_first, by_second}

apart_below : (a b : ℕ) → a < b → (a == b) ≡ false
apart_below a b lt = grind (arith, nat_tests)

apart_above : (a b : ℕ) → b < a → (a == b) ≡ false
apart_above a b lt = grind (arith, nat_tests)

one_number : (a b : ℕ) → a ≡ b → (a == b) ≡ true
one_number a b e = grind (arith, nat_tests)

-- numbers tie where they are the same
tied_numbers : (a b : ℕ) → is_eq (nat_cmp a b) ≡ (a == b)
tied_numbers a b = go (nat_cmp a b) refl (ranked a b (nat_cmp a b) refl)
  where
    go : (o : Ordering) → nat_cmp a b ≡ o → MatchOrdering o (a < b) (a ≡ b) (b < a) → is_eq o ≡ (a == b)
    go Less e lt = sym (apart_below a b lt)
    go Equal e same = sym (one_number a b same)
    go Greater e lt = sym (apart_above a b lt)

-- few bytes are the same where both numbers are
pub alike : (x y : List ℕ) → StartsWithBytes 14 x → StartsWithBytes 14 y → length x ≤ 14 → length y ≤ 14
    → ((first_of x == first_of y) && (second_of x == second_of y)) ≡ is_eq (slice_cmp nat_cmp x y)
alike x y hx hy lx ly = go (nat_cmp (first_of x) (first_of y)) refl (ranked (first_of x) (first_of y) (nat_cmp (first_of x) (first_of y)) refl)
  where
    go : (o : Ordering) → nat_cmp (first_of x) (first_of y) ≡ o → MatchOrdering o (first_of x < first_of y) (first_of x ≡ first_of y) (first_of y < first_of x)
        → ((first_of x == first_of y) && (second_of x == second_of y)) ≡ is_eq (slice_cmp nat_cmp x y)
    go Less e lt = rw (apart_below (first_of x) (first_of y) lt) (ap is_eq (by_first x y Less hx hy (sym e) (λ q. cc)))
    go Equal e same = rw (one_number (first_of x) (first_of y) same) (sym (tied_numbers (second_of x) (second_of y)) ∙ ap is_eq (by_second x y hx hy lx ly same))
    go Greater e lt = rw (apart_above (first_of x) (first_of y) lt) (ap is_eq (by_first x y Greater hx hy (sym e) (λ q. cc)))

pub alike_then : (x y : List ℕ) → StartsWithBytes 14 x → StartsWithBytes 14 y → length x ≤ 14 → length y ≤ 14 → (first_of x == first_of y) ≡ true → (second_of x == second_of y) ≡ is_eq (slice_cmp nat_cmp x y)
alike_then x y hx hy lx ly same = ap (λ (b : Bool). b && (second_of x == second_of y)) (sym same) ∙ alike x y hx hy lx ly

pub alike_else : (x y : List ℕ) → StartsWithBytes 14 x → StartsWithBytes 14 y → length x ≤ 14 → length y ≤ 14 → (first_of x == first_of y) ≡ false → false ≡ is_eq (slice_cmp nat_cmp x y)
alike_else x y hx hy lx ly apart = ap (λ (b : Bool). b && (second_of x == second_of y)) (sym apart) ∙ alike x y hx hy lx ly

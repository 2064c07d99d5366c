-- The first message that wasn't handled is found, and there is none exactly in a quiet run.
use Rattle.std.proofs.Common.{◌≡◌, ℕ, zero, suc, ◌+◌, ◌<◌, ◌≤◌, Bool, true, false, cond, not, List, length, Option, Some, None, refl, sym, ap, ◌∙◌, subst, arith, eqb-true, eq-eqb}
use Rattle.std.specs.Prelude.{◌==◌, find, Contains}
use Rattle.std.specs.List.{list_any, range_with_len}
use Rattle.std.proofs.lemmas.Bool.{false≢true}
use Rattle.std.proofs.lemmas.Bool.Decides.{nat_tests}
use Rattle.world.specs.Run.{Run}
use Rattle.world.specs.Quiet.{handled, IsQuiet}
use Rattle.world.specs.Lookups.{first_unhandled, IsFirstUnhandled, FindsUnhandled}
use Rattle.world.proofs.lists.Members.{contains_below, any_found, any_false, any_has, find_none}

-- the first number of a range that passes a test
record IsFirst (p : ℕ → Bool) (a n k : ℕ) : Type 0 where
  below : k < a + n
  is : p k ≡ true
  before : (j : ℕ) → a ≤ j → j < k → p j ≡ false

next : (a j : ℕ) → a ≤ j → (a == j) ≡ false → a + 1 ≤ j
next a j le e = grind (arith, nat_tests)

first_found : (p : ℕ → Bool) (a n k : ℕ) → find p (range_with_len a n) ≡ Some k → IsFirst p a n k
first_found p a zero k e = absurd (cc)
first_found p a (suc n) k e = go (p a) refl e (first_found p (a + 1) n k)
  where
    here_or_later : (j : ℕ) → a ≤ j → (a ≡ j → p j ≡ false) → (a + 1 ≤ j → p j ≡ false) → p j ≡ false
    here_or_later j le first rest = by (a == j) refl
      where
        by : (b : Bool) → (a == j) ≡ b → p j ≡ false
        by true q = first (eqb-true a j q)
        by false q = rest (next a j le q)

    go : (b : Bool) → p a ≡ b → cond b (Some a) (find p (range_with_len (a + 1) n)) ≡ Some k
        → (find p (range_with_len (a + 1) n) ≡ Some k → IsFirst p (a + 1) n k) → IsFirst p a (suc n) k
    go true q f rest =
        let same : a ≡ k = cc in
        record { below = omega arith; is = ap p (sym same) ∙ q; before = λ j le lt. absurd (omega arith) }
    go false q f rest =
        let r = rest f in
        let below = r.below in
        record {
          below = omega arith;
          is = r.is;
          before = λ j le lt. here_or_later j le (λ same. ap p (sym same) ∙ q) (λ more. r.before j more lt);
        }

-- a number is among those that were handled, or not
was : (xs : List ℕ) (k : ℕ) → not (list_any (λ j. j == k) xs) ≡ false → Contains xs k
was xs k e =
    let r = any_found (λ j. j == k) xs (turned (list_any (λ j. j == k) xs) e) in
    subst (Contains xs) (eqb-true r.0 k r.2) r.1
  where
    turned : (b : Bool) → not b ≡ false → b ≡ true
    turned true q = refl
    turned false q = absurd (false≢true (sym q))

was_not : (xs : List ℕ) (k : ℕ) → not (list_any (λ j. j == k) xs) ≡ true → Contains xs k → ⊥
was_not xs k e has = false≢true (ap not (sym (any_has (λ j. j == k) xs k has (eq-eqb k k refl))) ∙ e)

pub finds_unhandled : (w : Run) → FindsUnhandled w
finds_unhandled w = record { found = found; none = (none_quiet, quiet_none) }
  where
    found : (k : ℕ) → first_unhandled w ≡ Some k → IsFirstUnhandled w k
    found k e =
        let r = first_found (λ k. not (list_any (λ j. j == k) (handled w))) 0 (length w.sent) k e in
        let lt = r.below in
        record { sent = omega arith; unhandled = was_not (handled w) k r.is; before = λ j lt. was (handled w) j (r.before j (omega arith) lt) }

    none_quiet : first_unhandled w ≡ None → IsQuiet w
    none_quiet e k lt =
        was (handled w) k
        (any_false (λ k. not (list_any (λ j. j == k) (handled w))) (range_with_len 0 (length w.sent))
        (find_none (λ k. not (list_any (λ j. j == k) (handled w))) (range_with_len 0 (length w.sent)) e) k (contains_below (length w.sent) k lt))

    quiet_none : IsQuiet w → first_unhandled w ≡ None
    quiet_none quiet = go (first_unhandled w) refl
      where
        go : (o : Option ℕ) → first_unhandled w ≡ o → o ≡ None
        go None e = refl
        go (Some k) e = (let r = found k e in absurd (r.unhandled (quiet k r.sent)))

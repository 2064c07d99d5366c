-- Transactions that compare as equal.
use Rattle.std.proofs.Common.{◌≡◌, Bool, true, false, subst, refl, arith}
use Rattle.std.specs.Ordering.{is_eq, ordering_then, nat_cmp}
use Rattle.std.specs.declared.cmp.Ordering.{Ordering}
use Rattle.std.specs.declared.cmp.Ordering.TheVariants.{Less, Equal, Greater}
use Rattle.std.proofs.lemmas.Bool.Decides.{nat_tests}
use Rattle.std.proofs.lemmas.Map.Lookups.{exact_unsigned}
use Rattle.logical_time.specs.Stamps.{TxnValue, txn_cmp}

both_equal : (a b : Ordering) → is_eq (ordering_then a b) ≡ true → (a ≡ Equal) × (b ≡ Equal)
both_equal Less b h = absurd (cc)
both_equal Equal Less h = absurd (cc)
both_equal Equal Equal h = (refl, refl)
both_equal Equal Greater h = absurd (cc)
both_equal Greater b h = absurd (cc)

-- they are the same
pub same_txn : (t u : TxnValue) → is_eq (txn_cmp t u) ≡ true → t ≡ u
same_txn t u h =
    let e = both_equal (nat_cmp t.session u.session) (nat_cmp t.number u.number) h in
    let s = exact_unsigned t.session u.session e.0 in
    let n = exact_unsigned t.number u.number e.1 in
    λ i. record { session = s i; number = n i }

itself : (t : TxnValue) → is_eq (txn_cmp t t) ≡ true
itself t = grind (arith, nat_tests)

-- and the same ones do
pub equal_txn : (t u : TxnValue) → t ≡ u → is_eq (txn_cmp t u) ≡ true
equal_txn t u e = subst (λ (v : TxnValue). is_eq (txn_cmp t v) ≡ true) e (itself t)

-- by whether the transactions are the same
pub by_txn : {P : Type 0} (t u : TxnValue) → (t ≡ u → is_eq (txn_cmp t u) ≡ true → P) → (is_eq (txn_cmp t u) ≡ false → P) → P
by_txn {P} t u same apart = go (is_eq (txn_cmp t u)) (λ e. same (same_txn t u e) e) apart
  where
    go : (b : Bool) → (b ≡ true → P) → (b ≡ false → P) → P
    go true f g = f refl
    go false f g = g refl

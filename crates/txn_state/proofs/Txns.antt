-- Transactions in order, one that is taken out of them, and those of dependencies.
use Rattle.std.proofs.Common.{◌≡◌, ◌∙◌, ap, sym, refl, Bool, true, false, not, cond, List, [], ◌∷◌, map, arith}
use Rattle.std.specs.Prelude.{◌||◌}
use Rattle.std.specs.Ordering.{is_eq}
use Rattle.std.specs.List.{list_any, AllByRecursion}
use Rattle.std.specs.List.Sorted.{IsStrictlySortedBy}
use Rattle.std.specs.Set.{remove_key}
use Rattle.std.specs.declared.cmp.Ordering.TheVariants.{Less, Equal}
use Rattle.std.proofs.lemmas.Bool.Decides.{nat_tests}
use Rattle.logical_time.specs.Stamps.{TxnValue, txn_cmp, WriterValue}
use Rattle.txn_state.specs.Answers.{is_unanswered, is_dependency, answered}
use Rattle.txn_state.proofs.Missing.{all_left}

-- ## Both ways

-- whether two are the same doesn't depend on which comes first
pub turned : (t u : TxnValue) → is_eq (txn_cmp u t) ≡ is_eq (txn_cmp t u)
turned t u = grind (arith, nat_tests)

any_turned : (t : TxnValue) (us : List TxnValue) → is_unanswered us t ≡ list_any (λ u. is_eq (txn_cmp t u)) us
any_turned t [] = refl
any_turned t (u ∷ us) = ap (λ b. b || is_unanswered us t) (turned t u) ∙ ap (λ b. is_eq (txn_cmp t u) || b) (any_turned t us)

-- ## Taken out

-- what comes after a transaction in order isn't the same
after_differs : (t x y : TxnValue) → is_eq (txn_cmp t x) ≡ true → txn_cmp x y ≡ Less → is_eq (txn_cmp y t) ≡ false
after_differs t x y same less = grind (arith, nat_tests)

none_after : (t x : TxnValue) (ys : List TxnValue) → is_eq (txn_cmp t x) ≡ true → AllByRecursion (λ y. txn_cmp x y ≡ Less) ys → list_any (λ u. is_eq (txn_cmp u t)) ys ≡ false
none_after t x [] same less = refl
none_after t x (y ∷ ys) same less = rw (after_differs t x y same less.0) (none_after t x ys same less.1)

-- to take out the first that is the same is to leave out all that are
pub taken : (t : TxnValue) (ts : List TxnValue) → IsStrictlySortedBy txn_cmp ts → remove_key (λ u. is_eq (txn_cmp t u)) ts ≡ answered ts t
unfolding IsStrictlySortedBy
taken t [] sorted = refl
taken t (x ∷ xs) sorted = at (is_eq (txn_cmp t x)) refl (taken t xs sorted.1)
  where
    at : (b : Bool) → is_eq (txn_cmp t x) ≡ b → remove_key (λ u. is_eq (txn_cmp t u)) xs ≡ answered xs t → cond b xs (x ∷ remove_key (λ u. is_eq (txn_cmp t u)) xs) ≡ cond (not (is_eq (txn_cmp x t))) (x ∷ answered xs t) (answered xs t)
    at true same more = rw (turned t x ∙ same) (sym (all_left (λ u. is_eq (txn_cmp u t)) xs (none_after t x xs same sorted.0)))
    at false other more = rw (turned t x ∙ other) (ap (λ ys. x ∷ ys) more)

-- ## Those of dependencies

any_of : (t : TxnValue) (ws : List WriterValue) → list_any (λ u. is_eq (txn_cmp t u)) (map (λ (w : WriterValue). w.txn) ws) ≡ is_dependency ws t
any_of t [] = refl
any_of t (w ∷ ws) = ap (λ b. b || list_any (λ u. is_eq (txn_cmp t u)) (map (λ (v : WriterValue). v.txn) ws)) (sym (turned t w.txn)) ∙ ap (λ b. is_eq (txn_cmp w.txn t) || b) (any_of t ws)

-- those of dependencies, by whether each is one
pub known : (ws : List WriterValue) (ts us : List TxnValue) → ts ≡ map (λ (w : WriterValue). w.txn) ws
    → ((t : TxnValue) → list_any (λ u. is_eq (txn_cmp t u)) us ≡ list_any (λ u. is_eq (txn_cmp t u)) ts) → (t : TxnValue) → is_unanswered us t ≡ is_dependency ws t
known ws ts us is same t = any_turned t us ∙ same t ∙ ap (λ xs. list_any (λ u. is_eq (txn_cmp t u)) xs) is ∙ any_of t ws

-- What is known after something more is under way.
use Rattle.std.proofs.Common.{◌≡◌, ◌≢◌, ◌∙◌, ap, sym, subst, refl, ℕ, true, false, ◌==◌, List, [], ◌∷◌, ◌++◌, length, Some, None, arith}
use Rattle.std.specs.Prelude.{if◌then◌else◌, slice_get, option_map}
use Rattle.std.specs.Ordering.{is_eq}
use Rattle.std.proofs.lemmas.Bool.{eq-eqb, ne_eqb}
use Rattle.std.proofs.lemmas.List.{length_push, get_or_push, get_or_append_left}
use Rattle.std.proofs.lemmas.Option.{same_Some, slice_get_within, slice_get_past, slice_get-get_or}
use Rattle.logical_time.specs.Stamps.{TxnValue, txn_cmp}
use Rattle.write_txn.specs.declared.open.Open.{Open}
use Rattle.write_txn.specs.declared.status.Status.TheVariants as in_status
use Rattle.write_txn.specs.Statuses.{StatusList}
use Rattle.write_txn.specs.Ledger.{Holds, IsPlaced, status_in, state_at, txn_of, Becomes}
use Rattle.write_txn.specs.Places.{ledger_of}
use Rattle.write_txn.proofs.Lists.{by_equal, by_below, same_reads}
use Rattle.write_txn.proofs.Replaced.{same_state}
use Rattle.write_txn.proofs.Settled.{same_place}
use Rattle.write_txn.proofs.Txns.{by_txn, equal_txn}

-- what is read of a list with one more at its end
pub read_pushed : {X : Type 0} (xs : List X) (x : X) (k : ℕ) → slice_get (xs ++ x ∷ []) k ≡ (if k == length xs then Some x else slice_get xs k)
read_pushed xs x k =
    let long = length_push xs x in
    by_equal {P = slice_get (xs ++ x ∷ []) k ≡ (if k == length xs then Some x else slice_get xs k)} k (length xs)
    (λ at here. rw here (slice_get-get_or (xs ++ x ∷ []) k x (omega arith) ∙ ap Some (get_or_push xs x x k (sym at))))
    (λ apart there. rw there (
    by_below {P = slice_get (xs ++ x ∷ []) k ≡ slice_get xs k} k (length xs)
    (λ within e. same_reads (xs ++ x ∷ []) xs k k (omega arith) within (λ d. get_or_append_left xs (x ∷ []) d k within))
    (λ past e. slice_get_past (xs ++ x ∷ []) k (omega arith) ∙ sym (slice_get_past xs k past))
    ))

module _ (es fs : StatusList) (os : List Open) (o : Open)
    (placed : IsPlaced (ledger_of es os)) (unknown : status_in es (txn_of o) ≡ None)
    (statuses : (u : TxnValue) → status_in fs u ≡ (if is_eq (txn_cmp (txn_of o) u) then Some (in_status.Open (length os)) else status_in es u)) where
  own : (u : TxnValue) → is_eq (txn_cmp (txn_of o) u) ≡ true → status_in fs u ≡ Some (in_status.Open (length os))
  own u equal = statuses u ∙ rw equal refl

  others : (u : TxnValue) → is_eq (txn_cmp (txn_of o) u) ≡ false → status_in fs u ≡ status_in es u
  others u other = statuses u ∙ rw other refl

  at_end : (k : ℕ) → k ≡ length os → slice_get (os ++ o ∷ []) k ≡ Some o
  at_end k at = let here : (k == length os) ≡ true = eq-eqb k (length os) at in read_pushed os o k ∙ rw here refl

  before : (k : ℕ) → k ≢ length os → slice_get (os ++ o ∷ []) k ≡ slice_get os k
  before k apart = let there : (k == length os) ≡ false = ne_eqb k (length os) apart in read_pushed os o k ∙ rw there refl

  not_last : (u : TxnValue) (q : ℕ) → status_in es u ≡ Some (in_status.Open q) → q ≢ length os
  not_last u q h e = let a = placed.held u q h in let lt = slice_get_within os q a.0 a.1 in absurd (omega arith)

  -- each that names a place has its own there
  pub added_placed : IsPlaced (ledger_of fs (os ++ o ∷ []))
  added_placed = record {
    held = λ u q h.
        by_txn {P = (p : Open) × (slice_get (os ++ o ∷ []) q ≡ Some p) × (txn_of p ≡ u)} (txn_of o) u
        (λ same equal. (o, at_end q (same_place q (length os) (sym h ∙ own u equal)), same))
        (λ other. let a = placed.held u q (sym (others u other) ∙ h) in (a.0, before q (not_last u q (sym (others u other) ∙ h)) ∙ a.1, a.2));
    found = λ q p h.
        by_equal {P = status_in fs (txn_of p) ≡ Some (in_status.Open q)} q (length os)
        (λ at here.
        let same = same_Some o p (sym (at_end q at) ∙ h) in
        own (txn_of p) (equal_txn (txn_of o) (txn_of p) (ap txn_of same)) ∙ ap (λ (k : ℕ). Some (in_status.Open k)) (sym at))
        (λ apart there.
        let had = placed.found q p (sym (before q apart) ∙ h) in
        by_txn {P = status_in fs (txn_of p) ≡ Some (in_status.Open q)} (txn_of o) (txn_of p)
        (λ same equal. let none : status_in es (txn_of p) ≡ None = ap (status_in es) (sym same) ∙ unknown in absurd (cc))
        (λ other. others (txn_of p) other ∙ had));
  }

  -- the transaction has it, and the others have their states
  pub added_becomes : Becomes (txn_of o) (Some (Holds o)) (ledger_of es os) (ledger_of fs (os ++ o ∷ []))
  added_becomes u =
      by_txn {P = state_at (os ++ o ∷ []) (status_in fs u) ≡ (if is_eq (txn_cmp (txn_of o) u) then Some (Holds o) else state_at os (status_in es u))} (txn_of o) u
      (λ same equal. rw equal (ap (state_at (os ++ o ∷ [])) (own u equal) ∙ ap (option_map Holds) (at_end (length os) refl)))
      (λ other. rw other (ap (state_at (os ++ o ∷ [])) (others u other) ∙ same_state os (os ++ o ∷ []) (status_in es u) (λ q h. before q (not_last u q h))))

as_added : (es fs : StatusList) (os : List Open) (o : Open) (t : TxnValue) (place : ℕ) → t ≡ txn_of o → place ≡ length os → ((u : TxnValue) → status_in fs u ≡ (if is_eq (txn_cmp t u) then Some (in_status.Open place) else status_in es u)) → (u : TxnValue) → status_in fs u ≡ (if is_eq (txn_cmp (txn_of o) u) then Some (in_status.Open (length os)) else status_in es u)
as_added es fs os o t place same at statuses u =
    statuses u
    ∙ ap (λ (v : TxnValue). if is_eq (txn_cmp v u) then Some (in_status.Open place) else status_in es u) same
    ∙ ap (λ (k : ℕ). if is_eq (txn_cmp (txn_of o) u) then Some (in_status.Open k) else status_in es u) at

-- the same, as it is pushed
pub pushed_placed : (es fs : StatusList) (os ps : List Open) (o : Open) (t : TxnValue) (place : ℕ) → IsPlaced (ledger_of es os) → status_in es (txn_of o) ≡ None → t ≡ txn_of o → place ≡ length os → ps ≡ os ++ o ∷ [] → ((u : TxnValue) → status_in fs u ≡ (if is_eq (txn_cmp t u) then Some (in_status.Open place) else status_in es u)) → IsPlaced (ledger_of fs ps)
pushed_placed es fs os ps o t place placed unknown same at pushed statuses =
    subst (λ ys. IsPlaced (ledger_of fs ys)) (sym pushed) (added_placed es fs os o placed unknown (as_added es fs os o t place same at statuses))

pub pushed_becomes : (es fs : StatusList) (os ps : List Open) (o : Open) (t : TxnValue) (place : ℕ) → IsPlaced (ledger_of es os) → status_in es (txn_of o) ≡ None → t ≡ txn_of o → place ≡ length os → ps ≡ os ++ o ∷ [] → ((u : TxnValue) → status_in fs u ≡ (if is_eq (txn_cmp t u) then Some (in_status.Open place) else status_in es u)) → Becomes (txn_of o) (Some (Holds o)) (ledger_of es os) (ledger_of fs ps)
pushed_becomes es fs os ps o t place placed unknown same at pushed statuses =
    subst (λ ys. Becomes (txn_of o) (Some (Holds o)) (ledger_of es os) (ledger_of fs ys)) (sym pushed) (added_becomes es fs os o placed unknown (as_added es fs os o t place same at statuses))

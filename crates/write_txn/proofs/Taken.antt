-- What is known after what is under way of a transaction was taken out, and what became of it was put there.
use Rattle.std.proofs.Common.{◌≡◌, ◌∙◌, ap, sym, subst, ℕ, ◌-◌, ◌<◌, ◌==◌, nat_lt, List, [], ◌∷◌, ◌++◌, length, get_or, set, Option, Some, None, IfSome}
use Rattle.std.specs.Prelude.{if◌then◌else◌, slice_get, option_map}
use Rattle.std.specs.List.{swap, swap_remove}
use Rattle.std.proofs.lemmas.Option.{same_Some, slice_get_within, get_or_from_slice_get}
use Rattle.logical_time.specs.Stamps.{TxnValue}
use Rattle.write_txn.specs.declared.open.Open.{Open}
use Rattle.write_txn.specs.declared.status.Status.{Status}
use Rattle.write_txn.specs.declared.status.Status.TheVariants as in_status
use Rattle.write_txn.specs.declared.next.Next.{Next}
use Rattle.write_txn.specs.declared.next.Next.TheVariants as in_next
use Rattle.write_txn.specs.Statuses.{StatusList}
use Rattle.write_txn.specs.Ledger.{State, Holds, IsApplied, IsDecided, IsPlaced, status_in, state_at, state_of, txn_of, Becomes}
use Rattle.write_txn.specs.Next.{state_next}
use Rattle.write_txn.specs.Places.{ledger_of, place_of, IsPut}
use Rattle.write_txn.proofs.Lists.{read_set, read_taken, put_back_is}
use Rattle.write_txn.proofs.Replaced.{replaced_placed, replaced_becomes}
use Rattle.write_txn.proofs.Settled.{settled_placed, settled_becomes}

-- what is under way is of this transaction
abbrev pub IsOf : TxnValue → State → Type 0
IsOf t (Holds o) = txn_of o ≡ t
IsOf t IsApplied = t ≡ t
IsOf t (IsDecided commit stamp) = t ≡ t

-- what a step makes of what is under way is of the same transaction
abbrev pub KeepsTxn : (Option State → Option State) → Type 0
KeepsTxn f = (o : Open) → IfSome (f (Some (Holds o))) (IsOf (txn_of o))

-- what a step answers is of the same transaction
abbrev pub AnswersTxn : {A : Type 0} → (Option State → Option A) → (A → TxnValue) → Type 0
AnswersTxn f txn = (o : Open) → IfSome (f (Some (Holds o))) (λ a. txn a ≡ txn_of o)

named_open : (o : Option Status) (place : ℕ) → place_of o ≡ Some place → o ≡ Some (in_status.Open place)
named_open None place e = absurd (cc)
named_open (Some (in_status.Open q)) place e = cc
named_open (Some in_status.Applied) place e = absurd (cc)
named_open (Some (in_status.Decided commit stamp)) place e = absurd (cc)

-- the ledger before; the transaction, its place, and what was taken out there
module _ (es : StatusList) (os : List Open) (t : TxnValue) (place : ℕ) (o : Open)
    (placed : IsPlaced (ledger_of es os)) (named : Some place ≡ place_of (status_in es t)) (read : o ≡ get_or os place o) where
  status : status_in es t ≡ Some (in_status.Open place)
  status = named_open (status_in es t) place (sym named)

  stands : slice_get os place ≡ Some o
  stands =
      let a = placed.held t place status in
      a.1 ∙ ap Some (sym (get_or_from_slice_get os place a.0 o a.1) ∙ sym read)

  pub inside : place < length os
  inside = slice_get_within os place o stands

  pub own : txn_of o ≡ t
  own = let a = placed.held t place status in ap txn_of (same_Some o a.0 (sym stands ∙ a.1)) ∙ a.2

  pub known : state_of (ledger_of es os) t ≡ Some (Holds o)
  known = ap (state_at os) status ∙ ap (option_map Holds) stands

  -- it was put back as something else of the transaction
  pub back_placed : (ps : List Open) (x : Open) → ps ≡ set os place x → txn_of x ≡ t → IsPlaced (ledger_of es ps)
  back_placed ps x is of =
      replaced_placed es os ps t place x placed status of (λ k. ap (λ ys. slice_get ys k) is ∙ read_set os place x inside k)

  pub back_becomes : (ps : List Open) (x : Open) → ps ≡ set os place x → Becomes t (Some (Holds x)) (ledger_of es os) (ledger_of es ps)
  back_becomes ps x is =
      replaced_becomes es os ps t place x placed status (λ k. ap (λ ys. slice_get ys k) is ∙ read_set os place x inside k)

  pub back_is_set : (ps qs : List Open) (x : Open) → ps ≡ swap_remove os place o → qs ≡ swap (ps ++ x ∷ []) place (length ps) → qs ≡ set os place x
  back_is_set ps qs x taken is = is ∙ ap (λ ys. swap (ys ++ x ∷ []) place (length ys)) taken ∙ put_back_is os place o x inside

  left : (ps : List Open) → ps ≡ swap_remove os place o → (k : ℕ) → slice_get ps k ≡ (if nat_lt k (length os - 1) then (if k == place then slice_get os (length os - 1) else slice_get os k) else None)
  left ps taken k = ap (λ ys. slice_get ys k) taken ∙ read_taken os place o inside k

  pub put_placed : (ps : List Open) (fs : StatusList) (qs : List Open) (x : Next) → ps ≡ swap_remove os place o → IsOf t (state_next x) → IsPut place t x es ps fs qs → IsPlaced (ledger_of fs qs)
  put_placed ps fs qs (in_next.Holds y) taken of is =
      subst (λ gs. IsPlaced (ledger_of gs qs)) (sym is.0) (back_placed qs y (back_is_set ps qs y taken is.1) of)
  put_placed ps fs qs in_next.Applied taken of is =
      subst (λ ys. IsPlaced (ledger_of fs ys)) (sym is.0) (settled_placed es os t place in_status.Applied fs ps placed status (λ q e. cc) (left ps taken) is.1)
  put_placed ps fs qs (in_next.Decided commit stamp) taken of is =
      subst (λ ys. IsPlaced (ledger_of fs ys)) (sym is.0) (settled_placed es os t place (in_status.Decided commit stamp) fs ps placed status (λ q e. cc) (left ps taken) is.1)

  pub put_becomes : (ps : List Open) (fs : StatusList) (qs : List Open) (x : Next) → ps ≡ swap_remove os place o → IsPut place t x es ps fs qs → Becomes t (Some (state_next x)) (ledger_of es os) (ledger_of fs qs)
  put_becomes ps fs qs (in_next.Holds y) taken is =
      subst (λ gs. Becomes t (Some (Holds y)) (ledger_of es os) (ledger_of gs qs)) (sym is.0) (back_becomes qs y (back_is_set ps qs y taken is.1))
  put_becomes ps fs qs in_next.Applied taken is =
      subst (λ ys. Becomes t (Some IsApplied) (ledger_of es os) (ledger_of fs ys)) (sym is.0) (settled_becomes es os t place in_status.Applied fs ps placed status (λ q e. cc) (left ps taken) is.1)
  put_becomes ps fs qs (in_next.Decided commit stamp) taken is =
      subst (λ ys. Becomes t (Some (IsDecided commit stamp)) (ledger_of es os) (ledger_of fs ys)) (sym is.0) (settled_becomes es os t place (in_status.Decided commit stamp) fs ps placed status (λ q e. cc) (left ps taken) is.1)

  -- what a step made of it was put there: all places are right, the step is what happened, and it answered by what was known
  pub step_placed : (f : Option State → Option State) → KeepsTxn f → (ps : List Open) (fs : StatusList) (qs : List Open) (x : Next) → ps ≡ swap_remove os place o → Some (state_next x) ≡ f (Some (Holds o)) → IsPut place t x es ps fs qs → IsPlaced (ledger_of fs qs)
  step_placed f keeps ps fs qs x taken is put =
      put_placed ps fs qs x taken (subst (λ u. IsOf u (state_next x)) own (subst (λ s. IfSome s (IsOf (txn_of o))) (sym is) (keeps o))) put

  pub step_becomes : (f : Option State → Option State) (ps : List Open) (fs : StatusList) (qs : List Open) (x : Next) → ps ≡ swap_remove os place o → Some (state_next x) ≡ f (Some (Holds o)) → IsPut place t x es ps fs qs → Becomes t (f (state_of (ledger_of es os) t)) (ledger_of es os) (ledger_of fs qs)
  step_becomes f ps fs qs x taken is put =
      subst (λ s. Becomes t s (ledger_of es os) (ledger_of fs qs)) (is ∙ ap f (sym known)) (put_becomes ps fs qs x taken put)

  pub answer_known : {A : Type 0} (f : Option State → A) (a : A) → a ≡ f (Some (Holds o)) → a ≡ f (state_of (ledger_of es os) t)
  answer_known f a is = is ∙ ap f (sym known)

  pub answer_own : {A : Type 0} (f : Option State → Option A) (txn : A → TxnValue) → AnswersTxn f txn → (a : Option A) → a ≡ f (Some (Holds o)) → IfSome a (λ x. txn x ≡ t)
  answer_own {A} f txn keeps a is =
      subst (λ u. IfSome a (λ x. txn x ≡ u)) own (subst (λ b. IfSome b (λ x. txn x ≡ txn_of o)) (sym is) (keeps o))

  -- the same of what stays under way
  pub stay_placed : (f : Option State → Option State) → KeepsTxn f → (ps : List Open) (x : Open) → ps ≡ set os place x → Some (Holds x) ≡ f (Some (Holds o)) → IsPlaced (ledger_of es ps)
  stay_placed f keeps ps x set is =
      back_placed ps x set (subst (λ s. IfSome s (IsOf (txn_of o))) (sym is) (keeps o) ∙ own)

  pub stay_becomes : (f : Option State → Option State) (ps : List Open) (x : Open) → ps ≡ set os place x → Some (Holds x) ≡ f (Some (Holds o)) → Becomes t (f (state_of (ledger_of es os) t)) (ledger_of es os) (ledger_of es ps)
  stay_becomes f ps x set is =
      subst (λ s. Becomes t s (ledger_of es os) (ledger_of es ps)) (is ∙ ap f (sym known)) (back_becomes ps x set)

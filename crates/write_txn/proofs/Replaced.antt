-- What is known after what is under way at one place was replaced.
use Rattle.std.proofs.Common.{◌≡◌, ◌∙◌, ap, sym, refl, ℕ, true, ◌==◌, List, Option, Some, None}
use Rattle.std.specs.Prelude.{if◌then◌else◌, slice_get, option_map}
use Rattle.std.specs.Ordering.{is_eq}
use Rattle.std.proofs.lemmas.Bool.{eq-eqb}
use Rattle.std.proofs.lemmas.Option.{same_Some}
use Rattle.logical_time.specs.Stamps.{TxnValue, txn_cmp}
use Rattle.write_txn.specs.declared.open.Open.{Open}
use Rattle.write_txn.specs.declared.status.Status.{Status}
use Rattle.write_txn.specs.declared.status.Status.TheVariants as in_status
use Rattle.write_txn.specs.Statuses.{StatusList}
use Rattle.write_txn.specs.Ledger.{LedgerValue, Holds, IsPlaced, status_in, state_at, txn_of, Becomes}
use Rattle.write_txn.specs.Places.{ledger_of}
use Rattle.write_txn.proofs.Lists.{by_equal}
use Rattle.write_txn.proofs.Txns.{by_txn, equal_txn}

-- what stands at the place that a status names is all that matters of a list
pub same_state : (os ps : List Open) (s : Option Status) → ((q : ℕ) → s ≡ Some (in_status.Open q) → slice_get ps q ≡ slice_get os q) → state_at ps s ≡ state_at os s
same_state os ps None same = refl
same_state os ps (Some (in_status.Open q)) same = ap (option_map Holds) (same q refl)
same_state os ps (Some in_status.Applied) same = refl
same_state os ps (Some (in_status.Decided commit stamp)) same = refl

-- two transactions that stand at one place are the same
pub one_place : (l : LedgerValue) → IsPlaced l → (t u : TxnValue) (place : ℕ) → status_in l.statuses t ≡ Some (in_status.Open place) → status_in l.statuses u ≡ Some (in_status.Open place) → t ≡ u
one_place l placed t u place first second =
    let a = placed.held t place first in
    let b = placed.held u place second in
    sym a.2 ∙ ap txn_of (same_Some a.0 b.0 (sym a.1 ∙ b.1)) ∙ b.2

-- the transaction at a place is that of what stands there
pub there : (l : LedgerValue) → IsPlaced l → (t : TxnValue) (place : ℕ) (o : Open) → status_in l.statuses t ≡ Some (in_status.Open place) → slice_get l.under_way place ≡ Some o → txn_of o ≡ t
there l placed t place o status stands =
    let a = placed.held t place status in
    ap txn_of (same_Some o a.0 (sym stands ∙ a.1)) ∙ a.2

-- each that names a place still has its own there
pub replaced_placed : (es : StatusList) (os ps : List Open) (t : TxnValue) (place : ℕ) (o : Open) → IsPlaced (ledger_of es os) → status_in es t ≡ Some (in_status.Open place) → txn_of o ≡ t → ((k : ℕ) → slice_get ps k ≡ (if k == place then Some o else slice_get os k)) → IsPlaced (ledger_of es ps)
replaced_placed es os ps t place o placed status own reads = record {
  held = λ u q h.
      by_equal {P = (p : Open) × (slice_get ps q ≡ Some p) × (txn_of p ≡ u)} q place
      (λ at here. (o, (reads q ∙ rw here refl), own ∙ one_place (ledger_of es os) placed t u place status (h ∙ ap (λ (k : ℕ). Some (in_status.Open k)) at)))
      (λ apart not_here. let a = placed.held u q h in (a.0, (reads q ∙ rw not_here a.1), a.2));
  found = λ q p h.
      by_equal {P = status_in es (txn_of p) ≡ Some (in_status.Open q)} q place
      (λ at here.
      let same = same_Some o p (sym (reads q ∙ rw here refl) ∙ h) in
      ap (status_in es) (sym (ap txn_of same) ∙ own) ∙ status ∙ ap (λ (k : ℕ). Some (in_status.Open k)) (sym at))
      (λ apart not_here. placed.found q p (sym (reads q ∙ rw not_here refl) ∙ h));
}

-- the transaction's state is the new one, and the others have theirs
pub replaced_becomes : (es : StatusList) (os ps : List Open) (t : TxnValue) (place : ℕ) (o : Open) → IsPlaced (ledger_of es os) → status_in es t ≡ Some (in_status.Open place) → ((k : ℕ) → slice_get ps k ≡ (if k == place then Some o else slice_get os k)) → Becomes t (Some (Holds o)) (ledger_of es os) (ledger_of es ps)
replaced_becomes es os ps t place o placed status reads u =
    by_txn {P = state_at ps (status_in es u) ≡ (if is_eq (txn_cmp t u) then Some (Holds o) else state_at os (status_in es u))} t u
    (λ same yes_same. rw yes_same (ap (λ (v : TxnValue). state_at ps (status_in es v)) (sym same) ∙ ap (state_at ps) status ∙ ap (option_map Holds) (at_itself place refl)))
    (λ other. rw other (same_state os ps (status_in es u) (λ q h.
    by_equal {P = slice_get ps q ≡ slice_get os q} q place
    (λ at here. absurd (
    let same = one_place (ledger_of es os) placed t u place status (h ∙ ap (λ (k : ℕ). Some (in_status.Open k)) at) in
    let e = equal_txn t u same in
    cc
    ))
    (λ apart not_here. reads q ∙ rw not_here refl))))
  where
    at_itself : (k : ℕ) → k ≡ place → slice_get ps k ≡ Some o
    at_itself k at = let here : (k == place) ≡ true = eq-eqb k place at in reads k ∙ rw here refl

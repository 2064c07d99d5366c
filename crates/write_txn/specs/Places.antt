-- The places of what is under way, and what taking one out does to the statuses.
use Rattle.std.specs.Prelude.{◌≡◌, ℕ, if◌then◌else◌, List, [], ◌∷◌, ◌++◌, length, slice_get, Option, Some, None, option_map}
use Rattle.std.specs.List.{swap}
use Rattle.std.specs.Ordering.{is_eq}
use Rattle.logical_time.specs.Stamps.{TxnValue, txn_cmp}
use Rattle.write_txn.specs.declared.open.Open.{Open}
use Rattle.write_txn.specs.declared.status.Status.{Status}
use Rattle.write_txn.specs.declared.status.Status.TheVariants as in_status
use Rattle.write_txn.specs.declared.next.Next.{Next}
use Rattle.write_txn.specs.declared.next.Next.TheVariants as in_next
use Rattle.write_txn.specs.Statuses.{StatusList}
use Rattle.write_txn.specs.Ledger.{LedgerValue, txn_of, status_in}

-- the ledger with these statuses, where this is under way
abbrev pub ledger_of : StatusList → List Open → LedgerValue
ledger_of es os = record { statuses = es; under_way = os }

-- the place that a status names, if it names one
abbrev pub place_of : Option Status → Option ℕ
place_of None = None
place_of (Some (in_status.Open place)) = Some place
place_of (Some in_status.Applied) = None
place_of (Some (in_status.Decided commit stamp)) = None

-- the status of a transaction, after that of the first one was changed
abbrev pub status_set : TxnValue → Status → TxnValue → Option Status → Option Status
status_set t s u before = if is_eq (txn_cmp t u) then option_map (λ _. s) before else before

-- the status of a transaction, after what stands at a place was moved there
abbrev pub status_moved : Option Open → ℕ → TxnValue → Option Status → Option Status
status_moved None place u before = before
status_moved (Some moved) place u before = status_set (txn_of moved) (in_status.Open place) u before

-- what was taken out at the place is over, and the status of its transaction is this one
abbrev pub IsSettled : ℕ → TxnValue → Status → StatusList → List Open → StatusList → List Open → Type 0
IsSettled place t s es os fs ps =
    (ps ≡ os) × ((u : TxnValue) → status_in fs u ≡ status_set t s u (status_moved (slice_get os place) place u (status_in es u)))

-- what became of the transaction has the place of what was taken out there
abbrev pub IsPut : ℕ → TxnValue → Next → StatusList → List Open → StatusList → List Open → Type 0
IsPut place t (in_next.Holds held) es os fs ps = (fs ≡ es) × (ps ≡ swap (os ++ held ∷ []) place (length os))
IsPut place t in_next.Applied es os fs ps = IsSettled place t in_status.Applied es os fs ps
IsPut place t (in_next.Decided commit stamp) es os fs ps = IsSettled place t (in_status.Decided commit stamp) es os fs ps

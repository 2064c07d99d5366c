-- Marks while a step is under way: a row is marked before the ledger takes the step, since marking can be refused.
use Rattle.std.specs.Prelude.{◌≡◌, Bool, true, false, ◌==◌, ◌&&◌, not, if◌then◌else◌, List, length, Option, None}
use Rattle.std.specs.Ordering.{is_eq}
use Rattle.logical_time.specs.Stamps.{TxnValue, txn_cmp}
use Rattle.column_family.specs.declared.batch.Row.{Row}
use Rattle.column_family.specs.declared.batch.Change.{Change}
use Rattle.pending.specs.Marks.{MarkList, time_at}
use Rattle.pending.specs.Marked.{touches}
use Rattle.txn_state.specs.RemoteBallot.{RemoteValue, missing_in}
use Rattle.write_txn.specs.declared.open.Open.{Open}
use Rattle.write_txn.specs.declared.open.Open.TheVariants as in_open
use Rattle.write_txn.specs.Ledger.{LedgerValue, State, state_of}
use Rattle.write_txn.specs.Stands.{mark_of}

-- the marks are those of the parts under way, if this transaction comes to stand so
abbrev pub AreMarksWith : TxnValue → Option State → MarkList → LedgerValue → Type 0
AreMarksWith u s marks l = (r : Row) (t : TxnValue) → time_at marks r t ≡ mark_of (if is_eq (txn_cmp u t) then s else state_of l t) r

-- the marks of all other transactions are those of their parts under way
abbrev pub AreMarksBut : TxnValue → MarkList → LedgerValue → Type 0
AreMarksBut u marks l = (r : Row) (t : TxnValue) → is_eq (txn_cmp u t) ≡ false → time_at marks r t ≡ mark_of (state_of l t) r

-- the transaction has no mark but on the rows that these changes touch
abbrev pub IsMarkedWithin : List Change → TxnValue → MarkList → Type 0
IsMarkedWithin changes u marks = (r : Row) → touches changes r ≡ false → time_at marks r u ≡ None

-- nothing is missing of the ballot, and its cohorts are to vote
abbrev pub is_to_vote : RemoteValue → Bool
is_to_vote b = missing_in b == 0 && not (length b.notices.cohorts == 0)

-- as what something is under way
abbrev pub is_kept : Open → Bool
is_kept (in_open.Kept k) = true
is_kept other = false

abbrev pub is_part : Open → Bool
is_part (in_open.Part p) = true
is_part other = false

abbrev pub is_led : Open → Bool
is_led (in_open.Led l) = true
is_led other = false

abbrev pub is_remote : Open → Bool
is_remote (in_open.Remote r) = true
is_remote other = false

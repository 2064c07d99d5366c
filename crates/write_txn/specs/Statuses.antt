-- How the statuses of transactions are kept: by blocks of 256 numbers of a session, each with a slot for each known number.
use Rattle.std.specs.Prelude.{ℕ, ◌+◌, ◌*◌, ◌/◌, ◌<◌, ◌≤◌, ◌==◌, ◌&&◌, nat_eq, Bool, if◌then◌else◌, List, [], ◌∷◌, length, get_or, Option, Some, None, unwrap_or}
use Rattle.std.specs.Map.{lookup}
use Rattle.std.specs.List.Sorted.{IsNonDecreasingBy}
use Rattle.logical_time.specs.Stamps.{TxnValue}
use Rattle.write_txn.specs.declared.status.Status.{Status}
use Rattle.write_txn.specs.declared.status.Status.TheVariants as in_status
use Rattle.write_txn.specs.declared.slot.Slot.{Slot}
use Rattle.write_txn.specs.declared.slot.Slot.TheVariants as in_slot

-- the number that a slot is of, within its block
abbrev pub slot_number : Slot → ℕ
slot_number (in_slot.Open number place) = number
slot_number (in_slot.Applied number) = number
slot_number (in_slot.Decided number upper lower stamp) = number

-- the status that a slot says, its commit time put together again
abbrev pub slot_status : Slot → Status
slot_status (in_slot.Open number place) = in_status.Open place
slot_status (in_slot.Applied number) = in_status.Applied
slot_status (in_slot.Decided number upper lower stamp) = in_status.Decided (upper * 4294967296 + lower) stamp

-- the slots stand in the order of their numbers
abbrev pub AreInOrder : List Slot → Type 0
AreInOrder ss = IsNonDecreasingBy slot_number ss

-- the first i slots are of smaller numbers than n, and no later one is
pub record IsSplitAt (n i : ℕ) (ss : List Slot) : Type 0 where
  pub before : (k : ℕ) (d : Slot) → k < i → slot_number (get_or ss k d) < n
  pub after : (k : ℕ) (d : Slot) → i ≤ k → k < length ss → n ≤ slot_number (get_or ss k d)

-- the status of a number, if it has a slot
abbrev pub status_among : List Slot → ℕ → Option Status
status_among [] n = None
status_among (s ∷ ss) n = if slot_number s == n then Some (slot_status s) else status_among ss n

-- ## Blocks

-- the block of a transaction: its session, and which 256 numbers its number is among
abbrev pub block_of : TxnValue → TxnValue
block_of t = record { session = t.session; number = t.number / 256 }

-- whether both are the same block
abbrev pub is_same_block : TxnValue → TxnValue → Bool
is_same_block a b = nat_eq a.session b.session && nat_eq a.number b.number

-- for each block of which a number is known its slots
abbrev pub StatusList : Type 0
StatusList = List (TxnValue × List Slot)

-- the slots of a transaction's block
abbrev pub slots_of : StatusList → TxnValue → List Slot
slots_of bs t = unwrap_or (lookup (is_same_block (block_of t)) bs) []

-- Where an operation stands in a journal.
use Rattle.std.specs.Prelude.{◌≡◌, ℕ, ◌+◌, ◌<◌, List, filter_map, take, length, Some}
use Rattle.std.specs.Borrow.{Bor}
use Rattle.messages.specs.declared.op.Op.{Op}
use Rattle.messages.specs.declared.event.ActorEvent.{ActorEvent}
use Rattle.world.specs.Threads.{op_in, op_numbered}

-- how many operations these events submit
abbrev pub count_of : List ActorEvent → ℕ
count_of events = length (filter_map op_in events)

-- at this place of a journal its operation with this number is submitted
pub record IsFound (journal : List ActorEvent) (number : ℕ) (found : ℕ × Bor Op) : Type 0 where
  pub op : op_numbered journal number ≡ Some found.1.now
  pub within : found.0 < length journal
  pub passed : count_of (take (found.0 + 1) journal) ≡ number

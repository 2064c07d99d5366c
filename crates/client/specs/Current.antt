-- The open operation of a session, as the machine has it.
use Rattle.std.specs.Prelude.{ℕ, Option, Some, None}
use Rattle.messages.specs.Session as machine
use Rattle.client.specs.declared.current.Current.{Current}
use Rattle.client.specs.declared.current.Current.TheVariants.{Idle, Write, First, Second, Move}

abbrev pub open_of : Current → machine.Open
open_of Idle = machine.Idle
open_of (Write coordinator) = machine.Writing coordinator
open_of (First f) = machine.FirstRound f.read f.heard
open_of (Second s) = machine.SecondRound s.read s.time s.first s.heard
open_of (Move home m) = machine.Moving home.dc m.left m.floor

-- the coordinator of the open write
abbrev pub coordinator_of : Current → Option ℕ
coordinator_of Idle = None
coordinator_of (Write coordinator) = Some coordinator
coordinator_of (First f) = None
coordinator_of (Second s) = None
coordinator_of (Move home m) = None

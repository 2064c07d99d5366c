-- Why a run by threads gives no transcript.
use Rattle.std.specs.Prelude.{◌≡◌, ◌<◌, ◌⊎◌, ℕ, List, [], ◌∷◌, Option, Some, None, All}
use Rattle.std.specs.Option.{option_or}
use Rattle.logical_time.specs.declared.fault.Fault.{Fault}
use Rattle.logical_time.specs.declared.fault.Fault.TheVariants.{ClockSpent, Memory, JournalFull, StrangerEnd}
use Rattle.messages.specs.Topology.{node_count}
use Rattle.actors.specs.Seats.{SeatValue}
use Rattle.actors.specs.Resting.{IsResting}
use Rattle.actors.specs.Draining.{AreLater, OneCanRefuse}
use Rattle.actors.specs.declared.report.End.{End}
use Rattle.actors.specs.declared.report.End.TheVariants.{Turns, Fault as Faulty, Rest}
use Rattle.actors.specs.declared.report.Shift.{Shift}
use Rattle.threaded.specs.Machines.{Refuses}
use Rattle.threaded.specs.OneRun.{seat_of, AreSeatsOf}
use Rattle.threaded.specs.Quiet.{AreAllReceived}
use Rattle.workload.specs.declared.script.Script.{Script}
use Rattle.running.specs.Asked.{DidAsked}
use Rattle.running.specs.Loaded.{AreLoadedSeats}

-- ## What workers report

-- the fault with which a worker ended, if it ended with one
abbrev pub fault_at : End → Option Fault
fault_at Turns = None
fault_at (Faulty e) = Some e
fault_at Rest = None

-- that of the lowest-numbered worker who ended with one
abbrev pub first_fault : List Shift → Option Fault
first_fault [] = None
first_fault (s ∷ shifts) = option_or (fault_at s.end) (first_fault shifts)

-- ## What came back

-- the actor with this node has a seat, and did all that the script asks of it
abbrev pub TookIn : Script → List SeatValue → ℕ → Type 0
TookIn s seats node = (seat : SeatValue) × (seat_of seats node ≡ Some seat) × DidAsked s node seat

-- so it is of each actor
abbrev pub HaveTaken : Script → List SeatValue → Type 0
HaveTaken s seats = (node : ℕ) → node < node_count s.topology → TookIn s seats node

-- The seats are one for each of the script's actors, on each link all that the sender's journal sent there was received, and each
-- actor did all that the script asks of it.
pub record AreOfScript (s : Script) (seats : List SeatValue) : Type 0 where
  pub are : AreSeatsOf s.topology seats
  pub received : AreAllReceived s.topology seats
  pub taken : HaveTaken s seats

-- a fault that is told as it is
abbrev pub IsTold : Fault → Type 0
IsTold e = (e ≡ Memory) ⊎ (e ≡ ClockSpent) ⊎ (e ≡ JournalFull)

-- so it is told, and any other one as `StrangerEnd`
abbrev pub IsToldAs : Fault → Fault → Type 0
IsToldAs e told = (IsTold e × (told ≡ e)) ⊎ ((IsTold e → ⊥) × (told ≡ StrangerEnd))

-- A turn of one of these seats is refused so: for memory, or as the event that is to be done is refused.
abbrev pub CanEnd : Fault → List SeatValue → Type 0
CanEnd e seats = (e ≡ Memory) ⊎ OneCanRefuse Refuses e seats

-- after turns a clock or a journal of the seats is at its end
abbrev pub IsSpent : List SeatValue → Fault → Type 0
IsSpent back e = ((e ≡ ClockSpent) ⊎ (e ≡ JournalFull)) × ((last : List SeatValue) × AreLater back last × OneCanRefuse Refuses e last)

-- After turns one of the seats refuses what is to be done otherwise, or all rest and aren't of a run of the script in which all
-- that was sent was received.
abbrev pub AreStrange : Script → List SeatValue → Type 0
AreStrange s last = ((e : Fault) × (IsTold e → ⊥) × OneCanRefuse Refuses e last) ⊎ (All IsResting last × (AreOfScript s last → ⊥))

-- why the seats that came back give no transcript
abbrev pub IsEndedBy : Script → List SeatValue → Fault → Type 0
IsEndedBy s back e = (e ≡ Memory) ⊎ IsSpent back e ⊎ ((e ≡ StrangerEnd) × ((last : List SeatValue) × AreLater back last × AreStrange s last))

-- ## What was given out

-- which seats can come back for which
abbrev pub Brings : Type 1
Brings = List SeatValue → List SeatValue → Type 0

-- Why there is no transcript of a script: for want of memory, or as seats tell that came back for those that were loaded with
-- what it asks, with rings for 32 envelopes and journals for 1,000,000 events.
abbrev pub IsRunRefused : Brings → Script → Fault → Type 0
IsRunRefused brings s e =
    (e ≡ Memory) ⊎ ((loaded : List SeatValue) × (back : List SeatValue) × AreLoadedSeats s 32 1000000 loaded × brings loaded back × IsEndedBy s back e)

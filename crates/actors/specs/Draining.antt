-- What a drain of seats does.
use Rattle.std.specs.Prelude.{◌≡◌, ◌<◌, ℕ, ◌+◌, ◌-◌, List, [], ◌∷◌, ◌++◌, length, slice_get, set, Some}
use Rattle.std.specs.List.{sum_by}
use Rattle.logical_time.specs.declared.fault.Fault.{Fault}
use Rattle.messages.specs.declared.event.ActorEvent.{ActorEvent}
use Rattle.actors.specs.Journals.{IsBeginning}
use Rattle.actors.specs.Machines.{Refuses}
use Rattle.actors.specs.Seats.{SeatValue}
use Rattle.actors.specs.Resting.{unsent}
use Rattle.actors.specs.Turns.{HasSame, HasSameRings, IsIdle, IsTurn, HasLooked}
use Rattle.actors.specs.Refusals.{CanRefuse}
use Rattle.actors.specs.declared.turn.Turn.{Turn}
use Rattle.actors.specs.declared.turn.Turn.TheVariants.{Idle, Moved, Handled, Submitted, Collected, Refused}
use Rattle.actors.specs.declared.draining.Round.{Round}
use Rattle.actors.specs.declared.draining.Round.TheVariants.{Quiet, Stirred, Worked}

-- The seat after turns: the same actor with the same rings, whose events, outcomes and refusals begin with those of before, and whose backlog is
-- an end of that of before.
pub record IsLater (old new : SeatValue) : Type 0 where
  pub topology : new.topology ≡ old.topology
  pub node : new.node ≡ old.node
  pub limit : new.limit ≡ old.limit
  pub journal : IsBeginning old.journal new.journal
  pub outcomes : IsBeginning old.outcomes new.outcomes
  pub refusals : IsBeginning old.refusals new.refusals
  pub backlog : (done : List ActorEvent) × (old.backlog ≡ done ++ new.backlog)
  pub rings : HasSameRings old new

-- seats after turns, each in its place
pub record AreLater (old new : List SeatValue) : Type 0 where
  pub count : length new ≡ length old
  pub each : (k : ℕ) (before after : SeatValue) → slice_get old k ≡ Some before → slice_get new k ≡ Some after → IsLater before after

-- a turn of each seat, of which none did anything
pub record IsIdleRound (old new : List SeatValue) : Type 0 where
  pub count : length new ≡ length old
  pub each : (k : ℕ) (before after : SeatValue) → slice_get old k ≡ Some before → slice_get new k ≡ Some after → IsIdle before after

-- seats after turns, of which the last were an idle round
abbrev pub HasCome : List SeatValue → List SeatValue → Type 0
HasCome old new = (last : List SeatValue) × AreLater old last × IsIdleRound last new

-- a turn that was taken: of the seat at which place, what it answered, and the seat after it
pub record Taken : Type 0 where
  pub place : ℕ
  pub turn : Turn
  pub after : SeatValue

-- what a turn made of the seat at its place
pub record IsTaken (refuses : Refuses) (seats : List SeatValue) (t : Taken) : Type 0 where
  pub before : SeatValue
  pub at : slice_get seats t.place ≡ Some before
  pub turn : IsTurn refuses t.turn before t.after
  pub looked : HasLooked t.turn before t.after

-- the seats after turns, one after the other, each of one seat
abbrev pub AreTaken : Refuses → List Taken → List SeatValue → List SeatValue → Type 0
AreTaken refuses [] old new = new ≡ old
AreTaken refuses (t ∷ turns) old new = IsTaken refuses old t × AreTaken refuses turns (set old t.place t.after) new

-- the seats after some turns
abbrev pub HaveTaken : Refuses → List SeatValue → List SeatValue → Type 0
HaveTaken refuses old new = (turns : List Taken) × AreTaken refuses turns old new

-- a turn of the seat at a place was refused so
pub record IsStop (refuses : Refuses) (fault : Fault) (old new : List SeatValue) : Type 0 where
  pub place : ℕ
  pub before : SeatValue
  pub after : SeatValue
  pub at : slice_get old place ≡ Some before
  pub is : new ≡ set old place after
  pub same : HasSame before after
  pub refused : CanRefuse refuses fault after

-- the seats after some turns and then one that was refused so
abbrev pub HaveStopped : Refuses → Fault → List SeatValue → List SeatValue → Type 0
HaveStopped refuses fault old new = (last : List SeatValue) × HaveTaken refuses old last × IsStop refuses fault last new

-- a turn of one of the seats can be refused so
abbrev pub OneCanRefuse : Refuses → Fault → List SeatValue → Type 0
OneCanRefuse refuses fault seats = (k : ℕ) × (s : SeatValue) × (slice_get seats k ≡ Some s) × CanRefuse refuses fault s

-- how many events a seat can still do, and items of its backlog be refused
abbrev pub events_left : SeatValue → ℕ
events_left s = (s.limit - length s.journal) + length s.backlog

-- the same of all seats
abbrev pub all_left : List SeatValue → ℕ
all_left seats = sum_by events_left seats

-- how many envelopes of all seats went into no ring yet
abbrev pub all_unsent : List SeatValue → ℕ
all_unsent seats = sum_by unsent seats

-- what a round did, where one more turn moved what waited
abbrev pub once_moved : Round → Round
once_moved Quiet = Stirred
once_moved Stirred = Stirred
once_moved Worked = Worked

-- what a round did with one more turn
abbrev pub with_turn : Round → Turn → Round
with_turn round Idle = round
with_turn round Moved = once_moved round
with_turn round Handled = Worked
with_turn round (Submitted number) = Worked
with_turn round Collected = Worked
with_turn round (Refused fault) = Worked

-- What a round made of the seats, by what it did: nothing, or fewer envelopes are unsent and as much is left to do, or less is
-- left to do.
abbrev pub IsRound : Round → List SeatValue → List SeatValue → Type 0
IsRound Quiet old new = IsIdleRound old new
IsRound Stirred old new = (all_left new ≡ all_left old) × (all_unsent new < all_unsent old)
IsRound Worked old new = all_left new < all_left old

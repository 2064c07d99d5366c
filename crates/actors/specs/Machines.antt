-- How a machine is related to the journal that it came from, and what it refuses then.
use Rattle.std.specs.Prelude.{◌≡◌, ℕ, ◌^◌, min, Bool, List, Option, None}
use Rattle.logical_time.specs.declared.fault.Fault.{Fault}
use Rattle.messages.specs.declared.envelope.Envelope.{Envelope}
use Rattle.messages.specs.declared.outcome.Outcome.{Outcome}
use Rattle.messages.specs.declared.event.ActorEvent.{ActorEvent}
use Rattle.messages.specs.Topology.{TopologyValue}
use Rattle.actors.specs.Journals.{submissions, sends_to, followed_by}
use Rattle.actors.specs.CameFrom.{CameFrom}
use Rattle.actors.specs.Shown.{clock_from, IsShown}

-- With which fault the machine of the actor with a node of a topology refuses an event, where it came from a journal.
abbrev pub Refuses : Type 1
Refuses = TopologyValue → ℕ → List ActorEvent → ActorEvent → Fault → Type 0

-- A machine with its journal: it came from it, where its events sent these envelopes; each outcome was taken; so many operations
-- were accepted; and this is its clock, by its events alone (2^48 where it is above all times), and whether all that was sent
-- carries the clock of its event.
pub record IsPast {M : Type 0} (came_from : CameFrom M) (untaken : M → Option (ℕ × Outcome)) (top : TopologyValue) (node : ℕ)
    (machine : M) (journal : List ActorEvent) (outcomes : List (ℕ × Outcome)) (sent : List Envelope) (count clock : ℕ) (timed : Bool) : Type 0 where
  pub came : came_from top node journal sent outcomes machine
  pub taken : untaken machine ≡ None
  pub accepted : count ≡ submissions journal
  pub clocked : clock ≡ min (clock_from 0 journal) (2 ^ 48)
  pub shown : IsShown came_from top node journal sent timed

-- of all that was sent, what went to each node is what went there before, and then what waits in the outbox
abbrev pub GoesBy : (ℕ → List Envelope) → List Envelope → List Envelope → Type 0
GoesBy before outbox sent = (to : ℕ) → sends_to to sent ≡ followed_by before outbox to

-- the same of a machine whose sends are kept by the nodes that they go to, and in an outbox
pub record IsRecorded {M : Type 0} (came_from : CameFrom M) (untaken : M → Option (ℕ × Outcome)) (top : TopologyValue) (node : ℕ)
    (before : ℕ → List Envelope) (machine : M) (journal : List ActorEvent) (outcomes : List (ℕ × Outcome)) (outbox : List Envelope)
    (count clock : ℕ) (timed : Bool) : Type 0 where
  pub sent : List Envelope
  pub goes : GoesBy before outbox sent
  pub past : IsPast came_from untaken top node machine journal outcomes sent count clock timed

-- The relation of a machine to the journal that it came from.
use Rattle.std.specs.Prelude.{ℕ, List}
use Rattle.messages.specs.declared.envelope.Envelope.{Envelope}
use Rattle.messages.specs.declared.outcome.Outcome.{Outcome}
use Rattle.messages.specs.declared.event.ActorEvent.{ActorEvent}
use Rattle.messages.specs.Topology.{TopologyValue}

-- When a machine came from a journal of the actor with a node of a topology: its events sent these envelopes, in order, and
-- such outcomes were taken, each with the number of its operation.
abbrev pub CameFrom : Type 0 → Type 1
CameFrom M = TopologyValue → ℕ → List ActorEvent → List Envelope → List (ℕ × Outcome) → M → Type 0

-- When a machine that counts came from a journal, and what it refuses.
use Rattle.std.specs.Prelude.{◌≡◌, ℕ, List}
use Rattle.logical_time.specs.declared.fault.Fault.{Fault}
use Rattle.logical_time.specs.declared.fault.Fault.TheVariants.{ClockSpent, Collected}
use Rattle.messages.specs.declared.envelope.Envelope.{Envelope}
use Rattle.messages.specs.declared.outcome.Outcome.{Outcome}
use Rattle.messages.specs.declared.event.ActorEvent.{ActorEvent}
use Rattle.messages.specs.declared.event.ActorEvent.TheVariants.{Submit, Handle, Collect}
use Rattle.messages.specs.Topology.{TopologyValue}
use Rattle.actors.specs.Journals.{submissions}
use Rattle.turns.specs.declared.counting.Counter.{Counter}

-- It counted the journal's submissions, whatever it sent, and whatever was taken from it.
abbrev pub CountsSubmissions : TopologyValue → ℕ → List ActorEvent → List Envelope → List (ℕ × Outcome) → Counter → Type 0
CountsSubmissions top node journal sent outcomes m = m.count ≡ submissions journal

-- a collection with `Collected`, and a submission with `ClockSpent`, where the count is spent
abbrev pub RefusesCollections : TopologyValue → ℕ → List ActorEvent → ActorEvent → Fault → Type 0
RefusesCollections top node journal (Submit o) fault = fault ≡ ClockSpent
RefusesCollections top node journal (Handle e) fault = ⊥
RefusesCollections top node journal (Collect time) fault = fault ≡ Collected

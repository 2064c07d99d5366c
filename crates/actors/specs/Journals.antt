-- What a journal, the list of an actor's events, tells by itself: what it received on each link, and how many operations it
-- accepted.
use Rattle.std.specs.Prelude.{◌≡◌, ℕ, ◌+◌, ◌==◌, List, ◌++◌, length, filter, filter_map, option_to_list, Option, Some, None}
use Rattle.messages.specs.declared.envelope.Envelope.{Envelope}
use Rattle.messages.specs.declared.op.Op.{Op}
use Rattle.messages.specs.declared.event.ActorEvent.{ActorEvent}
use Rattle.messages.specs.declared.event.ActorEvent.TheVariants.{Submit, Handle, Collect}
use Rattle.messages.specs.Actors.{envelope_of}

-- the operation that an event submits, if it submits one
abbrev pub op_in : ActorEvent → Option Op
op_in (Submit o) = Some o
op_in (Handle e) = None
op_in (Collect time) = None

-- how many operations a journal accepted
abbrev pub submissions : List ActorEvent → ℕ
submissions journal = length (filter_map op_in journal)

-- the number that an event after a journal gets: a submission that of its operation, from 1
abbrev pub number_after : List ActorEvent → ActorEvent → Option ℕ
number_after journal (Submit o) = Some (submissions journal + 1)
number_after journal (Handle e) = None
number_after journal (Collect time) = None

-- no message brings the event
abbrev pub IsOwn : ActorEvent → Type 0
IsOwn event = envelope_of event ≡ None

-- those of these envelopes that are from this node, in order
abbrev pub from_node : ℕ → List Envelope → List Envelope
from_node node envelopes = filter (λ (e : Envelope). e.from == node) envelopes

-- what a journal handled from this node, in order
abbrev pub receipts_from : ℕ → List ActorEvent → List Envelope
receipts_from node journal = from_node node (filter_map envelope_of journal)

-- an envelope that is held back, if it is from this node
abbrev pub held_from : ℕ → Option Envelope → List Envelope
held_from node held = from_node node (option_to_list held)

-- what was sent to this node, in order
abbrev pub sends_to : ℕ → List Envelope → List Envelope
sends_to node sent = filter (λ (e : Envelope). e.to == node) sent

-- what went to each node before, and then those of these envelopes that go there
abbrev pub followed_by : (ℕ → List Envelope) → List Envelope → ℕ → List Envelope
followed_by before envelopes node = before node ++ sends_to node envelopes

-- the first list is a beginning of the second
abbrev pub IsBeginning : {X : Type 0} → List X → List X → Type 0
IsBeginning {X} xs ys = (more : List X) × (ys ≡ xs ++ more)

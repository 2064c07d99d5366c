-- What the events of a journal sent, event by event, and when each envelope carries the clock of its event.
use Rattle.std.specs.Prelude.{◌≡◌, ℕ, zero, suc, ◌+◌, ◌<◌, ◌≤◌, max, Bool, true, List, [], ◌∷◌, length, take, slice_get, Some}
use Rattle.std.specs.Option.{unwrap_or}
use Rattle.messages.specs.declared.envelope.Envelope.{Envelope}
use Rattle.messages.specs.declared.outcome.Outcome.{Outcome}
use Rattle.messages.specs.declared.event.ActorEvent.{ActorEvent}
use Rattle.messages.specs.declared.event.ActorEvent.TheVariants.{Submit, Handle, Collect}
use Rattle.messages.specs.Topology.{TopologyValue}
use Rattle.actors.specs.CameFrom.{CameFrom}

-- A journal, all that its events sent, in order, and how many of these were sent after each event.
pub record Shown : Type 0 where
  pub journal : List ActorEvent
  pub sent : List Envelope
  pub marks : List ℕ

-- how many envelopes had been sent after so many events
abbrev pub mark_after : List ℕ → ℕ → ℕ
mark_after marks zero = 0
mark_after marks (suc k) = unwrap_or (slice_get marks k) 0

-- what the first so many events sent, in order
abbrev pub sent_after : Shown → ℕ → List Envelope
sent_after s k = take (mark_after s.marks k) s.sent

-- At each moment a machine had come from the journal up to there, and what that sent was what had been sent up to there.
pub record CameAlong {M : Type 0} (came_from : CameFrom M) (top : TopologyValue) (node : ℕ) (s : Shown) : Type 0 where
  pub marked : length s.marks ≡ length s.journal
  pub all : mark_after s.marks (length s.journal) ≡ length s.sent
  pub within : (k : ℕ) → mark_after s.marks k ≤ length s.sent
  pub came : (k : ℕ) → k ≤ length s.journal
      → (machine : M) × (outcomes : List (ℕ × Outcome)) × came_from top node (take k s.journal) (sent_after s k) outcomes machine

-- ## Clocks, by the journal alone

-- the clock of an actor after an event, by its clock before it
abbrev pub clock_with : ℕ → ActorEvent → ℕ
clock_with clock (Submit o) = clock + 1
clock_with clock (Handle e) = max clock e.time + 1
clock_with clock (Collect time) = clock + 1

-- its clock after these events
abbrev pub clock_from : ℕ → List ActorEvent → ℕ
clock_from clock [] = clock
clock_from clock (x ∷ xs) = clock_from (clock_with clock x) xs

-- its clock after so many events of its journal
abbrev pub clock_after : List ActorEvent → ℕ → ℕ
clock_after journal k = clock_from 0 (take k journal)

-- each envelope carries the clock of the event that sent it
abbrev pub AreTimed : Shown → Type 0
AreTimed s =
    (k i : ℕ) (e : Envelope) → mark_after s.marks k ≤ i → i < mark_after s.marks (suc k) → slice_get s.sent i ≡ Some e
    → e.time ≡ clock_after s.journal (suc k)

-- The events of a journal sent these envelopes, in order, while machines came along; and this tells whether each carries the
-- clock of its event.
pub record IsShown {M : Type 0} (came_from : CameFrom M) (top : TopologyValue) (node : ℕ) (journal : List ActorEvent) (sent : List Envelope)
    (timed : Bool) : Type 0 where
  pub shown : Shown
  pub its : shown.journal ≡ journal
  pub along : CameAlong came_from top node shown
  pub sends : shown.sent ≡ sent
  pub told : timed ≡ true → AreTimed shown
  pub exact : AreTimed shown → timed ≡ true

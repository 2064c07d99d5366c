-- Which messages a run has handled, and when it is quiet: all of it, or among some of its actors.
use Rattle.std.specs.Prelude.{◌≡◌, ℕ, ◌<◌, List, length, slice_get, filter_map, Option, Some, None, Contains}
use Rattle.messages.specs.declared.envelope.Envelope.{Envelope}
use Rattle.world.specs.Run.{Run, RunEvent, Submit, Deliver, Collect}

abbrev pub number_delivered : RunEvent → Option ℕ
number_delivered (Submit session op) = None
number_delivered (Deliver k) = Some k
number_delivered (Collect shard time) = None

-- the numbers of the messages that were handled, oldest first, repeats included
abbrev pub handled : Run → List ℕ
handled w = filter_map number_delivered w.events

-- a run is quiet if every message that was sent has been handled at least once
abbrev pub IsQuiet : Run → Type 0
IsQuiet w = (k : ℕ) → k < length w.sent → Contains (handled w) k

-- a message was handled, or another that is equal to it
abbrev pub WasHandled : Run → Envelope → Type 0
WasHandled w e = (k : ℕ) × Contains (handled w) k × (slice_get w.sent k ≡ Some e)

-- a run is quiet among actors if all that they sent each other was handled, whatever became of the rest
abbrev pub IsQuietAmong : (ℕ → Type 0) → Run → Type 0
IsQuietAmong among w = (e : Envelope) → Contains w.sent e → among e.from → among e.to → WasHandled w e

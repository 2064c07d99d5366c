-- What waits in a seat, and when nothing is left for it to do.
use Rattle.std.specs.Prelude.{◌≡◌, ℕ, ◌+◌, ◌⊎◌, true, false, List, [], length, None, All}
use Rattle.std.specs.List.{sum_by}
use Rattle.messages.specs.declared.envelope.Envelope.{Envelope}
use Rattle.links.specs.Links.{InLinkValue}
use Rattle.actors.specs.Journals.{sends_to}
use Rattle.actors.specs.Seats.{LaneValue, SeatValue}
use Rattle.actors.specs.Ways.{has_way}

-- how many envelopes wait on these ways
abbrev pub waiting_on : List LaneValue → ℕ
waiting_on lanes = sum_by (λ (l : LaneValue). length l.waiting) lanes

-- how many envelopes were sent and went into no ring yet
abbrev pub unsent : SeatValue → ℕ
unsent s = waiting_on s.outgoing + length s.outbox

-- nothing waits there, or no place of the ring is known to be free
abbrev pub IsFlushed : LaneValue → Type 0
IsFlushed l = (l.waiting ≡ []) ⊎ (l.free ≡ 0)

-- what is in the outbox goes to actors to which no way leads
abbrev pub IsSorted : List LaneValue → List Envelope → Type 0
IsSorted lanes outbox = (node : ℕ) → has_way node lanes ≡ true → sends_to node outbox ≡ []

-- no envelope was found in the ring when it was looked at
abbrev pub WasEmpty : InLinkValue → Type 0
WasEmpty l = l.known ≡ 0

-- no envelope is held, and none was found in a ring
pub record HasNoEnvelope (s : SeatValue) : Type 0 where
  pub held : s.held ≡ None
  pub looked : All WasEmpty s.incoming

-- no event is to be done: there is no envelope, and no item of the backlog, or the machine isn't free for it
pub record HasNoEvent (s : SeatValue) : Type 0 where
  pub none : HasNoEnvelope s
  pub nothing : (s.backlog ≡ []) ⊎ (s.free ≡ false)

-- Nothing is left to do: what was sent is in the rings, but where one is full; there is no envelope; and no event is still to
-- be done, or the machine isn't free for it.
pub record IsResting (s : SeatValue) : Type 0 where
  pub sorted : IsSorted s.outgoing s.outbox
  pub flushed : All IsFlushed s.outgoing
  pub none : HasNoEnvelope s
  pub nothing : (s.backlog ≡ []) ⊎ (s.free ≡ false)

-- The rings to an actor, as they are looked at one after the other.
use Rattle.std.specs.Prelude.{◌≡◌, ℕ, ◌+◌, ◌≤◌, ◌<◌, ◌⊎◌, List, length, slice_get, Option, Some, None}
use Rattle.messages.specs.declared.envelope.Envelope.{Envelope}
use Rattle.links.specs.Links.{InLinkValue}
use Rattle.actors.specs.Seats.{SeatValue, sources_of}
use Rattle.actors.specs.Resting.{WasEmpty}

-- the rings from the first of these places up to the second were empty when they were looked at
abbrev pub WereEmpty : List InLinkValue → ℕ → ℕ → Type 0
WereEmpty links first end = (k : ℕ) (l : InLinkValue) → first ≤ k → k < end → slice_get links k ≡ Some l → WasEmpty l

-- The envelope is from the first ring with one, from a place up to another; the ring after it is the next one to be looked at.
pub record IsFound (links : List InLinkValue) (first end after : ℕ) (e : Envelope) : Type 0 where
  pub place : ℕ
  pub above : first ≤ place
  pub below : place < end
  pub from : slice_get (sources_of links) place ≡ Some e.from
  pub before : WereEmpty links first place
  pub next : after ≡ place + 1

-- The envelope is from the first ring with one, where all are looked at in turn, from a place on, and at last those before it.
abbrev pub IsFoundInTurn : List InLinkValue → ℕ → ℕ → Envelope → Type 0
IsFoundInTurn links first after e =
    IsFound links first (length links) after e ⊎ (WereEmpty links first (length links) × IsFound links 0 first after e)

-- the envelope that a seat handles next: the one that was held back, or else the one that is found
abbrev pub IsNextOf : Option Envelope → SeatValue → SeatValue → Envelope → Type 0
IsNextOf (Some held) old new e = e ≡ held
IsNextOf None old new e = IsFoundInTurn new.incoming old.next new.next e

abbrev pub IsNext : SeatValue → SeatValue → Envelope → Type 0
IsNext old new e = IsNextOf old.held old new e

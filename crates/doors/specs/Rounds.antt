-- What a round makes of the places of connections.
use Rattle.std.specs.Prelude.{◌≡◌, ℕ, ◌⊎◌, ◌++◌, List, Option, Some, None, Result, true, false, slice_get}
use Rattle.std.specs.List.{Contains}
use Rattle.logical_time.specs.declared.fault.Fault.{Fault}
use Rattle.messages.specs.declared.op.Op.{Op}
use Rattle.wire.specs.Replies.{Reply}
use Rattle.readiness.specs.declared.connection.Connection.{Connection}
use Rattle.readiness.specs.Lines.{ReadyValue}
use Rattle.readiness.specs.Exchanges.{Entry}
use Rattle.readiness.specs.Kept.{view, IsNew}
use Rattle.readiness.specs.Turns.{IsOver}
use Rattle.readiness.specs.Places.{Turns, Rests, AreSilent, SettledFirst}
use Rattle.doors.specs.declared.listening.Doors.{Doors}
use Rattle.doors.specs.Silence.{AreMarked, IsSentAway}

-- a place, as `slice_get` finds it: none past the last one, and no connection at a free one
abbrev pub Place : Type 0 → Type 0
Place L = Option (Option (Connection L))

-- the connection at a place stays; or it is over, and leaves
abbrev pub Closed : {L : Type 0} → (L → ReadyValue) → Place L → Place L → Type 0
Closed {L = L} seen before after = (after ≡ before) ⊎ ((c : Connection L) × (before ≡ Some (Some c)) × IsOver (view seen c) × (after ≡ Some None))

-- a place stays as it is; or it is free, and given to the connection of a line, before any call
abbrev pub Given : {L : Type 0} → Place L → Place L → Type 0
Given {L = L} before after = (after ≡ before) ⊎ ((line : L) × (c : Connection L) × IsNew line c × (before ≡ Some None) × (after ≡ Some (Some c)))

-- no place changes but these
abbrev pub OnlyAt : {L : Type 0} → List ℕ → List (Option (Connection L)) → List (Option (Connection L)) → Type 0
OnlyAt fresh old new = (k : ℕ) → (slice_get new k ≡ slice_get old k) ⊎ Contains fresh k

-- who stands at a place isn't over
abbrev pub GoesOn : {L : Type 0} → (L → ReadyValue) → Place L → Type 0
GoesOn {L = L} seen place = (c : Connection L) → place ≡ Some (Some c) → IsOver (view seen c) → ⊥

-- no connection that stands at a place is over
abbrev pub AllGoOn : {L : Type 0} → (L → ReadyValue) → List (Option (Connection L)) → Type 0
AllGoOn seen places = (k : ℕ) → GoesOn seen (slice_get places k)

-- each free place is noted
abbrev pub AreNoted : {L : Type 0} → List (Option (Connection L)) → List ℕ → Type 0
AreNoted {L = L} places free = (k : ℕ) → slice_get places k ≡ Some None → Contains free k

-- no place is free
abbrev pub AreTaken : {L : Type 0} → List (Option (Connection L)) → Type 0
AreTaken {L = L} places = (k : ℕ) → slice_get places k ≡ Some None → ⊥

-- What holds between rounds: each free place is noted; where no more may wait, nobody does; and no connection that stands at a
-- place is over.
pub record IsSound {L : Type 0} {D : Type 0} (seen : L → ReadyValue) (nobody : D → Type 0) (d : Doors L D) : Type 0 where
  pub noted : AreNoted d.hall.places.places.items d.hall.free.items
  pub known : d.more ≡ false → nobody d.door
  pub on : AllGoOn seen d.hall.places.places.items

-- more may wait: that was told before, or is told by the next wait
abbrev pub MayWait : {L : Type 0} {D : Type 0} → (D → Type 0) → Doors L D → Type 0
MayWait announces d = (d.more ≡ true) ⊎ announces d.door

-- Nothing was asked, and no line has said a byte more. Or turns were had, and before a line said a byte more in them the
-- port had settled behind all that was asked; else the round is refused with its fault.
abbrev pub RoundSettled : {L : Type 0} {P : Type 0} {K : Type 0} {T : Type 0} → (L → ReadyValue) → (P → K) → (P → Result (Unit {0}) Fault → P → Type 0) → List (Option (Connection L)) → P → List (Option (Connection L)) → P → Result T Fault → Type 0
RoundSettled seen kept settles old p new q result = (AreSilent seen old new × (q ≡ p)) ⊎ SettledFirst seen kept settles old p new q result

-- Each connection that is ready has a turn, and none of these stops before its line would block, unless it is among
-- those that could go on at once, `again`. Then those that had a turn and are over leave their places, and no others
-- do. Where then no place is free and more may wait, one that has rested may be sent away. And then free places are
-- given to lines that came, and no others are. The time that is noted for a place is this one for who was ready in the
-- round before, or was given it then, or is ready now.
pub record Round {L : Type 0} {P : Type 0} {D : Type 0} (limit : ℕ) (seen : L → ReadyValue) (steps : ℕ → P → Op → Reply → P → Type 0) (nobody announces : D → Type 0) (now : ℕ) (log : List Entry) (old : Doors L D) (p : P) (new : Doors L D) (q : P) : Type 0 where
  pub turned : List (Option (Connection L))
  pub closed : List (Option (Connection L))
  pub left : List (Option (Connection L))
  pub over : List ℕ
  pub turns : Turns seen steps log old.hall.places.places.items p turned q
  pub rests : Rests limit seen new.ready.items new.again.items over old.hall.places.places.items turned
  pub leaves : (k : ℕ) → Closed seen (slice_get turned k) (slice_get closed k)
  pub away : (k : ℕ) → Contains new.ready.items k → GoesOn seen (slice_get closed k)
  pub marked : AreMarked now ((old.ready.items ++ old.hall.fresh.items) ++ new.ready.items) old.since.items new.since.items
  pub room : (left ≡ closed) ⊎ (MayWait announces old × (IsSound seen nobody old → AreTaken closed) × IsSentAway seen old.idle now new.since.items new.again.items closed left)
  pub comes : (k : ℕ) → Given (slice_get left k) (slice_get new.hall.places.places.items k)
  pub fresh : OnlyAt new.hall.fresh.items left new.hall.places.places.items

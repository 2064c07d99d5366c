-- Many connections, each at its place, that ask one port.
use Rattle.std.specs.Prelude.{◌≡◌, ℕ, ◌⊎◌, List, [], Option, Some, None, Result, Ok, Err, length, min, slice_get, slice_set}
use Rattle.std.specs.List.{Contains, sum_by}
use Rattle.logical_time.specs.declared.fault.Fault.{Fault}
use Rattle.messages.specs.declared.op.Op.{Op}
use Rattle.wire.specs.Replies.{Reply}
use Rattle.readiness.specs.declared.connection.Connection.{Connection}
use Rattle.readiness.specs.declared.turning.After.{After}
use Rattle.readiness.specs.Lines.{ReadyValue}
use Rattle.readiness.specs.Exchanges.{Exchange, Entry, LogChain, only}
use Rattle.readiness.specs.Kept.{view}
use Rattle.readiness.specs.Turns.{Extends, Turned, IsOver, WaitsFor, IsBounded, IsLeft, HasStopped, SaysNothing}

-- the connection at a place has a turn; or none stands there, and nothing changes
abbrev pub TurnedAt : {L : Type 0} {P : Type 0} → (L → ReadyValue) → (ℕ → P → Op → Reply → P → Type 0) → ℕ → List (Option (Connection L)) → P → List (Option (Connection L)) → P → Type 0
TurnedAt {L = L} seen steps place old p new q =
    ((new ≡ old) × (q ≡ p))
    ⊎ ((c : Connection L) × (d : Connection L) × (slice_get old place ≡ Some (Some c)) × (new ≡ slice_set old place (Some d)) × Turned (steps place) (view seen c) p (view seen d) q)

-- A place before and after these exchanges of its connection, which stays there.
abbrev pub PlaceTurned : {L : Type 0} → (L → ReadyValue) → List Exchange → Option (Option (Connection L)) → Option (Option (Connection L)) → Type 0
PlaceTurned seen more None after = (after ≡ None) × (more ≡ [])
PlaceTurned seen more (Some None) after = (after ≡ Some None) × (more ≡ [])
PlaceTurned seen more (Some (Some c)) None = ⊥
PlaceTurned seen more (Some (Some c)) (Some None) = ⊥
PlaceTurned seen more (Some (Some c)) (Some (Some d)) = Extends more (view seen c) (view seen d)

-- The port goes through one chain of steps, each of which belongs to one place. At each place are the steps that belong
-- to it, in order.
pub record Turns {L : Type 0} {P : Type 0} (seen : L → ReadyValue) (steps : ℕ → P → Op → Reply → P → Type 0) (log : List Entry) (old : List (Option (Connection L))) (p : P) (new : List (Option (Connection L))) (q : P) : Type 0 where
  pub chain : LogChain steps p log q
  pub places : (k : ℕ) → PlaceTurned seen (only k log) (slice_get old k) (slice_get new k)

-- Each connection waits for its line, or it is told that it could go on at once; or it is over, and told so, and no other is; or
-- it had no turn. So no readiness is lost.
abbrev pub Rests : {L : Type 0} → ℕ → (L → ReadyValue) → List ℕ → List ℕ → List ℕ → List (Option (Connection L)) → List (Option (Connection L)) → Type 0
Rests {L = L} limit seen ready again over old new = (k : ℕ) (c : Connection L) → slice_get new k ≡ Some (Some c)
    → ((IsOver (view seen c) → ⊥) × (WaitsFor limit (view seen c) ⊎ Contains again k)) ⊎ ((IsOver (view seen c) × Contains over k) ⊎ ((Contains ready k → ⊥) × (slice_get old k ≡ Some (Some c))))

-- at each place at most the limit waits, and a reply more
abbrev pub AreBounded : {L : Type 0} → ℕ → (L → ReadyValue) → List (Option (Connection L)) → Type 0
AreBounded {L = L} limit seen places = (k : ℕ) (c : Connection L) → slice_get places k ≡ Some (Some c) → IsBounded limit (view seen c)

-- who stood at a place stands there still, and nothing was said to its line; and nobody came
abbrev pub StaysSilent : {L : Type 0} → (L → ReadyValue) → Option (Option (Connection L)) → Option (Option (Connection L)) → Type 0
StaysSilent seen None after = after ≡ None
StaysSilent seen (Some None) after = after ≡ Some None
StaysSilent seen (Some (Some c)) None = ⊥
StaysSilent seen (Some (Some c)) (Some None) = ⊥
StaysSilent seen (Some (Some c)) (Some (Some d)) = SaysNothing (view seen c) (view seen d)

-- so it is at each place
abbrev pub AreSilent : {L : Type 0} → (L → ReadyValue) → List (Option (Connection L)) → List (Option (Connection L)) → Type 0
AreSilent seen old new = (k : ℕ) → StaysSilent seen (slice_get old k) (slice_get new k)

-- The port kept what it had kept, until it settled, and is as that left it: so it is settled behind all that it was
-- asked. Or it didn't settle; then its fault is the result, and nothing was said to any line.
abbrev pub SettledFirst : {L : Type 0} {P : Type 0} {K : Type 0} {T : Type 0} → (L → ReadyValue) → (P → K) → (P → Result (Unit {0}) Fault → P → Type 0) → List (Option (Connection L)) → P → List (Option (Connection L)) → P → Result T Fault → Type 0
SettledFirst {L = L} {P = P} seen kept settles old p new q result =
    (asked : P) × (kept asked ≡ kept p) × (settles asked (Ok tt) q ⊎ ((f : Fault) × settles asked (Err f) q × AreSilent seen old new × (result ≡ Err f)))

-- ## Between the halves of turns

-- who stands at a place has stopped taking in
abbrev pub StoppedAt : {L : Type 0} → (L → ReadyValue) → List (Option (Connection L)) → ℕ → Type 0
StoppedAt {L = L} seen places place = (c : Connection L) → slice_get places place ≡ Some (Some c) → HasStopped c.stop (view seen c)

-- so has who stands at any of these places
abbrev pub AreStopped : {L : Type 0} → (L → ReadyValue) → List ℕ → List (Option (Connection L)) → Type 0
AreStopped seen ready places = (k : ℕ) → Contains ready k → StoppedAt seen places k

-- so it is at these places, and nothing changes at others
abbrev pub AreHeard : {L : Type 0} → (L → ReadyValue) → List ℕ → List (Option (Connection L)) → List (Option (Connection L)) → Type 0
AreHeard seen ready old new = (k : ℕ) → (Contains ready k × StoppedAt seen new k) ⊎ ((Contains ready k → ⊥) × (slice_get new k ≡ slice_get old k))

-- this is what a turn leaves of who stands at a place
abbrev pub LeftAt : {L : Type 0} → ℕ → (L → ReadyValue) → List (Option (Connection L)) → ℕ → After → Type 0
LeftAt {L = L} limit seen places place left = (c : Connection L) → slice_get places place ≡ Some (Some c) → IsLeft limit (view seen c) left

-- who stands at a place waits for its line, or is told to go on; or it is over, and told so
abbrev pub ToldAt : {L : Type 0} → ℕ → (L → ReadyValue) → List ℕ → List ℕ → List (Option (Connection L)) → ℕ → Type 0
ToldAt {L = L} limit seen again over places k = (c : Connection L) → slice_get places k ≡ Some (Some c)
    → ((IsOver (view seen c) → ⊥) × (WaitsFor limit (view seen c) ⊎ Contains again k)) ⊎ (IsOver (view seen c) × Contains over k)

-- so it is at these places, and nothing changes at others
abbrev pub AreTold : {L : Type 0} → ℕ → (L → ReadyValue) → List ℕ → List ℕ → List ℕ → List (Option (Connection L)) → List (Option (Connection L)) → Type 0
AreTold limit seen ready again over old new = (k : ℕ) → (Contains ready k × ToldAt limit seen again over new k) ⊎ ((Contains ready k → ⊥) × (slice_get new k ≡ slice_get old k))

-- how many bytes of replies wait at a place, and at all of these: no more than the greatest number of eight bytes
abbrev pub waiting_at : {L : Type 0} → Option (Connection L) → ℕ
waiting_at None = 0
waiting_at (Some c) = length c.waiting.items

abbrev pub waiting_in : {L : Type 0} → List (Option (Connection L)) → ℕ
waiting_in places = min (sum_by waiting_at places) 18446744073709551615

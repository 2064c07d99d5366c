-- A whole run of lines that arrive, have turns and leave, in any order; places are used again.
use Rattle.std.specs.Prelude.{◌≡◌, ℕ, ◌==◌, List, [], ◌∷◌, ◌++◌, map, Option, Some, None, slice_get, slice_set, ◌⊎◌}
use Rattle.std.specs.List.{filter}
use Rattle.messages.specs.declared.op.Op.{Op}
use Rattle.wire.specs.Replies.{Reply}
use Rattle.readiness.specs.declared.connection.Connection.{Connection}
use Rattle.readiness.specs.declared.run.Act.{Act}
use Rattle.readiness.specs.declared.run.Act.TheVariants.{Arrives, Ready, Leaves}
use Rattle.readiness.specs.declared.run.Gone.{Gone}
use Rattle.readiness.specs.Lines.{ReadyValue}
use Rattle.readiness.specs.Exchanges.{Exchange, Entry, LogChain, only}
use Rattle.readiness.specs.Kept.{view, IsNew, Kept}

-- the lines that arrive, in order
abbrev pub arrivals : {L : Type 0} → List (Act L) → List L
arrivals [] = []
arrivals ((Arrives line) ∷ acts) = line ∷ arrivals acts
arrivals ((Ready place) ∷ acts) = arrivals acts
arrivals ((Leaves place) ∷ acts) = arrivals acts

-- a line that was given a place
pub record Admitted (L : Type 0) : Type 0 where
  pub place : ℕ
  pub line : L

-- the lines that were given a place, in order
abbrev pub lines_at : {L : Type 0} → ℕ → List (Admitted L) → List L
lines_at {L = L} place admitted = map (λ (a : Admitted L). a.line) (filter (λ (a : Admitted L). a.place == place) admitted)

-- the connections that left a place, in order
abbrev pub gone_at : {L : Type 0} → ℕ → List (Gone L) → List (Connection L)
gone_at {L = L} place gone = map (λ (g : Gone L). g.connection) (filter (λ (g : Gone L). g.place == place) gone)

-- the connection that stands at a place, if one does
abbrev pub standing : {L : Type 0} → Option (Option (Connection L)) → List (Connection L)
standing None = []
standing (Some None) = []
standing (Some (Some c)) = c ∷ []

-- a line is given a free place, or a new one
abbrev pub HasArrived : {L : Type 0} → L → List (Option (Connection L)) → List (Option (Connection L)) → Type 0
HasArrived {L = L} line old new =
    (c : Connection L) × IsNew line c
    × (((place : ℕ) × (slice_get old place ≡ Some None) × (new ≡ slice_set old place (Some c)))
    ⊎ (new ≡ old ++ (Some c) ∷ []))

-- a connection leaves its place; or none stands there, and nothing changes
abbrev pub HasLeft : {L : Type 0} → ℕ → List (Option (Connection L)) → List (Gone L) → List (Option (Connection L)) → List (Gone L) → Type 0
HasLeft {L = L} place old gone new later =
    (((k : ℕ) → slice_get new k ≡ slice_get old k) × (later ≡ gone))
    ⊎ ((c : Connection L) × (slice_get old place ≡ Some (Some c)) × (new ≡ slice_set old place None) × (later ≡ gone ++ record { place = place; connection = c } ∷ []))

-- The lives at one place: each line became the connection beside it, and what was asked and answered there is what the
-- first did, then what the next did, to the last.
abbrev pub Lives : {L : Type 0} → (L → ReadyValue) → List L → List Exchange → List (Connection L) → Type 0
Lives seen [] past [] = past ≡ []
Lives seen [] past (c ∷ cs) = ⊥
Lives seen (line ∷ lines) past [] = ⊥
Lives seen (line ∷ lines) past (c ∷ cs) = (first : List Exchange) × (others : List Exchange) × (past ≡ first ++ others) × Kept (seen line).line first (view seen c) × Lives seen lines others cs

-- One chain of the port's steps, each of which belongs to one place. At each place the lines that were given it became
-- the connections that left it and the one that stands there, and the steps of the place are theirs, one connection
-- after the other.
pub record Ran {L : Type 0} {P : Type 0} (seen : L → ReadyValue) (steps : ℕ → P → Op → Reply → P → Type 0) (log : List Entry) (admitted : List (Admitted L)) (gone : List (Gone L)) (p : P) (places : List (Option (Connection L))) (q : P) : Type 0 where
  pub chain : LogChain steps p log q
  pub lives : (k : ℕ) → Lives seen (lines_at k admitted) (only k log) (gone_at k gone ++ standing (slice_get places k))

-- these lines were given places, in this order
abbrev pub RanFor : {L : Type 0} {P : Type 0} → (L → ReadyValue) → (ℕ → P → Op → Reply → P → Type 0) → List L → List (Gone L) → P → List (Option (Connection L)) → P → Type 0
RanFor {L = L} seen steps lines gone p places q =
    (admitted : List (Admitted L)) × (map (λ (a : Admitted L). a.line) admitted ≡ lines) × (log : List Entry) × Ran seen steps log admitted gone p places q

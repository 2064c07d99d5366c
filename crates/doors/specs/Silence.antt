-- Since when those at places are silent, and who of them leaves.
use Rattle.std.specs.Prelude.{◌≡◌, ◌⊎◌, ◌+◌, ◌<◌, ◌≤◌, ℕ, List, Option, Some, None, slice_get, slice_set}
use Rattle.std.specs.List.{Contains}
use Rattle.readiness.specs.declared.connection.Connection.{Connection}
use Rattle.readiness.specs.Lines.{ReadyValue}
use Rattle.readiness.specs.Kept.{view}
use Rattle.readiness.specs.Turns.{IsAnswered}

-- the time that is noted for each of these places is this one, and for no other it changes
abbrev pub AreMarked : ℕ → List ℕ → List ℕ → List ℕ → Type 0
AreMarked now places old new = (k last : ℕ) → slice_get new k ≡ Some last → (Contains places k × (last ≡ now)) ⊎ ((Contains places k → ⊥) × (slice_get old k ≡ Some last))

-- the time that is noted, if one is, is before now, and at least so long before
abbrev pub HasRested : ℕ → ℕ → Option ℕ → Type 0
HasRested patience now since = (last : ℕ) × (since ≡ Some last) × (last < now) × (last + patience ≤ now)

-- One connection leaves: all its requests that were read are answered, no turn is promised to it, and it has rested for
-- as long as those are borne that send nothing.
pub record IsSentAway {L : Type 0} (seen : L → ReadyValue) (idle : Option ℕ) (now : ℕ) (since again : List ℕ) (old new : List (Option (Connection L))) : Type 0 where
  pub place : ℕ
  pub connection : Connection L
  pub patience : ℕ
  pub stood : slice_get old place ≡ Some (Some connection)
  pub answered : IsAnswered (view seen connection)
  pub unpromised : Contains again place → ⊥
  pub borne : idle ≡ Some patience
  pub rested : HasRested patience now (slice_get since place)
  pub left : new ≡ slice_set old place None

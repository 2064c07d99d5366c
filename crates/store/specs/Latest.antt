-- The latest EVT of a row's columns.
use Rattle.std.specs.Prelude.{◌≡◌, ℕ, ◌≤◌, ◌<◌, ◌⊎◌, List, slice_get}
use Rattle.versions.specs.Chain.{Held}
use Rattle.store.specs.Stored.{column_held}
use Rattle.store.specs.Sight.{evt_or_0}

-- the EVT of the newest version of a column, 0 without one
abbrev pub evt_at : List (List ℕ × Held) → List ℕ → ℕ
evt_at columns n = evt_or_0 (slice_get (column_held columns n).versions 0)

-- the greatest EVT of the newest versions of the columns: none has a later one, and one has it; 0 where there is none
pub record IsLatest (columns : List (List ℕ × Held)) (t : ℕ) : Type 0 where
  pub above : (n : List ℕ) → evt_at columns n ≤ t
  pub of_one : (n : List ℕ) × (evt_at columns n ≡ t)

-- what is the latest once that of one column went from one to another: the other, if it isn't earlier, or what was the
-- latest, if the column didn't have it
abbrev pub IsLatestAfter : ℕ → ℕ → ℕ → ℕ → Type 0
IsLatestAfter was before after now =
    ((now ≡ after) × (was ≤ after)) ⊎ ((now ≡ was) × (after ≤ was) × (before < was))

-- A walk over the columns of a row, which ends with the one that makes its count full.
use Rattle.std.specs.Prelude.{ℕ, zero, suc, Bool, if◌then◌else◌, List, [], ◌∷◌, filter_map, is_some, Option}
use Rattle.versions.specs.declared.version.Version.{Version}
use Rattle.versions.specs.Chain.{Held}
use Rattle.store.specs.declared.sight.Moment.TheVariants.{Now}
use Rattle.store.specs.Sight.{NamedVersion, seen_entry, live_of}

-- the first of these, up to the one with which as many pass a test as are wanted; all, if fewer do
abbrev pub until_full : {X : Type 0} → (X → Bool) → ℕ → List X → List X
until_full q zero xs = []
until_full q (suc n) [] = []
until_full q (suc n) (x ∷ xs) = x ∷ until_full q (if q x then n else suc n) xs

-- the columns of these entries that are seen now, up to the one with which so many are live
abbrev pub seen_until : Option Version → ℕ → List (List ℕ × Held) → List NamedVersion
seen_until d most entries = until_full (λ s. is_some (live_of d s)) most (filter_map (seen_entry Now) entries)

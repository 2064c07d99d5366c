-- What a session's next write depends on.
use Rattle.std.specs.Prelude.{◌≡◌, List, [], ◌∷◌, ◌++◌, Bool, true, false}
use Rattle.logical_time.specs.Stamps.{WriterValue}
use Rattle.dependencies.specs.declared.dep_set.Held.{Held}
use Rattle.dependencies.specs.declared.dep_set.Held.TheVariants.{Write, Writers}

-- the writers, as they are held
abbrev pub writers_held : Held → List WriterValue
writers_held (Write w) = w ∷ []
writers_held (Writers ws) = ws.items

-- whether writers were added, and then at the end
abbrev pub IsAdded : Held → Held → List WriterValue → Bool → Type 0
IsAdded before after ws true = writers_held after ≡ writers_held before ++ ws
IsAdded before after ws false = after ≡ before

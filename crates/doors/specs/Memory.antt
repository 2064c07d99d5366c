-- A door in memory.
use Rattle.std.specs.Prelude.{◌≡◌, ◌<◌, ◌⊎◌, ◌∷◌, ℕ, List, [], Option, Some, None}
use Rattle.readiness.specs.Memory.{MemoryValue}
use Rattle.doors.specs.declared.memory.MemoryDoor.{MemoryDoor}
use Rattle.doors.specs.declared.memory.Moment.{Moment}

-- a line that it gives is the next of those that are still to come; and no line is lost
abbrev pub GivesNext : MemoryDoor → Option MemoryValue → MemoryDoor → Type 0
GivesNext d None e = e.lines.items ≡ d.lines.items
GivesNext d (Some line) e = d.lines.items ≡ line ∷ e.lines.items

-- the places that are ready are those of the next wait in its list
abbrev pub tells_next : MemoryDoor → List ℕ → Type 0
tells_next d told = (moment : Moment) × (rest : List Moment) × (d.moments.items ≡ moment ∷ rest) × (told ≡ moment.ready.items)

-- more come in the next wait in its list
abbrev pub brings_more : MemoryDoor → Type 0
brings_more d = (moment : Moment) × (rest : List Moment) × (d.moments.items ≡ moment ∷ rest) × (0 < moment.come)

-- nobody who came is still to be given
abbrev pub IsEmpty : MemoryDoor → Type 0
IsEmpty d = (d.came ≡ 0) ⊎ (d.lines.items ≡ [])

-- What a door gives.
use Rattle.std.specs.Prelude.{◌≡◌, ℕ, List, [], ◌∷◌, Option, Some, None}
use Rattle.doors.specs.declared.doorway.Accepted.{Accepted}
use Rattle.doors.specs.declared.doorway.Accepted.TheVariants as accepted

-- the line that was given, if one was
abbrev pub line_of : {L : Type 0} → Accepted L → Option L
line_of (accepted.Line line) = Some line
line_of accepted.Nobody = None
line_of accepted.Lost = None
line_of accepted.Failed = None

-- calls of a door, one after the other, which gave these lines
abbrev pub Gives : {D : Type 0} {L : Type 0} → (D → Option L → D → Type 0) → D → List (Option L) → D → Type 0
Gives steps d [] e = d ≡ e
Gives {D = D} steps d (call ∷ calls) e = (f : D) × steps d call f × Gives steps f calls e

-- the lines that were given
abbrev pub lines_of : {L : Type 0} → List (Option L) → List L
lines_of [] = []
lines_of (None ∷ calls) = lines_of calls
lines_of (Some line ∷ calls) = line ∷ lines_of calls

-- What workers report.
use Rattle.std.specs.Prelude.{◌≡◌, ℕ, ◌≤◌}
use Rattle.actors.specs.declared.report.Shift.{Shift}
use Rattle.actors.specs.declared.report.End.TheVariants.{Turns}

-- a worker took no more turns than were given, and just these where that ended it
abbrev pub IsWithin : ℕ → Shift → Type 0
IsWithin turns s = (s.turns ≤ turns) × (s.end ≡ Turns → s.turns ≡ turns)

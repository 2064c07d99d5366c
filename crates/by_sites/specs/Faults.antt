-- Why a script isn't run to its end.
use Rattle.std.specs.Prelude.{◌≡◌, ◌⊎◌}
use Rattle.logical_time.specs.declared.fault.Fault.{Fault}
use Rattle.logical_time.specs.declared.fault.Fault.TheVariants.{Memory, ClockSpent, StrangerEnd}

-- a refusal of an operation with which the script ends; any other is told
abbrev pub EndsScript : Fault → Type 0
EndsScript fault = ((fault ≡ Memory) ⊎ (fault ≡ ClockSpent)) ⊎ (fault ≡ StrangerEnd)

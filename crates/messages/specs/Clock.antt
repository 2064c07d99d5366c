-- The clock of an event.
use Rattle.std.specs.Prelude.{ℕ, ◌+◌, ◌^◌, max, nat_lt, if◌then◌else◌, Option, Some, None, Result, Ok, Err}
use Rattle.logical_time.specs.declared.fault.Fault.{Fault}
use Rattle.logical_time.specs.declared.fault.Fault.TheVariants.{ClockSpent}

-- what a clock shows after an event: one past the later of what it showed and the time of the message (Lamport), if
-- that is a time
abbrev pub ticked : ℕ → ℕ → Option ℕ
ticked clock time = if nat_lt (max clock time + 1) (2 ^ 48) then Some (max clock time + 1) else None

-- what an event makes of an actor at the clock that it moves to. Where there is no such clock the event is refused: it
-- is no event, and changes nothing
abbrev pub on_clock : {S : Type 0} → Option ℕ → (ℕ → S) → Result S Fault
on_clock None step = Err ClockSpent
on_clock (Some n) step = Ok (step n)

-- What is known of the outcome that is awaited of a world.
use Rattle.std.specs.Prelude.{◌≡◌, ℕ, ◌==◌, ◌&&◌, if◌then◌else◌, Option, Some, None}
use Rattle.messages.specs.declared.outcome.Outcome.{Outcome}
use Rattle.world.specs.World.{run_of}
use Rattle.present.specs.declared.ended.Ended.{Ended}
use Rattle.service.specs.declared.awaited.Awaited.{Awaited}
use Rattle.service.specs.Port.{CameTo}

-- the outcome of this session's operation of this number, once this ended, too
abbrev pub outcome_heard : ℕ → ℕ → Option Outcome → Option Ended → Option Outcome
outcome_heard session number had None = had
outcome_heard session number had (Some x) = if (x.session == session) && (x.number == number) then Some x.outcome else had

-- the operation is the one that is awaited, and its outcome is there just where it ended
pub record IsAwaited (a : Awaited) (session number : ℕ) : Type 0 where
  pub session_is : a.session ≡ session
  pub number_is : a.number ≡ number
  pub came : CameTo (run_of a.world.now) session number a.outcome

-- it is awaited of the same world
abbrev pub AsksSame : Awaited → Awaited → Type 0
AsksSame start now = now.world.ghost_name ≡ start.world.ghost_name

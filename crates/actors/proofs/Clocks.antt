-- The clock of an actor, by its events alone.
use Rattle.std.proofs.Common.{◌≡◌, ℕ, ◌+◌, ◌<◌, ◌^◌, arith, refl}
use Rattle.std.specs.Prelude.{max, min, List, [], ◌∷◌, ◌++◌}
use Rattle.messages.specs.declared.event.ActorEvent.{ActorEvent}
use Rattle.actors.specs.Shown.{clock_with, clock_from}

pub clamped : (c clock time : ℕ) → clock ≡ min c (2 ^ 48) → time < 2 ^ 48 → min (max (min clock (2 ^ 48)) time + 1) (2 ^ 48) ≡ min (max c time + 1) (2 ^ 48)
clamped c clock time is below = omega (arith, is, below)

-- the clock after one event more
pub clock_more : (clock : ℕ) (journal : List ActorEvent) (x : ActorEvent) → clock_from clock (journal ++ x ∷ []) ≡ clock_with (clock_from clock journal) x
clock_more clock [] x = refl
clock_more clock (y ∷ ys) x = clock_more (clock_with clock y) ys x

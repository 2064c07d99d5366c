use Rattle.std.proofs.Common.{◌≡◌, ℕ, ◌+◌}
use Rattle.drains.proofs.Underway.{IsUnderway}
use Rattle.tracing.proofs.playing.drain.Given as goal

abbrev pub invariant-loop-delivered : goal.invariant-loop-delivered
invariant-loop-delivered l = record {
  topology : l.world.top ≡ l.fn.world.top;
  underway : (left : ℕ) → l.delivered + left ≡ 1000000 → IsUnderway l.fn.world.top l.fn.world.events l.world.events l.delivered left;
}

use Rattle.std.proofs.Common.{◌≡◌, ℕ, ◌+◌}
use Rattle.drains.proofs.Underway.{IsUnderway}
use Rattle.drains.proofs.draining.drain.Given as goal

abbrev pub invariant-loop-delivered : goal.invariant-loop-delivered
invariant-loop-delivered g l = record {
  topology : (g.D.Deliveries.world l.world).top ≡ (g.D.Deliveries.world l.fn.world).top;
  underway : (left : ℕ) → l.delivered + left ≡ 1000000 → IsUnderway (g.D.Deliveries.world l.fn.world).top (g.D.Deliveries.world l.fn.world).events (g.D.Deliveries.world l.world).events l.delivered left;
  stays : (start : g.row.D.Denot) → g.D.Deliveries.stays start l.fn.world → g.D.Deliveries.stays start l.world;
  knows : (session number : ℕ) → g.D.Deliveries.knows l.fn.world session number → g.D.Deliveries.knows l.world session number;
}

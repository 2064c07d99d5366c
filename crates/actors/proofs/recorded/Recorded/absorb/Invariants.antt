use Rattle.std.proofs.Common.{◌≡◌, ◌≤◌, ◌++◌, length}
use Rattle.actors.proofs.recorded.Recorded.absorb.Given as goal

abbrev pub invariant-loop-self : goal.invariant-loop-self
invariant-loop-self g l = record {
  sent : l.self.outbox.sent ++ l.self.fresh.sent ≡ l.fn.self.outbox.sent ++ l.fn.self.fresh.sent;
  room : length l.self.fresh.sent ≤ l.self.outbox.room;
  same : l.self ≡ record l.fn.self { outbox = l.self.outbox; fresh = l.self.fresh };
}

abbrev pub decreases-loop-self : goal.decreases-loop-self
decreases-loop-self g l = length l.self.fresh.sent

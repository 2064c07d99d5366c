use Rattle.std.proofs.Common.{◌≡◌, ◌-◌, ◌≤◌, ◌<◌, ◌++◌, true, false, length, take, drop}
use Rattle.actors.proofs.lane.Lane.flush.Given as goal

abbrev pub invariant-loop-self : goal.invariant-loop-self
invariant-loop-self l = record {
  within : l.self-inside.gone ≤ length l.self-inside.sent.items;
  gone : l.self-inside.link.sent ≡ take l.self-inside.gone l.self-inside.sent.items;
  to : l.self-inside.link.to ≡ l.fn.self.to;
  whole : l.self-inside.link.sent ++ drop l.self-inside.gone l.self-inside.sent.items ≡ l.fn.self.sent ++ l.fn.self.waiting;
  still : l.moved ≡ false → l.self-inside.link.sent ≡ l.fn.self.sent;
  waiting : l.moved ≡ false → drop l.self-inside.gone l.self-inside.sent.items ≡ l.fn.self.waiting;
  most : length (drop l.self-inside.gone l.self-inside.sent.items) ≤ length l.fn.self.waiting;
  fewer : l.moved ≡ true → length (drop l.self-inside.gone l.self-inside.sent.items) < length l.fn.self.waiting;
}

abbrev pub decreases-loop-self : goal.decreases-loop-self
decreases-loop-self l = length l.self-inside.sent.items - l.self-inside.gone

use Rattle.std.proofs.Common.{◌≡◌, ◌≤◌, drop, vec_capacity}
use Rattle.actors.proofs.Built.{AreBuilt}
use Rattle.actors.proofs.building.seat_all.Given as goal

abbrev pub invariant-loop-node : goal.invariant-loop-node
invariant-loop-node g l = record {
  rest : l.ends.items ≡ drop l.node l.fn.ends.items;
  room : l.count ≤ vec_capacity l.seats;
  seats : AreBuilt l.topology l.ring l.journal l.node l.fn.ends.items l.seats.items;
}

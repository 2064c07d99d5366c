use Rattle.std.proofs.Common.{◌≡◌}
use Rattle.service.specs.Connections.{AreServed}
use Rattle.service.proofs.connections.serve_connections.Given as goal

-- the connections so far were served
abbrev pub invariant-loop-index : goal.invariant-loop-index
invariant-loop-index l = record {
  topology : l.world.top ≡ l.fn.world.top;
  served : AreServed l.fn.world.top l.index l.fn.world.events l.world.events;
}

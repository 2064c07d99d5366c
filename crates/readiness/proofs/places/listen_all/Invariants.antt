use Rattle.std.proofs.Common.{◌≡◌, List, take}
use Rattle.readiness.specs.declared.connection.TheConstants.{LIMIT}
use Rattle.readiness.specs.Exchanges.{Entry}
use Rattle.readiness.specs.Places.{Turns, AreBounded, AreSilent, AreHeard}
use Rattle.readiness.proofs.places.listen_all.Given as goal

abbrev pub invariant-loop-place : goal.invariant-loop-place
invariant-loop-place g l = record {
  turned : (log : List Entry) × Turns g.L.ReadyLine.seen g.P.SharedPort.steps log l.fn.places.places.items (g.P.SharedPort.seen l.fn.port) l.places.places.items (g.P.SharedPort.seen l.port);
  heard : AreHeard g.L.ReadyLine.seen (take l.place-index l.ready) l.fn.places.places.items l.places.places.items;
  silent : AreSilent g.L.ReadyLine.seen l.fn.places.places.items l.places.places.items;
  bounded : AreBounded LIMIT g.L.ReadyLine.seen l.fn.places.places.items → AreBounded LIMIT g.L.ReadyLine.seen l.places.places.items;
  keeps_none : g.P.SharedPort.kept l.port ≡ g.P.SharedPort.kept l.fn.port;
}

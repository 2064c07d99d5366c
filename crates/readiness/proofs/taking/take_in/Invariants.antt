use Rattle.std.proofs.Common.{◌≡◌}
use Rattle.readiness.specs.declared.connection.TheConstants.{LIMIT}
use Rattle.readiness.specs.Kept.{view}
use Rattle.readiness.specs.Turns.{Turned, IsBounded, SaysNothing}
use Rattle.readiness.proofs.taking.take_in.Given as goal

abbrev pub invariant-loop : goal.invariant-loop
invariant-loop g l = record {
  turned : Turned (g.P.SharedPort.steps l.fn.place) (view g.L.ReadyLine.seen l.fn.connection) (g.P.SharedPort.seen l.fn.port) (view g.L.ReadyLine.seen l.connection) (g.P.SharedPort.seen l.port);
  bounded : IsBounded LIMIT (view g.L.ReadyLine.seen l.fn.connection) → IsBounded LIMIT (view g.L.ReadyLine.seen l.connection);
  silent : SaysNothing (view g.L.ReadyLine.seen l.fn.connection) (view g.L.ReadyLine.seen l.connection);
  keeps_none : g.P.SharedPort.kept l.port ≡ g.P.SharedPort.kept l.fn.port;
}

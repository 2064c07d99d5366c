use Rattle.std.proofs.Common.{List}
use Rattle.readiness.specs.declared.connection.TheConstants.{LIMIT}
use Rattle.readiness.specs.Exchanges.{Entry, LogChain}
use Rattle.readiness.specs.Places.{AreBounded}
use Rattle.readiness.specs.Runs.{RanFor, arrivals}
use Rattle.readiness.proofs.run.run_all.Given as goal

abbrev pub invariant-loop-act : goal.invariant-loop-act
invariant-loop-act g l = record {
  chain : (log : List Entry) × LogChain g.P.SharedPort.steps (g.P.SharedPort.seen l.fn.port) log (g.P.SharedPort.seen l.port);
  ran : RanFor g.L.ReadyLine.seen g.P.SharedPort.steps (arrivals l.yielded) l.run.gone.items (g.P.SharedPort.seen l.fn.port) l.run.places.places.items (g.P.SharedPort.seen l.port);
  bounded : AreBounded LIMIT g.L.ReadyLine.seen l.run.places.places.items;
}

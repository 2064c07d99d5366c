use Rattle.readiness.specs.Kept.{view}
use Rattle.readiness.proofs.Turned.{turned-none}
use Rattle.readiness.proofs.taking.step.Goals as goal

pub returns-in-Ending-clause-turned : goal.returns-in-Ending-clause-turned
returns-in-Ending-clause-turned g c = turned-none (g.P.SharedPort.steps c.args.place) (view g.L.ReadyLine.seen c.args.connection.now) (g.P.SharedPort.seen c.args.port.now)

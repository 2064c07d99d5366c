use Rattle.readiness.specs.declared.connection.TheConstants.{LIMIT}
use Rattle.readiness.specs.Kept.{view}
use Rattle.readiness.proofs.Halves.{stops_so}
use Rattle.readiness.proofs.turning.listen.Goals as goal

pub returns-clause-stops : goal.returns-clause-stops
returns-clause-stops g c = stops_so LIMIT c.take_in-stop.result (view g.L.ReadyLine.seen c.take_in-stop.new.connection) c.take_in-stop.ensures.stops

use Rattle.readiness.specs.declared.connection.TheConstants.{LIMIT}
use Rattle.readiness.specs.Kept.{view}
use Rattle.readiness.proofs.Halves.{takes-dry, takes-over}
use Rattle.readiness.proofs.connection.Connection.could_go_on.Goals as goal

pub returns-in-Dry : goal.returns-in-Dry
returns-in-Dry g c _ h = takes-dry LIMIT c.args.self.now.stop (view g.L.ReadyLine.seen c.args.self.now) c.in-Dry.is h

pub returns-in-Over : goal.returns-in-Over
returns-in-Over g c _ h = takes-over LIMIT c.args.self.now.stop (view g.L.ReadyLine.seen c.args.self.now) c.in-Over.is h

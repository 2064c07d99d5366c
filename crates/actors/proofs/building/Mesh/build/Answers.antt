use Rattle.std.proofs.Common.{rules}
use Rattle.actors.proofs.building.Mesh.build.Goals as goal

pub returns-clause-ok : goal.returns-clause-ok
returns-clause-ok g c = search rules

use Rattle.std.proofs.Common.{rules}
use Rattle.actors.proofs.building.Mesh.build_sized.Goals as goal

pub returns-clause-ok : goal.returns-clause-ok
returns-clause-ok c = search rules

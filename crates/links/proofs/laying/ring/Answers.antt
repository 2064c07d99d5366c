use Rattle.std.proofs.Common.{rules}
use Rattle.links.proofs.laying.ring.Goals as goal

pub returns-clause-out : goal.returns-clause-out
returns-clause-out c = search rules

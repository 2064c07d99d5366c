use Rattle.std.proofs.Common.{rules}
use Rattle.versions.proofs.chain.Chain.reserve.Goals as goal

pub returns-clause-ok : goal.returns-clause-ok
returns-clause-ok c = search rules

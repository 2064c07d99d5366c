use Rattle.std.proofs.Common.{rules}
use Rattle.versions.proofs.chain.Chain.newest.Goals as goal

pub returns-clause-first : goal.returns-clause-first
returns-clause-first c = search rules

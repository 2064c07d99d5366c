use Rattle.std.proofs.Common.{rules}
use Rattle.shard.proofs.begun.votes_of.Goals as goal

pub returns-clause-ok : goal.returns-clause-ok
returns-clause-ok c = search rules

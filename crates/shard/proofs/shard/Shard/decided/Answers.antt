use Rattle.std.proofs.Common.{sym, subst}
use Rattle.shard.specs.declared.kept.ShardKept.{ShardKept}
use Rattle.shard.specs.Kept.{Represents}
use Rattle.shard.proofs.shard.Shard.decided.Goals as goal

pub returns : goal.returns
returns c = λ top me a r. c.decided.ensures top me a (subst (λ (k : ShardKept). Represents top me k a) (sym c.self.view_is) r)

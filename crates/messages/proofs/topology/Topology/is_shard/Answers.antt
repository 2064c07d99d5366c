use Rattle.std.proofs.Common.{rules}
use Rattle.messages.proofs.topology.Topology.is_shard.Goals as goal

pub returns : goal.returns
returns c = search rules

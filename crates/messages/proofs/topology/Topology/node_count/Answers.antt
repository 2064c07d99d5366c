use Rattle.std.proofs.Common.{rules}
use Rattle.messages.proofs.topology.Topology.node_count.Goals as goal

pub returns-clause-value : goal.returns-clause-value
returns-clause-value c = search rules

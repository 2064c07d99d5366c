use Rattle.std.proofs.Common.{rules}
use Rattle.messages.proofs.topology.Topology.session_of.Goals as goal

pub returns-then-number-node_count : goal.returns-then-number-node_count
returns-then-number-node_count c = search rules

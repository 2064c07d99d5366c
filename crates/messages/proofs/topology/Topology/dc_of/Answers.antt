use Rattle.std.proofs.Common.{rules}
use Rattle.messages.proofs.topology.Topology.dc_of.Goals as goal

pub returns : goal.returns
returns c = search rules

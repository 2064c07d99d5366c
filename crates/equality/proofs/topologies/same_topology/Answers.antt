use Rattle.std.proofs.Common.{rules}
use Rattle.equality.proofs.topologies.same_topology.Goals as goal

pub returns-then-same_schema : goal.returns-then-same_schema
returns-then-same_schema c = search rules

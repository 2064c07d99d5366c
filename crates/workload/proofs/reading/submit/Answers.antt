use Rattle.std.proofs.Common.{rules}
use Rattle.workload.proofs.reading.submit.Goals as goal

pub session_node-requires : goal.session_node-requires
session_node-requires c = search rules

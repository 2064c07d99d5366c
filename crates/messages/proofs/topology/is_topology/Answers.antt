use Rattle.std.proofs.Common.{rules}
use Rattle.messages.proofs.topology.is_topology.Goals as goal

pub returns-then-homes-le-MOST_SESSIONS : goal.returns-then-homes-le-MOST_SESSIONS
returns-then-homes-le-MOST_SESSIONS c = search rules

use Rattle.std.proofs.Common.{rules}
use Rattle.front.proofs.socket.SocketLineLine.write.Goals as goal

pub returns-in-Ok-clause-some : goal.returns-in-Ok-clause-some
returns-in-Ok-clause-some c = search rules

use Rattle.std.proofs.Common.{rules}
use Rattle.front.proofs.socket.SocketLineLine.read.Goals as goal

pub returns-in-Ok-eq0-clause-line : goal.returns-in-Ok-eq0-clause-line
returns-in-Ok-eq0-clause-line c = search rules

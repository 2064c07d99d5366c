use Rattle.std.proofs.Common.{rules}
use Rattle.front.proofs.socket.SocketLine.new.Goals as goal

pub returns : goal.returns
returns c = search rules

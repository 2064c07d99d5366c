use Rattle.std.proofs.Common.{rules}
use Rattle.messages.proofs.home.Home.node_of.Goals as goal

pub returns : goal.returns
returns c = search rules

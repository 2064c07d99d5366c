use Rattle.std.proofs.Common.{rules}
use Rattle.links.proofs.in_link.InLink.from.Goals as goal

pub returns : goal.returns
returns c = search rules

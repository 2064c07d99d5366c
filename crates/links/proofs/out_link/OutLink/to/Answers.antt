use Rattle.std.proofs.Common.{rules}
use Rattle.links.proofs.out_link.OutLink.to.Goals as goal

pub returns : goal.returns
returns c = search rules

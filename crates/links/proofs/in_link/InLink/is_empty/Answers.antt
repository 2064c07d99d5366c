use Rattle.std.proofs.Common.{rules}
use Rattle.links.proofs.in_link.InLink.is_empty.Goals as goal

pub returns-clause-empty : goal.returns-clause-empty
returns-clause-empty c = search rules

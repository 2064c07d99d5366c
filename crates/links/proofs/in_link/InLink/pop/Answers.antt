use Rattle.std.proofs.lemmas.Grind.{common_steps}
use Rattle.std.proofs.Common.{arith, rules}
use Rattle.links.proofs.in_link.InLink.pop.Goals as goal

pub returns-clause-looked : goal.returns-clause-looked
returns-clause-looked c = search rules

pub returns-clause-succeeds : goal.returns-clause-succeeds
returns-clause-succeeds c = search rules

pub returns-clause-some : goal.returns-clause-some
returns-clause-some c = grind (arith, common_steps)

pub returns-clause-from : goal.returns-clause-from
returns-clause-from c = search rules

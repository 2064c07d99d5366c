use Rattle.std.proofs.Common.{rules, arith}
use Rattle.links.proofs.Laid.{in_more}
use Rattle.std.proofs.lemmas.Grind.{common_steps}
use Rattle.links.proofs.laying.add_incoming.Goals as goal

pub returns-clause-incoming : goal.returns-clause-incoming
returns-clause-incoming c = in_more c.args.ends.now.items c.args.place c.index_mut.result.now _ c.args.link c.requires c.index_mut.ensures.value (search rules)

pub returns-clause-count : goal.returns-clause-count
returns-clause-count c = grind (arith, common_steps)

pub returns-in_err-push-clause-count : goal.returns-in_err-push-clause-count
returns-in_err-push-clause-count c = grind (arith, common_steps)

pub returns-in_err-push-clause-incoming : goal.returns-in_err-push-clause-incoming
returns-in_err-push-clause-incoming c = grind (arith, common_steps)

use Rattle.std.proofs.Common.{arith}
use Rattle.std.proofs.lemmas.Grind.{common_steps}
use Rattle.durable_site.proofs.LastMet.{met_more}
use Rattle.durable_site.proofs.others.last_met_of_each.Goals as goal

pub loop-dc-preserved : goal.loop-dc-preserved
loop-dc-preserved c = grind (arith, common_steps, met_more c.args.entries.now c.loop-dc.dc)

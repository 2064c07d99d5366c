use Rattle.std.proofs.Common.{arith}
use Rattle.std.proofs.lemmas.Grind.{common_steps}
use Rattle.logfile.proofs.Sites.{others_more}
use Rattle.logfile.proofs.site_counts.others_of.Goals as goal

pub loop-dc-preserved : goal.loop-dc-preserved
loop-dc-preserved c = grind (arith, common_steps, others_more c.args.here c.loop-dc.dc c.args.entries.now)

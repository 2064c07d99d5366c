use Rattle.std.proofs.Common.{arith}
use Rattle.std.proofs.lemmas.Grind.{common_steps}
use Rattle.site_ledger.specs.Steps.{steps_told}
use Rattle.durable_site.proofs.Heard.{told_heard, heard_more}
use Rattle.durable_site.proofs.counting.heard_from_each.Goals as goal

pub loop-dc-preserved : goal.loop-dc-preserved
loop-dc-preserved c = grind (arith, common_steps, told_heard c.loop-dc.dc c.args.entries.now, heard_more (steps_told c.args.entries.now) c.loop-dc.dc)

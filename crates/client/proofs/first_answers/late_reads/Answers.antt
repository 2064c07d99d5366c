use Rattle.std.proofs.Common.{arith}
use Rattle.std.proofs.lemmas.Grind.{common_steps}
use Rattle.client.proofs.first_answers.late_reads.Goals as goal

pub loop-late-preserved : goal.loop-late-preserved
loop-late-preserved c = grind (arith, common_steps)

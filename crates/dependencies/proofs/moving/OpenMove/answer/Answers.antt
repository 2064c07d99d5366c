use Rattle.std.proofs.Common.{arith}
use Rattle.std.proofs.lemmas.Grind.{common_steps}
use Rattle.dependencies.proofs.Left.{others_stay}
use Rattle.dependencies.proofs.moving.OpenMove.answer.Goals as goal

pub returns-then-not-count : goal.returns-then-not-count
returns-then-not-count c = grind (arith, common_steps, others_stay)

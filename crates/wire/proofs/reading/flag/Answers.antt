use Rattle.std.proofs.Common.{arith}
use Rattle.std.proofs.lemmas.Grind.{common_steps}
use Rattle.wire.specs.Reading.{flag_at}
use Rattle.wire.proofs.reading.flag.Goals as goal

pub returns-in-1 : goal.returns-in-1
unfolding flag_at
returns-in-1 c = grind (arith, common_steps)

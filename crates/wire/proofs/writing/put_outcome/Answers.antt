use Rattle.std.proofs.Common.{arith}
use Rattle.std.proofs.lemmas.Grind.{common_steps}
use Rattle.wire.proofs.writing.put_outcome.Goals as goal

pub returns-in_ok-put_u64-in-Read : goal.returns-in_ok-put_u64-in-Read
returns-in_ok-put_u64-in-Read c = grind (arith, common_steps)

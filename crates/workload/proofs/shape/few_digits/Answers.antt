use Rattle.std.proofs.Common.{arith}
use Rattle.workload.proofs.FewDigits.{all_read}
use Rattle.workload.proofs.shape.few_digits.Goals as goal

pub returns : goal.returns
returns c = all_read c.args.text.now c.loop-byte.number c.loop-byte.byte-index (grind arith) (omega arith) (omega arith) c.loop-byte.invariant

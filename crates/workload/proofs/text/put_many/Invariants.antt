use Rattle.std.proofs.Common.{◌≡◌, ℕ, List, ◌++◌, length, Ok}
use Rattle.hex.specs.Hex.{encode_lower}
use Rattle.program.specs.Outputs.{Adds}
use Rattle.workload.proofs.text.put_many.Given as goal

-- the digits of those before the rest are written
abbrev pub invariant-loop-rest : goal.invariant-loop-rest
invariant-loop-rest g l = (done : List ℕ) × (l.fn.bytes ≡ done ++ l.rest) × Adds {T = Unit {0}} g.W.Write.contents l.fn.output l.output (Ok tt) (encode_lower done)

abbrev pub decreases-loop-rest : goal.decreases-loop-rest
decreases-loop-rest g l = length l.rest

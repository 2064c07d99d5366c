use Rattle.std.proofs.Common.{drop}
use Rattle.workload.proofs.FewDigits.{IsRead}
use Rattle.workload.proofs.shape.few_digits.Given as goal

-- the digits so far tell the number
abbrev pub invariant-loop-byte : goal.invariant-loop-byte
invariant-loop-byte l = IsRead l.text l.number (drop l.byte-index l.text)

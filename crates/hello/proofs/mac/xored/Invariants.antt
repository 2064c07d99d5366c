use Rattle.std.proofs.Common.{◌≡◌, length, take}
use Rattle.hello.specs.Mac.{xor_pad}
use Rattle.hello.proofs.mac.xored.Given as goal

abbrev pub invariant-loop-i : goal.invariant-loop-i
invariant-loop-i l = (length l.out ≡ 64) × (take l.i l.out ≡ xor_pad l.pad (take l.i l.block))

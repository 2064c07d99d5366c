use Rattle.std.proofs.Common.{◌≡◌, take}
use Rattle.recorded.proofs.writing.copies_of.Given as goal

abbrev pub invariant-loop-family : goal.invariant-loop-family
invariant-loop-family l = l.copies.items ≡ take l.family-index l.families

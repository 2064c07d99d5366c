use Rattle.std.proofs.Common.{◌≡◌, ◌++◌, length}
use Rattle.ledger.specs.Heads.{families_text}
use Rattle.ledger.proofs.head.put_families.Given as goal

-- those so far are put, and the others are left
abbrev pub invariant-loop-rest : goal.invariant-loop-rest
invariant-loop-rest l = l.text.items ++ families_text l.rest ≡ l.fn.text.items ++ families_text l.fn.families

abbrev pub decreases-loop-rest : goal.decreases-loop-rest
decreases-loop-rest l = length l.rest

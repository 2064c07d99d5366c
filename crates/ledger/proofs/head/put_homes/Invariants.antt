use Rattle.std.proofs.Common.{◌≡◌, ◌++◌, length}
use Rattle.ledger.specs.Heads.{homes_text}
use Rattle.ledger.proofs.head.put_homes.Given as goal

-- those so far are put, and the others are left
abbrev pub invariant-loop-rest : goal.invariant-loop-rest
invariant-loop-rest l = l.text.items ++ homes_text l.rest ≡ l.fn.text.items ++ homes_text l.fn.homes

abbrev pub decreases-loop-rest : goal.decreases-loop-rest
decreases-loop-rest l = length l.rest

use Rattle.std.proofs.Common.{◌≡◌, ◌<◌, List, ℕ, All, length}
use Rattle.ledger.specs.Heads.{families_text}
use Rattle.ledger.proofs.Reading.{FamiliesLeft}
use Rattle.ledger.proofs.head.families_of.Given as goal

-- of names that the bytes spell those so far are read, and the others are left
abbrev pub invariant-loop-rest : goal.invariant-loop-rest
invariant-loop-rest l = (names : List (List ℕ)) → All (λ name. length name < 65536) names → l.fn.bytes ≡ families_text names → FamiliesLeft l.families.items l.rest names

abbrev pub decreases-loop-rest : goal.decreases-loop-rest
decreases-loop-rest l = length l.rest

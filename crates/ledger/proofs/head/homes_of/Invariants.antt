use Rattle.std.proofs.Common.{◌≡◌, ◌<◌, List, ℕ, All, length}
use Rattle.ledger.specs.Heads.{homes_text}
use Rattle.ledger.proofs.Reading.{HomesLeft}
use Rattle.ledger.proofs.head.homes_of.Given as goal

-- of homes that the bytes spell those so far are read, and the others are left
abbrev pub invariant-loop-rest : goal.invariant-loop-rest
invariant-loop-rest l = (homes : List ℕ) → All (λ home. home < 65536) homes → l.fn.bytes ≡ homes_text homes → HomesLeft l.homes.items l.rest homes

abbrev pub decreases-loop-rest : goal.decreases-loop-rest
decreases-loop-rest l = length l.rest

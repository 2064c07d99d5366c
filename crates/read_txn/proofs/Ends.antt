-- How the first round ends.
use Rattle.std.proofs.Common.{◌≡◌, ◌∙◌, ◌<◌, ℕ, ap, subst, refl, sym, List, [], ◌∷◌, length, map, arith}
use Rattle.messages.specs.Rounds.{late_nodes, rows_taken}
use Rattle.read_txn.specs.declared.late.LateShard.{LateShard}
use Rattle.read_txn.specs.declared.first_round.FirstTaken.TheVariants as in_first
use Rattle.read_txn.specs.States.{First, late_shard, asked_again}
use Rattle.read_txn.specs.Completed.{answered}
use Rattle.read_txn.specs.Taken.{second_if, over}

nobody : (f : First) (time : ℕ) (nodes : List ℕ) → length (map (late_shard time f.heard) nodes) ≡ 0 → in_first.Done (answered f.read time (rows_taken time f.heard [])) ≡ second_if nodes f time
nobody f time [] e = refl
nobody f time (n ∷ ns) e = absurd (omega arith)

-- nothing is to be asked again: the read is complete
pub completes : (f : First) (time : ℕ) (late : List LateShard) → length late ≡ 0 → late ≡ asked_again f.asked time f.heard → in_first.Done (answered f.read time (rows_taken time f.heard [])) ≡ over f time
completes f time late none is = nobody f time (late_nodes f.asked time f.heard) (ap length (sym is) ∙ none)

somebody : (f : First) (time : ℕ) (nodes : List ℕ) → 0 < length (map (late_shard time f.heard) nodes) → in_first.Second (record { read = f.read; time = time; asked = f.asked; first = f.heard; heard = [] }) ≡ second_if nodes f time
somebody f time [] e = absurd (omega arith)
somebody f time (n ∷ ns) e = refl

-- something is to be asked again: the second round begins
pub asks_again : (f : First) (time : ℕ) (late : List LateShard) → 0 < length late → late ≡ asked_again f.asked time f.heard → in_first.Second (record { read = f.read; time = time; asked = f.asked; first = f.heard; heard = [] }) ≡ over f time
asks_again f time late some is = somebody f time (late_nodes f.asked time f.heard) (subst (λ n. 0 < n) (ap length is) some)

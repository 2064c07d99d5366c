-- Moves in scripts and transcripts.
use Rattle.std.proofs.Common.{◌≡◌, ℕ, ◌<◌, ◌≤◌, List, [], ◌∷◌, ◌++◌, Some, None, refl, ap, arith}
use Rattle.std.specs.Prelude.{codes}
use Rattle.std.proofs.lemmas.Fmt.{decimal_digit}
use Rattle.std.proofs.lemmas.Bool.Decides.{nat_tests}
use Rattle.serde_json.specs.Data.{Data, number, unsigned, object, member, no_members}
use Rattle.messages.specs.declared.op.Op.TheVariants as op
use Rattle.messages.specs.Topology.{TopologyValue}
use Rattle.workload.specs.declared.transcript.Entry.TheVariants as entry
use Rattle.workload.specs.Gives.{◌>>=◌}
use Rattle.workload.specs.Shape.{if_below}
use Rattle.workload.specs.Script.{move_of, op_of}
use Rattle.workload.specs.Text.{op_text, text_of}

below_end : (n end : ℕ) → n < end → if_below end n ≡ Some n
below_end n end lt = grind (arith, nat_tests)

past_end : (n end : ℕ) → end ≤ n → if_below end n ≡ None
past_end n end le = grind (arith, nat_tests)

pub is_move : (top : TopologyValue) (dc : ℕ) → dc < top.dcs → op_of top (object (member (codes "move") (number (unsigned dc)) no_members)) ≡ Some (op.Move dc)
unfolding op_of move_of
is_move top dc lt = ap (λ o. o >>= (λ n. Some (op.Move n))) (below_end dc top.dcs lt)

pub is_beyond : (top : TopologyValue) (dc : ℕ) → top.dcs ≤ dc → op_of top (object (member (codes "move") (number (unsigned dc)) no_members)) ≡ None
unfolding op_of move_of
is_beyond top dc le = ap (λ o. o >>= (λ n. Some (op.Move n))) (past_end dc top.dcs le)

pub is_not_alone : (top : TopologyValue) (d e : Data) → op_of top (object (member (codes "batch") d (member (codes "move") e no_members))) ≡ None
unfolding op_of
is_not_alone top d e = refl

-- the line of a move, by the texts of its numbers
abbrev spelled : List ℕ → List ℕ → List ℕ → List ℕ → List ℕ
spelled node count dc floor = ((codes "node " ++ node ++ codes " op " ++ count) ++ (codes " moved to " ++ dc ++ codes " floor " ++ floor ++ codes "\n")) ++ []

pub is_told : text_of (entry.Moved 2 2 1 6 ∷ []) ≡ codes "node 2 op 2 moved to 1 floor 6\n"
unfolding op_text
is_told = λ i. spelled (decimal_digit 2 (omega arith) i) (decimal_digit 2 (omega arith) i) (decimal_digit 1 (omega arith) i) (decimal_digit 6 (omega arith) i)

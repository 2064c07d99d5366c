use Rattle.std.proofs.Common.{◌≡◌, ◌==◌, not, filter, vec_capacity, ◌-◌, length}
use Rattle.txn_state.proofs.Missing.{passed}
use Rattle.txn_state.proofs.votes.take_one_out.Given as goal

-- those before the place, and those from there on that aren't the node, are all that aren't
abbrev pub invariant-loop-place : goal.invariant-loop-place
invariant-loop-place l = record {
  rest : passed (λ n. not (n == l.voter)) l.place l.missing.items ≡ filter (λ n. not (n == l.voter)) l.fn.missing.items;
  room : vec_capacity l.missing ≡ vec_capacity l.fn.missing;
}

abbrev pub decreases-loop-place : goal.decreases-loop-place
decreases-loop-place l = length l.missing.items - l.place

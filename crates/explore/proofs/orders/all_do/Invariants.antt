use Rattle.std.proofs.Common.{ℕ, ◌<◌}
use Rattle.explore.specs.Orders.{own_of, IsDone}
use Rattle.explore.proofs.orders.all_do.Given as goal

abbrev pub invariant-loop-node : goal.invariant-loop-node
invariant-loop-node l = (k : ℕ) → k < l.node → IsDone l.lose (own_of k l.asked) (own_of k l.done)

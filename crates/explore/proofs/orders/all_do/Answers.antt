use Rattle.std.proofs.Common.{◌∙◌, sym, subst, ℕ}
use Rattle.explore.specs.Orders.{own_of, IsDone}
use Rattle.explore.proofs.Beginnings.{below_next}
use Rattle.explore.proofs.orders.all_do.Goals as goal

pub returns-then-not-branch : goal.returns-then-not-branch
returns-then-not-branch c = (
  λ e. cc,
  λ all. sym c.if-not-branch.true ∙ c.in_ok-does.ensures.1 (subst (λ (n : ℕ). IsDone c.args.lose (own_of n c.args.asked.now) (own_of n c.args.done.now)) (sym c.new.ensures)
      (all c.loop-node.node c.loop-node-test.true)),
)

pub loop-node-preserved : goal.loop-node-preserved
loop-node-preserved c =
    below_next (λ k. IsDone c.args.lose (own_of k c.args.asked.now) (own_of k c.args.done.now)) c.loop-node.node c.loop-node.invariant
    (subst (λ (n : ℕ). IsDone c.args.lose (own_of n c.args.asked.now) (own_of n c.args.done.now)) c.new.ensures (c.in_ok-does.ensures.0 c.if-not-branch.false))

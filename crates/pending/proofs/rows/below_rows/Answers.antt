use Rattle.pending.proofs.rows.below_rows.Goals as goal

pub returns-clause-ok : goal.returns-clause-ok
returns-clause-ok c = (
  c.in_order.ensures.in_order,
  λ t. (
    λ has. (c.in_ok-below_each.ensures.ok t).0 ((c.in_order.ensures.same t).0 has),
    λ below. (c.in_order.ensures.same t).1 ((c.in_ok-below_each.ensures.ok t).1 below),
  ),
)

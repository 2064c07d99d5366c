use Rattle.std.proofs.Common.{◌∙◌, sym}
use Rattle.explore.proofs.Ordered.{by_events}
use Rattle.explore.proofs.orders.is_order_of.Goals as goal

pub returns-then-not-same_topology : goal.returns-then-not-same_topology
returns-then-not-same_topology c = (λ e. cc, λ h. sym c.if-not-same_topology.true ∙ c.same_topology.ensures.1 h.topology)

pub returns : goal.returns
returns c =
    by_events c.args.lose c.args.script.now c.args.order.now c.in_ok-ordered.ordered (c.same_topology.ensures.0 c.if-not-same_topology.false)
    (rw (c.node_count-actors.ensures.value, c.as_slice-asked.ensures, c.as_slice.ensures) at c.in_ok-ordered.ensures)

use Rattle.std.proofs.Common.{rules, ap, length}
use Rattle.explore.proofs.exploring.events_below.Goals as goal

pub returns : goal.returns
returns c = record {
  order = c.in_ok-order.order;
  spelled = c.in_ok-order.ensures;
  is_order = c.in_ok-is_order_of.ensures.0 c.if-not-branch.false;
  count = ap length c.as_slice.ensures;
}

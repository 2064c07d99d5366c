use Rattle.std.proofs.Common.{true, subst, sym}
use Rattle.messages.specs.Topology.{TopologyValue}
use Rattle.site.specs.Keeping.{Keeps}
use Rattle.site.proofs.Values.{keeps_new}
use Rattle.site.proofs.site.Site.new.Goals as goal

pub invariant_of-result : goal.invariant_of-result
invariant_of-result g c =
    let same = c.in_ok-copy.ensures.same in
    subst (λ (top : TopologyValue). Keeps g.M.Machine.came_from g.M.Machine.untaken top c.args.dc true c.new-4.result c.in_ok-members.members.items c.new.result.items c.new-2.result.items c.new-3.result.sent) (sym same)
    (rw c.new-4.ensures (keeps_new g.M.Machine.came_from g.M.Machine.untaken c.args.topology.now c.args.dc c.in_ok-members.members.items c.new.result.items c.new-2.result.items c.new-3.result.sent c.in_ok-copy.ensures.limits c.requires
    c.new.ensures.items c.new-2.ensures.items c.new-3.ensures c.in_ok-members.ensures.made))

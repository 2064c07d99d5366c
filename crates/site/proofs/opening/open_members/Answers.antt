use Rattle.std.proofs.Common.{◌+◌, ◌≤◌, subst, sym}
use Rattle.site.specs.Keeping.{AreNew, IsNew}
use Rattle.site.proofs.Opened.{one_more}
use Rattle.site.proofs.opening.open_members.Goals as goal

pub loop-node-preserved : goal.loop-node-preserved
loop-node-preserved g c = (
  subst (λ n. c.node_count-count.result ≤ n) (sym c.push_reserved.ensures.capacity) c.loop-node.invariant.0,
  subst (λ l. AreNew g.M.Machine.came_from g.M.Machine.untaken c.args.topology.now c.args.dc (c.loop-node.node + 1) l) (sym c.push_reserved.ensures.items)
      (one_more g.M.Machine.came_from g.M.Machine.untaken c.args.topology.now c.args.dc c.loop-node.node c.loop-node.members.items c.in-Ok.member c.loop-node.invariant.1
      (subst (λ n. IsNew g.M.Machine.came_from g.M.Machine.untaken c.args.topology.now c.args.dc n c.in-Ok.member) c.new.ensures c.in-Ok.ensures.made)),
)

use Rattle.std.proofs.Common.{◌≤◌}
use Rattle.site.specs.Keeping.{AreNew}
use Rattle.site.proofs.opening.open_members.Given as goal

abbrev pub invariant-loop-node : goal.invariant-loop-node
invariant-loop-node g l = (l.count ≤ l.members.cap) × AreNew g.M.Machine.came_from g.M.Machine.untaken l.topology l.dc l.node l.members.items

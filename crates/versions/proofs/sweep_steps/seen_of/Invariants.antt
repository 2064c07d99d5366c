use Rattle.std.proofs.Common.{◌≤◌, ◌-◌, length}
use Rattle.versions.specs.Sweeps.{AreSeen, AreAll}
use Rattle.versions.proofs.sweep_steps.seen_of.Given as goal

abbrev pub invariant-loop-i : goal.invariant-loop-i
invariant-loop-i l = record {
  inside : l.i ≤ length l.ranges;
  seen : AreSeen l.ranges l.time l.seen.items;
  all : AreAll l.ranges l.time l.i l.seen.items;
}

abbrev pub decreases-loop-i : goal.decreases-loop-i
decreases-loop-i l = length l.ranges - l.i

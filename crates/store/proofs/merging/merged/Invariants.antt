use Rattle.std.proofs.Common.{◌≡◌, ◌+◌, ◌-◌, ◌≤◌, length, map}
use Rattle.store.specs.Sight.{named, merged}
use Rattle.store.proofs.laid_over.MergeSteps.{with_left}
use Rattle.store.proofs.merging.merged.Given as goal

-- what is added and what is left of both completes the whole
abbrev pub invariant-loop-i : goal.invariant-loop-i
invariant-loop-i l = record {
  ones : l.i ≤ length l.ones;
  others : l.j ≤ length l.others;
  all : with_left l.all.items l.ones l.i l.others l.j ≡ merged (map named l.ones) (map named l.others);
}

-- what is left of both
abbrev pub decreases-loop-i : goal.decreases-loop-i
decreases-loop-i l = (length l.ones - l.i) + (length l.others - l.j)

use Rattle.std.proofs.Common.{◌≤◌, length}
use Rattle.versions.proofs.RangesIndexed.{IsLower}
use Rattle.versions.proofs.range_places.index_of.Given as goal

abbrev pub invariant-loop-i : goal.invariant-loop-i
invariant-loop-i l = record {
  inside : l.i ≤ length l.ranges;
  lower : IsLower l.ranges l.i l.range;
}

abbrev pub decreases-loop-i : goal.decreases-loop-i
decreases-loop-i l = l.i

use Rattle.std.proofs.Common.{◌≡◌, ◌≤◌, length, take}
use Rattle.std.specs.Prelude.{reverse}
use Rattle.versions.specs.Ranges.{over_of}
use Rattle.versions.proofs.range_places.newest_of_over.Given as goal

abbrev pub invariant-loop-i : goal.invariant-loop-i
invariant-loop-i l = record {
  inside : l.i ≤ length l.ranges;
  found : over_of (reverse l.ranges) l.name l.time ≡ over_of (reverse (take l.i l.ranges)) l.name l.time;
}

abbrev pub decreases-loop-i : goal.decreases-loop-i
decreases-loop-i l = l.i

use Rattle.std.proofs.Common.{◌≤◌, length}
use Rattle.versions.proofs.Indexed.{IsBelow}
use Rattle.versions.proofs.places.index_of.Given as goal

abbrev pub invariant-loop-i : goal.invariant-loop-i
invariant-loop-i l = record {
  inside : l.i ≤ length l.entries;
  below : IsBelow l.entries l.i l.version;
}

abbrev pub decreases-loop-i : goal.decreases-loop-i
decreases-loop-i l = l.i

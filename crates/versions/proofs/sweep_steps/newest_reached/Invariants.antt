use Rattle.std.proofs.Common.{ℕ, List, ◌<◌, length}
use Rattle.std.specs.Prelude.{Contains}
use Rattle.std.specs.Ordering.{nat_cmp}
use Rattle.std.specs.BinaryHeap.{IsHeap, heap_items, heap_len}
use Rattle.versions.specs.Sweeps.{IsOnWay}
use Rattle.versions.proofs.sweep_steps.newest_reached.Given as goal

abbrev pub invariant-loop-newest : goal.invariant-loop-newest
invariant-loop-newest l = record {
  inside : (i : ℕ) → Contains (heap_items l.reached) i → i < length l.ranges;
  heap : IsHeap nat_cmp (heap_items l.reached);
  way : (t next : ℕ) (ahead : List ℕ) → IsOnWay l.ranges t ahead next (heap_items l.fn.reached) l.name → IsOnWay l.ranges t ahead next (heap_items l.reached) l.name;
}

abbrev pub decreases-loop-newest : goal.decreases-loop-newest
decreases-loop-newest l = heap_len l.reached

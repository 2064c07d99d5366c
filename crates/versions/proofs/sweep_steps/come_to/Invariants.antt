use Rattle.std.proofs.Common.{ℕ, ◌-◌, length}
use Rattle.std.specs.BinaryHeap.{heap_items}
use Rattle.versions.specs.Sweeps.{AreSeen, IsOnWay}
use Rattle.versions.proofs.sweep_steps.come_to.Given as goal

abbrev pub invariant-loop-next : goal.invariant-loop-next
invariant-loop-next l = record {
  way : (t : ℕ) → AreSeen l.ranges t l.ahead → IsOnWay l.ranges t l.ahead l.fn.next (heap_items l.fn.reached) l.name → IsOnWay l.ranges t l.ahead l.next (heap_items l.reached) l.name;
}

abbrev pub decreases-loop-next : goal.decreases-loop-next
decreases-loop-next l = length l.ahead - l.next

use Rattle.std.proofs.Common.{rules, ◌≡◌, ◌∙◌, sym, ◌<◌, true, length, get_or}
use Rattle.std.specs.Prelude.{Contains}
use Rattle.std.specs.BinaryHeap.{heap_items, heap_len}
use Rattle.versions.proofs.SweepSteps.{popped, heap_popped, popped_stays, way_leaves}
use Rattle.versions.proofs.sweep_steps.newest_reached.Goals as goal

pub is_index_left-requires : goal.is_index_left-requires
is_index_left-requires c =
    let has : Contains (heap_items c.loop-newest.reached) c.in-Some.newest.now = search rules in
    c.loop-newest.invariant.inside c.in-Some.newest.now has

pub loop-newest-preserved : goal.loop-newest-preserved
loop-newest-preserved c =
    let items = heap_items c.loop-newest.reached in
    let rest = heap_items c.pop.new.self in
    let i = c.in-Some.newest.now in
    let some : 0 < heap_len c.loop-newest.reached = search rules in
    let long : 0 < length items = search rules in
    let first : i ≡ get_or items 0 i = search rules in
    let left : c.is_index_left.result ≡ true = search rules in
    let p = popped c.pop.result i (heap_len c.loop-newest.reached) items rest c.pop.ensures.top c.pop.ensures.permutation c.pop.ensures.none some long first in
    let heap = heap_popped c.pop.result (heap_len c.loop-newest.reached) items rest c.pop.ensures.heap_order c.pop.ensures.none some c.loop-newest.invariant.heap in
    record {
      inside = λ k h. c.loop-newest.invariant.inside k (popped_stays i k items rest p h);
      heap = heap;
      way = λ t next ahead w. way_leaves c.args.ranges.now t ahead next i items rest c.args.name.now p (λ d. sym (c.is_index_left.ensures d) ∙ left) heap (c.loop-newest.invariant.way t next ahead w);
    }

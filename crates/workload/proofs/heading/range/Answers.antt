use Rattle.std.proofs.Common.{◌-◌, arith, sym, subst}
use Rattle.workload.specs.Streams.{BoundsSoFar}
use Rattle.workload.proofs.Members.{no_bounds, member_shorter, more_bounds, all_bounds}
use Rattle.workload.proofs.heading.range.Goals as goal

pub loop-bounds-init : goal.loop-bounds-init
loop-bounds-init c = subst (BoundsSoFar (c.args.depth - 1) c.opens_object.new.reader c.opens_object.new.reader) (sym c.in_ok-bounds.ensures) (no_bounds (c.args.depth - 1) c.opens_object.new.reader)

pub loop-bounds-smaller : goal.loop-bounds-smaller
loop-bounds-smaller c = member_shorter (c.args.depth - 1) c.loop-bounds.reader c.next_key.new.self c.bound.new.reader c.in-Some.name.now c.in_ok-bound.ensures.0 (grind arith) c.in_ok-bound.ensures.1

pub loop-bounds-preserved : goal.loop-bounds-preserved
loop-bounds-preserved c = more_bounds (c.args.depth - 1) c.opens_object.new.reader c.loop-bounds.reader c.next_key.new.self c.bound.new.reader c.in-Some.name.now c.loop-bounds.bounds c.bound.new.bounds c.loop-bounds.invariant (grind arith) c.in_ok-bound.ensures

pub returns : goal.returns
returns c = all_bounds c.args.depth c.args.reader.now c.opens_object.new.reader c.loop-bounds.reader c.next_key.new.self c.loop-bounds.bounds (omega arith) (c.opens_object.ensures (grind arith)) c.loop-bounds.invariant (grind arith)

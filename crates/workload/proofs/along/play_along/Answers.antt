use Rattle.std.proofs.Common.{◌≡◌, ◌-◌, ◌++◌, ◌≤◌, not, List, length, sym, subst, arith, rules}
use Rattle.world.specs.World.{run_of}
use Rattle.workload.specs.declared.script.ScriptEvent.{ScriptEvent}
use Rattle.workload.specs.HasTold.{HasNoted}
use Rattle.workload.proofs.Since.{ArePlaying, none_playing, more_playing, all_played}
use Rattle.workload.proofs.along.play_along.Goals as goal

pub loop-is_open-init : goal.loop-is_open-init
loop-is_open-init c = none_playing c.args.topology.now (c.args.depth - 1) c.opens.new.reader c.args.world.now c.new-marks.result.items c.requires c.new-marks.ensures.items

pub loop-is_open-preserved : goal.loop-is_open-preserved
loop-is_open-preserved c =
    let top = c.args.topology.now in
    let depth = c.args.depth - 1 in
    let w = c.loop-is_open.world in
    let v = c.play_some.new.world in
    let ms = c.loop-is_open.marks.items in
    let ns = c.play_some.new.marks.items in
    let ys = c.in_ok-next.next.events.items in
    let stays : v.top ≡ w.top = search rules in
    let since : (before : List ScriptEvent) → HasNoted w.top before (run_of w) ms → HasNoted w.top (before ++ ys) (run_of v) ns = search rules in
    let le : length ys ≤ c.loop-is_open.left = omega (arith, c.len.ensures) in
    let so_far = subst (ArePlaying top depth c.opens.new.reader c.loop-is_open.reader w ms c.loop-is_open.left) c.loop-is_open-test.true c.loop-is_open.invariant in
    let count : c.len-left.result ≡ length ys = omega (arith, c.len-left.ensures) in
    let last = c.in_ok-next.next.is_last in
    let more = more_playing top depth c.opens.new.reader c.loop-is_open.reader c.next_events.new.reader ys last w v ms ns c.loop-is_open.left so_far c.in_ok-next.ensures.next le stays since in
    subst (λ n. ArePlaying top depth c.opens.new.reader c.next_events.new.reader v ns (c.loop-is_open.left - n) (not last)) (sym count) more

pub returns : goal.returns
returns c =
    let depth = c.args.depth - 1 in
    let so_far = subst (ArePlaying c.args.topology.now depth c.opens.new.reader c.loop-is_open.reader c.loop-is_open.world c.loop-is_open.marks.items c.loop-is_open.left) c.loop-is_open-test.false c.loop-is_open.invariant in
    all_played c.args.topology.now c.args.depth c.args.reader.now c.opens.new.reader c.loop-is_open.reader c.loop-is_open.world c.loop-is_open.marks.items c.loop-is_open.left (omega arith) (c.opens.ensures (grind arith)) so_far

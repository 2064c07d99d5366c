use Rattle.std.proofs.Common.{◌<◌, length, rules}
use Rattle.actors.proofs.Lanes.{idle_more}
use Rattle.actors.proofs.ways.are_idle.Goals as goal

pub loop-place-preserved : goal.loop-place-preserved
loop-place-preserved c =
    let lt : c.loop-place.place < length c.args.ways.now = search rules in
    idle_more c.args.ways.now c.loop-place.place c.index-ways-place.result lt (search rules) c.loop-place.invariant (search rules)

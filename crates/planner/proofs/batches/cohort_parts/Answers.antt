use Rattle.std.proofs.Common.{arith}
use Rattle.std.proofs.lemmas.Grind.{common_steps}
use Rattle.planner.proofs.Kept.{kept_part, home_touched}
use Rattle.planner.proofs.batches.cohort_parts.Goals as goal

pub loop-shard-preserved-in-Continue-branch-2 : goal.loop-shard-preserved-in-Continue-branch-2
loop-shard-preserved-in-Continue-branch-2 c =
    let part = kept_part c.args.shards c.in-Some.shard c.args.changes.now c.in_ok-batch.batch c.args.homes.now c.requires c.in_ok-batch.ensures.exact in
    let touched = home_touched c.args.shards c.in-Some.shard c.args.changes.now c.args.homes.now c.requires in
    grind (arith, common_steps, part, touched)

pub loop-shard-preserved : goal.loop-shard-preserved
loop-shard-preserved c =
    let touched = home_touched c.args.shards c.in-Some.shard c.args.changes.now c.args.homes.now c.requires in
    grind (arith, common_steps, touched)

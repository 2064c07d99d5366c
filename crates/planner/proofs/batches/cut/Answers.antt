use Rattle.std.proofs.Common.{◌≡◌, length, arith}
use Rattle.std.proofs.lemmas.Grind.{common_steps}
use Rattle.planner.proofs.Kept.{alone_part}
use Rattle.planner.proofs.batches.cut.Goals as goal

pub own_part-batch-requires : goal.own_part-batch-requires
own_part-batch-requires c alone =
    let none : length c.in_ok-cohorts.cohorts.items ≡ 0 = grind (arith, common_steps, alone) in
    alone_part c.args.shards c.coordinator_of-shard.result c.as_slice-3.result.now c.in_ok-kept.kept c.in_ok-cohorts.cohorts.items c.requires c.as_slice-3.ensures c.in_ok-cohorts.ensures.exact none

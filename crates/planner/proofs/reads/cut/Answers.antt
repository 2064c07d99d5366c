use Rattle.std.proofs.Common.{◌∙◌, ap, length, arith}
use Rattle.std.proofs.lemmas.List.{length-map}
use Rattle.std.proofs.lemmas.Grind.{common_steps}
use Rattle.planner.specs.Partition.{shard_of}
use Rattle.planner.proofs.Kept.{kept_keys, home_asked}
use Rattle.planner.proofs.reads.cut.Goals as goal

pub keys_of-requires : goal.keys_of-requires
keys_of-requires c = ap length (c.as_slice-homes.ensures.value ∙ c.in_ok-placed.ensures.exact) ∙ length-map c.as_slice-once.result.now (shard_of c.args.shards)

pub loop-shard-preserved-in-Continue-branch-4 : goal.loop-shard-preserved-in-Continue-branch-4
loop-shard-preserved-in-Continue-branch-4 c =
    let once = c.as_slice-once.ensures ∙ c.in_ok-listed.ensures.ok in
    let homes = c.as_slice-homes.ensures.value ∙ c.in_ok-placed.ensures.exact in
    let keys = kept_keys c.args.shards c.in-Some.shard c.args.keys.now c.as_slice-once.result.now c.in_ok-keys.keys c.as_slice-homes.result.now once homes c.in_ok-keys.ensures.exact in
    let some = home_asked c.args.shards c.in-Some.shard c.args.keys.now c.as_slice-once.result.now c.as_slice-homes.result.now once homes in
    grind (arith, common_steps, keys, some)

pub loop-shard-preserved : goal.loop-shard-preserved
loop-shard-preserved c =
    let once = c.as_slice-once.ensures ∙ c.in_ok-listed.ensures.ok in
    let homes = c.as_slice-homes.ensures.value ∙ c.in_ok-placed.ensures.exact in
    let some = home_asked c.args.shards c.in-Some.shard c.args.keys.now c.as_slice-once.result.now c.as_slice-homes.result.now once homes in
    grind (arith, common_steps, some)

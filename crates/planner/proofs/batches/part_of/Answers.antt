use Rattle.std.proofs.Common.{arith}
use Rattle.std.proofs.lemmas.Grind.{common_steps}
use Rattle.column_family.specs.declared.batch.Change.{Change}
use Rattle.planner.proofs.Kept.{kept_yes, kept_no}
use Rattle.planner.proofs.batches.part_of.Goals as goal

pub loop-place-preserved : goal.loop-place-preserved
loop-place-preserved c =
    let yes = λ (x : Change). kept_yes c.args.shard c.args.homes.now c.args.changes.now c.loop-place.place x c.loop-place-test.true c.requires in
    let no = kept_no c.args.shard c.args.homes.now c.args.changes.now c.loop-place.place c.loop-place-test.true c.requires in
    grind (arith, common_steps, yes, no)

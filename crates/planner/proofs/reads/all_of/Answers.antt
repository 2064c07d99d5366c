use Rattle.std.proofs.Common.{ℕ, List, arith}
use Rattle.std.proofs.lemmas.Grind.{common_steps}
use Rattle.planner.proofs.Kept.{kept_yes, kept_no}
use Rattle.planner.proofs.reads.all_of.Goals as goal

pub loop-place-preserved : goal.loop-place-preserved
loop-place-preserved c =
    let yes = λ (k : List ℕ). kept_yes c.args.shard c.args.homes.now c.args.keys.now c.loop-place.place k c.loop-place-test.true c.requires in
    let no = kept_no c.args.shard c.args.homes.now c.args.keys.now c.loop-place.place c.loop-place-test.true c.requires in
    grind (arith, common_steps, yes, no)

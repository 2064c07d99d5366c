use Rattle.std.proofs.Common.{rules, arith}
use Rattle.links.proofs.LaidFrom.{none_by_any, row_laid}
use Rattle.std.proofs.lemmas.Grind.{common_steps}
use Rattle.links.proofs.laying.mesh.Goals as goal

pub loop-from-preserved : goal.loop-from-preserved
loop-from-preserved c =
    let inv = c.loop-from.invariant in
    record {
      count = search rules;
      laid = row_laid c.args.topology.now c.args.capacity c.loop-from.from _ _ inv.laid c.in_ok-lay_from.ensures.laid;
    }

pub loop-from-smaller : goal.loop-from-smaller
loop-from-smaller c = grind (arith, common_steps)

pub loop-from-init : goal.loop-from-init
loop-from-init c =
    let made = c.in_ok-ends in
    record { count = search rules; laid = none_by_any c.args.alloc c.args.topology.now c.args.capacity made.ends.items made.ensures.outgoing made.ensures.incoming }

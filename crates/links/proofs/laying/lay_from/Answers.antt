use Rattle.std.proofs.Common.{◌≡◌, true, false, rules, arith}
use Rattle.links.specs.Links as spec
use Rattle.links.proofs.LaidFrom.{none_below, one_laid, one_passed}
use Rattle.links.proofs.laying.lay_from.Goals.{then-may_exchange+in_ok-lay, else-may_exchange}
use Rattle.std.proofs.lemmas.Grind.{common_steps}
use Rattle.links.proofs.laying.lay_from.Goals as goal

pub loop-to-preserved : goal.loop-to-preserved
loop-to-preserved c =
    let top = c.args.topology.now in
    let inv = c.loop-to.invariant in
    elim c.if-may_exchange.branch [
      | then-may_exchange+in_ok-lay w ↦
          let allowed : spec.may_exchange top c.args.from c.loop-to.to ≡ true = search rules in
          rw w.ends-is (record {
            count = search rules;
            laid = one_laid top c.args.capacity c.args.from c.loop-to.to _ _ _ allowed inv.laid w.in_ok-lay.ensures.laid;
          })
      | else-may_exchange w ↦
          let never : spec.may_exchange top c.args.from c.loop-to.to ≡ false = search rules in
          rw w.ends-is (record {
            count = search rules;
            laid = one_passed top c.args.capacity c.args.from c.loop-to.to _ _ never inv.laid;
          })
    ]

pub loop-to-smaller : goal.loop-to-smaller
loop-to-smaller c = grind (arith, common_steps)

pub returns-clause-count : goal.returns-clause-count
returns-clause-count c = grind (arith, common_steps)

pub loop-to-init : goal.loop-to-init
loop-to-init c = record { count = search rules; laid = none_below c.args.alloc c.args.topology.now c.args.capacity c.args.from c.args.ends.now.items }

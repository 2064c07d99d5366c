use Rattle.std.proofs.Common.{◌≡◌, rules, subst}
use Rattle.threaded.specs.Concluded.{InEachRun}
use Rattle.workload.specs.Audited.{AreFirstHistories}
use Rattle.running.proofs.Audits.{one_more_in_each}
use Rattle.running.proofs.auditing.histories_of.Goals as goal

pub loop-dc-preserved : goal.loop-dc-preserved
loop-dc-preserved c =
    rw c.in_ok-push.ensures.items
    (one_more_in_each c.args.concluded.now.top c.args.concluded.now.seats c.loop-dc.dc c.loop-dc.histories.items c.in_ok-history.field-0 c.loop-dc.invariant c.in_ok-history.ensures.listed)

pub returns-clause-each : goal.returns-clause-each
returns-clause-each c =
    let v = c.args.concluded.now in
    let at : c.loop-dc.dc ≡ v.top.dcs = search rules in
    subst (λ n. InEachRun v.top v.seats (λ w. AreFirstHistories v.top w n c.loop-dc.histories.items)) at c.loop-dc.invariant

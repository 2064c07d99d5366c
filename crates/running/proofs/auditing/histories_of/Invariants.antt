use Rattle.threaded.specs.Concluded.{InEachRun}
use Rattle.workload.specs.Audited.{AreFirstHistories}
use Rattle.running.proofs.auditing.histories_of.Given as goal

-- those of the data centres before the next
abbrev pub invariant-loop-dc : goal.invariant-loop-dc
invariant-loop-dc l = InEachRun l.concluded.top l.concluded.seats (λ w. AreFirstHistories l.concluded.top w l.dc l.histories.items)

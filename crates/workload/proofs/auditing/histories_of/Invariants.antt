use Rattle.world.specs.World.{run_of}
use Rattle.workload.specs.Audited.{AreFirstHistories}
use Rattle.workload.proofs.auditing.histories_of.Given as goal

-- those of the data centres before the next
abbrev pub invariant-loop-dc : goal.invariant-loop-dc
invariant-loop-dc l = AreFirstHistories l.world.top (run_of l.world) l.dc l.histories.items

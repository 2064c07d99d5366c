use Rattle.workload.proofs.Audits.{audit_is_clean}
use Rattle.workload.proofs.auditing.audit_of.Goals as goal

pub returns-clause-right : goal.returns-clause-right
returns-clause-right g c =
    audit_is_clean c.audit.result c.args.world.now.top c.args.world.now.events c.in_ok-histories.histories.items c.as_slice.result.now c.transcript.result.now
    c.topology-limits.ensures.limits c.in_ok-histories.ensures.each c.as_slice.ensures.value c.transcript.ensures.listed c.audit.ensures.wrong

use Rattle.running.proofs.Audits.{audit_in_each, audit_is_clean}
use Rattle.running.proofs.auditing.audit_of.Goals as goal

pub returns-clause-audit : goal.returns-clause-audit
returns-clause-audit g c =
    audit_in_each c.audit.result c.args.concluded.now.top c.args.concluded.now.seats c.in_ok-histories.histories.items c.as_slice.result.now c.as_slice-2.result.now c.transcript.result
    c.in_ok-histories.ensures.each c.as_slice.ensures.value (rw (← c.in_ok-completed.ensures.same) c.as_slice-2.ensures.value) c.transcript.ensures.listed c.audit.ensures.reads c.audit.ensures.wrong

pub returns-clause-right : goal.returns-clause-right
returns-clause-right g c =
    audit_is_clean c.audit.result c.args.concluded.now.top c.args.concluded.now.seats c.in_ok-histories.histories.items c.as_slice.result.now c.as_slice-2.result.now c.transcript.result
    c.transcript.ensures.run c.in_ok-histories.ensures.each c.as_slice.ensures.value (rw (← c.in_ok-completed.ensures.same) c.as_slice-2.ensures.value) c.transcript.ensures.listed c.audit.ensures.wrong

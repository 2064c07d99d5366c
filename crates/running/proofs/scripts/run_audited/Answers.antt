use Rattle.running.proofs.Audits.{told_audited}
use Rattle.running.proofs.scripts.run_audited.Goals as goal

pub returns-clause-told : goal.returns-clause-told
returns-clause-told g c =
    told_audited c.args.script.now c.in_ok-transcript.concluded c.in_ok-transcript.transcript c.in_ok-found.field-0 c.in_ok-transcript.ensures.told c.in_ok-found.ensures.audit

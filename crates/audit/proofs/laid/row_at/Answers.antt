use Rattle.audit.specs.Laid.{all_applied}
use Rattle.audit.proofs.NormalForms.{row_by_parts}
use Rattle.audit.proofs.laid.row_at.Goals as goal

pub returns-clause-ok : goal.returns-clause-ok
returns-clause-ok c = λ h laid.
    let keeps = laid.applied.keeps in
    row_by_parts c.args.read.now h laid.order c.args.key.now c.args.time c.in_ok-row.row c.in_ok-part.part laid.same keeps.apart c.in_ok-row.ensures
    (c.in_ok-part.ensures.right (all_applied laid.order) keeps)

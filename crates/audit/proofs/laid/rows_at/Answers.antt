use Rattle.std.proofs.Common.{rules, ◌∙◌, ap, map}
use Rattle.std.proofs.lemmas.List.{take_all}
use Rattle.table.specs.Meaning.{shown_row}
use Rattle.column_family.specs.History.{up_to}
use Rattle.audit.proofs.Stamps.{mapped_more}
use Rattle.audit.proofs.laid.rows_at.Goals as goal

pub returns-in_err-row_at-clause-memory : goal.returns-in_err-row_at-clause-memory
returns-in_err-row_at-clause-memory c = λ h laid. search (rules, c.in_err-row_at.ensures.memory h laid)

pub loop-key-preserved : goal.loop-key-preserved
loop-key-preserved c = λ h laid.
    mapped_more (shown_row c.args.read.now (up_to c.args.time h)) c.args.keys.now c.loop-key.key-index c.key-item.result c.loop-key.answer c.push.new.self
    c.in_ok-row_at.field-0 c.loop-key-test.true c.key-item.is (c.loop-key.invariant h laid) (c.in_ok-row_at.ensures.ok h laid) c.in_ok-push.ensures.ok

pub returns-clause-ok : goal.returns-clause-ok
returns-clause-ok c = λ h laid.
    c.loop-key.invariant h laid
    ∙ ap (map (shown_row c.args.read.now (up_to c.args.time h))) (take_all c.loop-key.key-index c.args.keys.now c.loop-key-test.false)

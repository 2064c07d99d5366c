use Rattle.std.proofs.Common.{◌≡◌, List, Some, None, rules, subst}
use Rattle.column_family.specs.declared.batch.Change.{Change}
use Rattle.pending.specs.Marked.{AreCleared}
use Rattle.write_txn.specs.Ledger.{state_of, state_applied, part_in}
use Rattle.write_txn.proofs.Clearing.{applied_marks}
use Rattle.write_txn.proofs.StepMarks.{same_marks, unapplied}
use Rattle.write_txn.proofs.applying.commit_part.Goals as goal

pub returns-in_default-clause-marks : goal.returns-in_default-clause-marks
returns-in_default-clause-marks c =
    let s = state_of c.args.ledger.now c.args.txn in
    let none : part_in s ≡ None = search rules in
    same_marks c.args.marks.now c.args.ledger.now c.finish.new.self c.args.txn (state_applied s) c.requires.marks c.finish.ensures.applied (unapplied s none)

pub returns-in-Some-clause-marks : goal.returns-in-Some-clause-marks
returns-in-Some-clause-marks c =
    let p = c.in-Some.prepared in
    let is : part_in (state_of c.args.ledger.now c.args.txn) ≡ Some p = search rules in
    let cleared : AreCleared c.args.marks.now c.clear_rows.new.self p.part.batch c.args.txn = search rules in
    applied_marks c.args.marks.now c.clear_rows.new.self c.args.ledger.now c.finish.new.self c.args.txn p c.requires.marks is cleared c.finish.ensures.applied

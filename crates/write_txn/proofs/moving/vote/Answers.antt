use Rattle.std.proofs.Common.{◌≡◌, ap, Option, Some, None, rules}
use Rattle.std.specs.Prelude.{is_some}
use Rattle.pending.specs.Marked.{AreCleared}
use Rattle.txn_state.specs.Ballot.{CompleteValue}
use Rattle.write_txn.specs.Ledger.{state_of, state_voted, completed_by}
use Rattle.write_txn.proofs.Clearing.{voted_marks}
use Rattle.write_txn.proofs.StepMarks.{same_marks, unfinished_vote}
use Rattle.write_txn.proofs.moving.vote.Goals as goal

pub returns-in_default-clause-marks : goal.returns-in_default-clause-marks
returns-in_default-clause-marks c =
    let l = c.args.ledger.now in
    let s = state_of l c.args.txn in
    let none : completed_by c.args.node s ≡ None = search rules in
    same_marks c.args.marks.now l c.vote-complete.new.self c.args.txn (state_voted c.args.me c.args.commit c.args.node s) c.requires c.vote-complete.ensures.voted (unfinished_vote c.args.me c.args.commit c.args.node s (ap (λ (o : Option CompleteValue). is_some o) none))

pub returns-in-Some-clause-marks : goal.returns-in-Some-clause-marks
returns-in-Some-clause-marks c =
    let x = c.in-Some.complete in
    let is : completed_by c.args.node (state_of c.args.ledger.now c.args.txn) ≡ Some x = search rules in
    let cleared : AreCleared c.args.marks.now c.clear_rows.new.self x.own.part.batch c.args.txn = search rules in
    voted_marks c.args.marks.now c.clear_rows.new.self c.args.ledger.now c.vote-complete.new.self c.args.txn c.args.me c.args.commit c.args.node x c.requires is cleared c.vote-complete.ensures.voted

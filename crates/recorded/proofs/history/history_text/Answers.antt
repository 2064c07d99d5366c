use Rattle.std.proofs.Common.{rules}
use Rattle.std.proofs.lemmas.Result.{err_from_is_err_and}
use Rattle.recorded.proofs.Recordings.{ends, unwritten}
use Rattle.recorded.proofs.history.history_text.Goals as goal

pub returns-in_err-recorded-clause-refused : goal.returns-in_err-recorded-clause-refused
returns-in_err-recorded-clause-refused c =
    let p = err_from_is_err_and c.from_residual-in_err-recorded.result c.from_residual-in_err-recorded.ensures.1 in
    rw (p.1, p.2) (ends c.args.input.now c.in_ok-script.script c.in_err-recorded.field-0.0 (search rules) c.in_err-recorded.ensures.faults)

pub returns-in_err-written-clause-refused : goal.returns-in_err-written-clause-refused
returns-in_err-written-clause-refused c =
    let p = err_from_is_err_and c.from_residual-in_err-written.result c.from_residual-in_err-written.ensures.1 in
    rw (p.1, p.2) (unwritten c.args.input.now c.in_ok-script.script c.in_ok-recorded.recorded c.in_err-written.field-0.0 (search rules) c.in_ok-recorded.ensures.of_run c.in_err-written.ensures.faults)

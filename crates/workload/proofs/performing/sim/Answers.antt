use Rattle.std.proofs.Common.{rules}
use Rattle.std.proofs.lemmas.Result.{err_from_is_err_and}
use Rattle.workload.proofs.Refused.{ends_early}
use Rattle.workload.proofs.performing.sim.Goals as goal

pub returns-in_err-transcript-clause-refused : goal.returns-in_err-transcript-clause-refused
returns-in_err-transcript-clause-refused c =
    let p = err_from_is_err_and c.from_residual-in_err-transcript.result c.from_residual-in_err-transcript.ensures.1 in
    rw (p.1, p.2) (ends_early c.args.input.now c.in_ok-script.script c.in_err-transcript.field-0.0 (search rules) c.in_err-transcript.ensures.faults)

pub returns-in_default-clause-refused : goal.returns-in_default-clause-refused
returns-in_default-clause-refused c = search rules

use Rattle.std.proofs.Common.{rules}
use Rattle.std.proofs.lemmas.Result.{err_from_is_err_and}
use Rattle.workload.proofs.Refused.{ends_early}
use Rattle.tracing.proofs.Tracings.{is_text_for}
use Rattle.tracing.proofs.performing.trace_bytes.Goals as goal

pub returns-in_err-traced-clause-refused : goal.returns-in_err-traced-clause-refused
returns-in_err-traced-clause-refused c =
    let p = err_from_is_err_and c.from_residual-in_err-traced.result c.from_residual-in_err-traced.ensures.1 in
    rw (p.1, p.2) (ends_early c.args.input.now c.in_ok-script.script c.in_err-traced.field-0.0 (search rules) c.in_err-traced.ensures.faults)

pub returns-in_default-clause-refused : goal.returns-in_default-clause-refused
returns-in_default-clause-refused c = search rules

pub returns-clause-text : goal.returns-clause-text
returns-clause-text c =
    is_text_for c.args.input.now c.in_ok-script.script c.in_ok-traced.traced.text.items (search rules) c.in_ok-traced.ensures.text

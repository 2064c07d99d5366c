use Rattle.std.proofs.Common.{rules, refl}
use Rattle.std.proofs.lemmas.Result.{err_from_is_err_and}
use Rattle.workload.specs.declared.tail.Tail.TheVariants as tail
use Rattle.workload.specs.Audited.{told_text}
use Rattle.workload.proofs.Refused.{ends_early}
use Rattle.workload.proofs.auditing.sim_audited.Goals as goal

pub returns-in_err-found-clause-refused : goal.returns-in_err-found-clause-refused
returns-in_err-found-clause-refused g c =
    let p = err_from_is_err_and c.from_residual-in_err-found.result c.from_residual-in_err-found.ensures.1 in
    rw (p.1, p.2) (ends_early c.args.input.now c.in_ok-script.script c.in_err-found.field-0.0 (search rules) c.in_err-found.ensures.faults)

pub returns-in_default-clause-refused : goal.returns-in_default-clause-refused
returns-in_default-clause-refused g c = search rules

pub returns-clause-text : goal.returns-clause-text
returns-clause-text g c =
    let found = c.in_ok-found.found in
    let is = c.in_ok-found.ensures in (
      c.in_ok-script.script,
      found.0,
      found.1,
      found.2,
      (search rules),
      record { told = is.told; quiet = is.quiet; audit = is.audit; right = is.right },
      refl {a = told_text found.0 (tail.AuditedRun found.1 found.2)},
    )

use Rattle.std.proofs.Common.{◌≡◌, Err, rules}
use Rattle.durable.specs.declared.error.OpenError.TheVariants.{Unrecovered}
use Rattle.durable.proofs.Opened.{refused_first, damaged_inside}
use Rattle.durable.proofs.opening.reopen.Goals as goal

pub returns-in_err-records-clause-refused : goal.returns-in_err-records-clause-refused
returns-in_err-records-clause-refused g c =
    let same : c.from_residual.result ≡ Err (Unrecovered c.in_err-records.field-0.0) = search rules in
    refused_first c.args.topology.now c.args.secret c.args.bytes.now (g.D.Disk.seen c.args.disk.now) c.in_err-records.field-0.0 c.from_residual.result same c.requires.seen (λ at is. (c.in_err-records.ensures.damaged at is).1)

pub returns-in_err-records-clause-damaged : goal.returns-in_err-records-clause-damaged
returns-in_err-records-clause-damaged g c = λ at is.
    let same : c.from_residual.result ≡ Err (Unrecovered c.in_err-records.field-0.0) = search rules in
    (c.in_err-records.ensures.damaged at (damaged_inside at c.in_err-records.field-0.0 c.from_residual.result same is)).0

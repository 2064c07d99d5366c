use Rattle.std.proofs.Common.{arith}
use Rattle.site_ledger.proofs.Fields.{asked_read}
use Rattle.site_ledger.proofs.reading.asked.Goals as goal

pub returns-clause-read : goal.returns-clause-read
returns-clause-read c =
    let front = c.in-Some.ensures.cases in
    asked_read c.args.fields.now c.in-Some.session.now c.in-Some.frame.now c.from_be_bytes.result c.in_ok-op.op c.requested.result
    (record { bytes = λ i. omega (arith, c.type_inv.fields i); long = omega (arith, front.2); first = front.0; others = front.1; number = c.from_be_bytes.ensures })
    c.from_be_bytes.type_inv c.in_ok-op.ensures.some c.in_ok-op.ensures.none c.requested.ensures

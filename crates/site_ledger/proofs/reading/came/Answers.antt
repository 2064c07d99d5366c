use Rattle.std.proofs.Common.{arith}
use Rattle.site_ledger.proofs.Fields.{came_read}
use Rattle.site_ledger.proofs.reading.came.Goals as goal

pub returns-clause-read : goal.returns-clause-read
returns-clause-read c =
    let front = c.in-Some.ensures.cases in
    came_read c.args.fields.now c.in-Some.from.now c.in-Some.parcel.now c.from_be_bytes.result c.in_ok-envelope.envelope c.received.result
    (record { bytes = λ i. omega (arith, c.type_inv.fields i); long = omega (arith, front.2); first = front.0; others = front.1; number = c.from_be_bytes.ensures })
    c.from_be_bytes.type_inv c.in_ok-envelope.ensures.some c.in_ok-envelope.ensures.none c.received.ensures

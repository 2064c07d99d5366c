use Rattle.std.proofs.Common.{arith}
use Rattle.site_ledger.proofs.Fields.{met_read}
use Rattle.site_ledger.proofs.reading.met.Goals as goal

pub returns : goal.returns
returns c =
    let front = c.in_ok-dc.ensures.cases in
    let last = c.in-Ok.ensures.1 in (
      met_read c.args.fields.now c.in_ok-dc.dc.now c.in_ok-dc.rest.now c.in-Ok.incarnation c.from_be_bytes.result
          (record { bytes = λ i. omega (arith, c.type_inv.fields i); long = omega (arith, front.2); first = front.0; others = front.1; number = c.from_be_bytes.ensures })
          (omega (arith, front.2, last.long)) last.same,
      c.from_be_bytes.type_inv,
    )

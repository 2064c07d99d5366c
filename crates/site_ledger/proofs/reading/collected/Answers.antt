use Rattle.std.proofs.Common.{arith}
use Rattle.site_ledger.proofs.Fields.{collected_read}
use Rattle.site_ledger.proofs.reading.collected.Goals as goal

pub returns : goal.returns
returns c =
    let front = c.in_ok-shard.ensures.cases in
    let last = c.in-Ok.ensures.1 in (
      collected_read c.args.fields.now c.in_ok-shard.shard.now c.in_ok-shard.time.now c.in-Ok.time c.from_be_bytes-2.result c.in_ok-time.time c.from_be_bytes.result
          (record { bytes = λ i. omega (arith, c.type_inv.fields i); long = omega (arith, front.2); first = front.0; others = front.1; number = c.from_be_bytes-2.ensures })
          (omega (arith, front.2, last.long)) last.same c.from_be_bytes.ensures c.in_ok-time.ensures.0 c.in_ok-time.ensures.1,
      c.from_be_bytes-2.type_inv,
    )

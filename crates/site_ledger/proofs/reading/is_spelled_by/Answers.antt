use Rattle.std.proofs.Common.{arith}
use Rattle.site_ledger.proofs.Parcels.{short_parcel, long_parcel}
use Rattle.site_ledger.proofs.reading.is_spelled_by.Goals as goal

pub returns-then-parcel-le-SHORT-clause-spelled : goal.returns-then-parcel-le-SHORT-clause-spelled
returns-then-parcel-le-SHORT-clause-spelled c =
    short_parcel c.args.parcel.now c.args.envelope.now (λ i. omega (arith, c.type_inv.parcel i)) c.requires c.if-parcel-le-SHORT.true

pub returns-in_default-clause-spelled : goal.returns-in_default-clause-spelled
returns-in_default-clause-spelled c =
    long_parcel c.args.parcel.now c.args.envelope.now (λ i. omega (arith, c.type_inv.parcel i)) c.requires c.in_default.field-0.items c.in_default.ensures.ok

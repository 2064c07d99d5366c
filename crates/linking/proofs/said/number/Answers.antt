use Rattle.std.proofs.Common.{◌≡◌, take, drop, arith}
use Rattle.std.specs.Int.{w64, from_be_bytes}
use Rattle.linking.proofs.Saids.{number_bytes}
use Rattle.linking.proofs.said.number.Goals as goal

pub returns : goal.returns
returns c =
    let is : c.from_be_bytes.result ≡ from_be_bytes w64 (take 8 (drop 1 c.args.bytes.now)) = cc in
    number_bytes c.args.bytes.now c.from_be_bytes.result (λ i. omega (arith, c.type_inv.bytes i)) c.requires is

use Rattle.std.proofs.Common.{◌+◌, ◌-◌, take, drop, ap, arith}
use Rattle.peers.proofs.Streams.{first_body}
use Rattle.peers.proofs.frames.body_in.Goals as goal

pub returns-clause-first : goal.returns-clause-first
returns-clause-first c = λ most e.
    first_body most c.args.bytes.now c.args.count (take (4 + c.args.count - 4) (drop 4 c.args.bytes.now)) (λ i. omega (arith, c.type_inv.bytes i)) e (ap (λ n. take n (drop 4 c.args.bytes.now)) (omega arith))

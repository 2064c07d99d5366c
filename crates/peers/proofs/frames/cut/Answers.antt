use Rattle.std.proofs.Common.{◌≡◌, ◌∙◌, sym, take, drop, arith, rules}
use Rattle.peers.proofs.Streams.{cut_some, some_of}
use Rattle.peers.proofs.frames.cut.Goals as goal

pub returns-in_ok-to_vec-in-Some-clause-some : goal.returns-in_ok-to_vec-in-Some-clause-some
returns-in_ok-to_vec-in-Some-clause-some c =
    let body : c.in_ok-to_vec-in-Some.field-0.items ≡ take c.in-Some.length (drop 4 c.args.bytes.now) = search rules in
    cut_some c.args.most c.args.bytes.now c.in-Some.length c.in_ok-to_vec-in-Some.field-0.items (λ i. omega (arith, c.type_inv.bytes i))
    (sym c.look.ensures.length ∙ c.in_ok-look.was ∙ some_of _ _ c.in-Some.is) body

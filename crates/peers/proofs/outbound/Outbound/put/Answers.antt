use Rattle.std.proofs.Common.{arith}
use Rattle.std.proofs.lemmas.List.{length_push}
use Rattle.peers.proofs.Outbounds.{bytes_put}
use Rattle.peers.proofs.outbound.Outbound.put.Goals as goal

pub invariant_of-self-2 : goal.invariant_of-self-2
invariant_of-self-2 c =
    let kept = c.self.inside.kept.items in
    let more = bytes_put kept c.args.parcel in
    let before = c.self.invariant in
    rw c.in_ok-push_back.ensures.items (omega (arith, more, before.0, c.in-Some.ensures, c.args.parcel.ok), omega (arith, before.1, length_push kept c.args.parcel, c.if-number.false, c.len.ensures, c.self.inside.kept.ok))

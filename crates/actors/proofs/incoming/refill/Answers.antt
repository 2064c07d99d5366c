use Rattle.std.proofs.Common.{◌≡◌, None, subst, rules}
use Rattle.actors.specs.Seats.{Received}
use Rattle.actors.proofs.incoming.refill.Goals as goal

pub returns-then-is_none-clause-received : goal.returns-then-is_none-clause-received
returns-then-is_none-clause-received c = λ journal apart kept.
    let none : c.args.held.now ≡ None = search rules in
    rw c.hold.ensures (c.take_next-taken.ensures.received journal apart (subst (λ o. Received journal c.args.incoming.now.items o) none kept))

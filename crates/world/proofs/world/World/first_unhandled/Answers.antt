use Rattle.std.proofs.Common.{sym}
use Rattle.world.proofs.in_code.Held.{first_is, first_none, told_quiet}
use Rattle.world.proofs.promised.Promised as promised
use Rattle.world.proofs.world.World.first_unhandled.Goals as goal

pub returns-then-first-sent-clause-exact : goal.returns-then-first-sent-clause-exact
returns-then-first-sent-clause-exact c =
    first_is c.args.self.now c.self.inside.actors c.self.inside.log c.first-first.result c.sent.result c.self.invariant (sym c.self.view_is) c.first-first.ensures c.sent.ensures c.if-first-sent.true

pub returns-else-first-sent-clause-exact : goal.returns-else-first-sent-clause-exact
returns-else-first-sent-clause-exact c =
    first_none c.args.self.now c.self.inside.actors c.self.inside.log c.first-first.result c.sent.result c.self.invariant (sym c.self.view_is) c.first-first.ensures c.sent.ensures c.if-first-sent.false

pub returns-else-first-sent-clause-done : goal.returns-else-first-sent-clause-done
returns-else-first-sent-clause-done c =
    λ e.
    promised.settled c.args.self.now (promised.is_of c.args.self.now c.self.inside.actors c.self.inside.log c.self.invariant c.self.view_is)
    ((told_quiet c.args.self.now.top c.args.self.now.events).0 (sym (returns-else-first-sent-clause-exact c)))

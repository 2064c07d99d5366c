use Rattle.std.proofs.Common.{Option, inl, inr, subst}
use Rattle.messages.specs.declared.outcome.Outcome.{Outcome}
use Rattle.world.specs.World.{run_of}
use Rattle.world.proofs.envelopes.Addresses.{stands}
use Rattle.service.specs.Port.{CameTo}
use Rattle.service.proofs.Requests.{left_open_now}
use Rattle.service.proofs.asking.ask_telling.Goals as goal

pub returns-in-Ok-None-clause-asks : goal.returns-in-Ok-None-clause-asks
returns-in-Ok-None-clause-asks g c =
    inr (inl (left_open_now (g.A.Deliveries.world c.args.world.now) (g.A.Deliveries.world c.submit.new.world) (g.A.Deliveries.world c.drain.new.world) (g.A.Deliveries.world c.outcome.new.self)
    c.args.session c.args.op c.in-Ok.number c.in-Ok.ensures.topology c.in-Ok.ensures.ok c.in_default.field-0 c.in_default.ensures.topology c.in_default.ensures.ok
    c.outcome.ensures.same (stands (g.A.Deliveries.world c.args.world.now).top c.topology-limits.ensures.limits).some c.in_default.ensures.nothing_left
    (subst (λ (o : Option Outcome). CameTo (run_of (g.A.Deliveries.world c.drain.new.world)) c.args.session c.in-Ok.number o) c.in-Ok-None.field-0-is c.in-Ok-None.ensures.came)))

use Rattle.std.proofs.Common.{refl}
use Rattle.world.proofs.envelopes.Addresses.{stands}
use Rattle.service.proofs.Heard.{heard_first}
use Rattle.service.proofs.awaited.AwaitedAsked.submit.Goals as goal

pub returns-in-Ok-clause-knows : goal.returns-in-Ok-clause-knows
returns-in-Ok-clause-knows c = record {
  session_is = refl;
  number_is = refl;
  came = heard_first c.args.self.now.world.now c.submit.new.self c.args.session c.in-Ok.number c.hear.result c.in-Ok.ended
      (stands c.args.self.now.world.now.top c.topology-limits.ensures.limits).some c.in-Ok.ensures.number c.hear.ensures c.in-Ok.ensures.ended;
}

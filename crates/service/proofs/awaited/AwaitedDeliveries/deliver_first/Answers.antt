use Rattle.std.proofs.Common.{◌≡◌, refl, subst}
use Rattle.world.specs.World.{run_of}
use Rattle.world.proofs.quiet.Unhandled.{finds_unhandled}
use Rattle.service.specs.Awaited.{outcome_heard}
use Rattle.service.proofs.Heard.{heard_of}
use Rattle.service.proofs.awaited.AwaitedDeliveries.deliver_first.Goals as goal

pub returns-then-is_quiet-clause-done : goal.returns-then-is_quiet-clause-done
returns-then-is_quiet-clause-done c = λ same. (
  (finds_unhandled (run_of c.args.self.now.world.now)).none.1 (c.is_quiet.ensures.exact.0 c.if-is_quiet.true),
  c.is_quiet.ensures.done c.if-is_quiet.true,
  refl,
)

pub returns-clause-knows : goal.returns-clause-knows
returns-clause-knows c = λ session number known. record {
  session_is = known.session_is;
  number_is = known.number_is;
  came = heard_of c.args.self.now.world.now c.deliver.new.self c.args.self.now.session c.args.self.now.number c.args.self.now.outcome c.hear.result c.in_ok-ended.ended
      (subst (λ had. c.hear.result ≡ outcome_heard c.args.self.now.session c.args.self.now.number had c.in_ok-ended.ended) c.take-had.ensures.value c.hear.ensures)
      c.in_ok-ended.ensures.ended session number known.session_is known.number_is known.came;
}

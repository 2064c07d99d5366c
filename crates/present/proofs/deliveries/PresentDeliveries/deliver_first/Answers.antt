use Rattle.std.proofs.Common.{refl}
use Rattle.world.specs.World.{run_of}
use Rattle.world.proofs.quiet.Unhandled.{finds_unhandled}
use Rattle.present.proofs.deliveries.PresentDeliveries.deliver_first.Goals as goal

pub returns-then-is_quiet-clause-done : goal.returns-then-is_quiet-clause-done
returns-then-is_quiet-clause-done c = λ e. (
  (finds_unhandled (run_of c.args.self.now)).none.1 (c.is_quiet.ensures.exact.0 c.if-is_quiet.true),
  c.is_quiet.ensures.done c.if-is_quiet.true,
  refl,
)

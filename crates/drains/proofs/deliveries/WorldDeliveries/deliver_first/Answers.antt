use Rattle.std.proofs.Common.{sym, ◌∙◌}
use Rattle.world.specs.World.{run_of}
use Rattle.drains.proofs.Underway.{sent_unhandled}
use Rattle.drains.proofs.deliveries.WorldDeliveries.deliver_first.Goals as goal

pub deliver-requires : goal.deliver-requires
deliver-requires c = sent_unhandled (run_of c.args.self.now) c.in-Some.number (sym c.first_unhandled.ensures.exact ∙ c.in-Some.is)

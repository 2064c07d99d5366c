use Rattle.std.proofs.Common.{◌≡◌, ◌↔◌, true, ap, subst}
use Rattle.world.specs.World.{WorldValue, run_of}
use Rattle.world.specs.Quiet.{IsQuiet}
use Rattle.durable.specs.Settled.{DurableValue}
use Rattle.durable.proofs.durable.DurableHoused.is_quiet.Goals as goal

pub returns : goal.returns
returns g c = subst (λ (v : WorldValue). (c.is_quiet.result ≡ true) ↔ IsQuiet (run_of v)) (ap (λ (d : DurableValue g.row.D.Denot). d.world) c.self.view_is) c.is_quiet.ensures.exact

use Rattle.std.proofs.Common.{ap, subst, sym}
use Rattle.world.specs.World.{WorldValue, run_of}
use Rattle.world.specs.Quiet.{IsQuiet}
use Rattle.durable.specs.Settled.{DurableValue}
use Rattle.durable.proofs.durable.DurableHoused.rest.Goals as goal

pub rest_keeping-unrested-requires : goal.rest_keeping-unrested-requires
rest_keeping-unrested-requires g c = subst (λ (v : WorldValue). IsQuiet (run_of v)) (sym (ap (λ (d : DurableValue g.row.D.Denot). d.world) c.self.view_is)) c.requires

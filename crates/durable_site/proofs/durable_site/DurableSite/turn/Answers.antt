use Rattle.std.proofs.Common.{subst, IfErr}
use Rattle.site.specs.Turns.{IsTurnRefused}
use Rattle.durable_site.specs.Kept.{DurableSiteValue}
use Rattle.durable_site.proofs.durable_site.DurableSite.turn.Goals as goal

pub returns-in-Some-clause-refused : goal.returns-in-Some-clause-refused
returns-in-Some-clause-refused g c =
    subst (λ (d : DurableSiteValue g.row.D.Denot). IfErr c.turn_keeping.result (λ e. IsTurnRefused g.M.Machine.refuses d.site e c.turn_keeping.new.site)) c.self.view_is c.turn_keeping.ensures.refused

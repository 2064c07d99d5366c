use Rattle.site.specs.Steps.{steps}
use Rattle.durable_site.proofs.Kept.{given_still, keeps_still}
use Rattle.durable_site.proofs.durable_site.DurableSite.give.Goals as goal

pub invariant_of-self : goal.invariant_of-self
invariant_of-self g c =
    let old = c.self.inside.site in
    let new = c.give.new.self in
    keeps_still g.D.Disk.seen g.D.Disk.may_leave g.D.Disk.failed c.self.inside.log c.self.inside.identity (steps old.story) (steps new.story) (given_still old new c.give.result c.give.ensures.given c.give.ensures.same) c.self.invariant

use Rattle.site_port.proofs.Kept.{given_holds}
use Rattle.site_port.proofs.sessions.SiteSessions.give.Goals as goal

pub invariant_of-self : goal.invariant_of-self
invariant_of-self g c =
    let s = c.self.inside in
    given_holds s.site.site c.give.new.self.site c.give.result s.sessions.items s.waiting.items s.late.items c.self.invariant c.give.ensures.given c.give.ensures.same

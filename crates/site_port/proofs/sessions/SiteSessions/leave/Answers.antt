use Rattle.site_port.proofs.Gone.{holds_left}
use Rattle.site_port.proofs.sessions.SiteSessions.leave.Goals as goal

pub invariant_of-self : goal.invariant_of-self
invariant_of-self g c =
    let s = c.self.inside in
    holds_left s.site.site s.sessions.items s.waiting.items c.leave_all.new.waiting.items s.late.items c.args.places.now c.self.invariant c.leave_all.ensures

use Rattle.site_port.proofs.Kept.{heard_holds}
use Rattle.site_port.proofs.sessions.SiteSessions.hear.Goals as goal

pub invariant_of-self : goal.invariant_of-self
invariant_of-self g c =
    let s = c.self.inside in
    heard_holds s.site.site c.hear.new.self.site c.args.from c.args.envelope c.hear.result s.sessions.items s.waiting.items s.late.items c.self.invariant c.hear.ensures.heard c.hear.ensures.same

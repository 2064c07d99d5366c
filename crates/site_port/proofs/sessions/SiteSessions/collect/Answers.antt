use Rattle.site_port.proofs.Collections.{collection_holds}
use Rattle.site_port.proofs.sessions.SiteSessions.collect.Goals as goal

pub invariant_of-self : goal.invariant_of-self
invariant_of-self g c =
    let s = c.self.inside in
    collection_holds c.args.times.now s.site.site c.collect_all.new.site.site c.collect_all.result s.sessions.items s.waiting.items s.late.items c.collect_all.new.late.items c.self.invariant c.collect_all.ensures.collected c.collect_all.ensures.broken

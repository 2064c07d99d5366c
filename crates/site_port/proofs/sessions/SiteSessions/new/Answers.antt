use Rattle.std.proofs.Common.{arith}
use Rattle.site_port.proofs.Kept.{new_holds}
use Rattle.site_port.proofs.sessions.SiteSessions.new.Goals as goal

pub invariant_of-result : goal.invariant_of-result
invariant_of-result g c =
    let made = c.in-Ok-free_places.ensures.made in
    new_holds c.args.site.site c.in-Ok.sessions.items c.in-Ok-free_places.waiting.items c.new.result.items c.in-Ok.ensures.made (omega (arith, made.0, c.len.ensures, c.in-Ok.sessions.ok.0)) made.1 c.new.ensures.items

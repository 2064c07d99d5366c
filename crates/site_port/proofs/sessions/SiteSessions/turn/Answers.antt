use Rattle.std.proofs.Common.{None}
use Rattle.site_port.proofs.Kept.{turns_hold, stopped_holds}
use Rattle.site_port.proofs.sessions.SiteSessions.turn.Goals as goal

pub invariant_of-self : goal.invariant_of-self
invariant_of-self g c =
    let s = c.self.inside in
    stopped_holds g.M.Machine.refuses None s.site.site c.take_turns.new.site.site s.sessions.items s.waiting.items s.late.items c.take_turns.new.late.items _ c.self.invariant c.in_err-_none.ensures.stopped

pub invariant_of-self-2 : goal.invariant_of-self-2
invariant_of-self-2 g c =
    let s = c.self.inside in
    turns_hold None c.args.most s.site.site c.take_turns.new.site.site s.sessions.items s.waiting.items s.late.items c.take_turns.new.late.items _ c.self.invariant c.in_ok-_none.ensures.took

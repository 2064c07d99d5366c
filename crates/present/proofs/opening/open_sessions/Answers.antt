use Rattle.std.proofs.Common.{arith, subst, sym, ◌+◌}
use Rattle.world.proofs.in_code.Beginning.{AreFirst, one_more}
use Rattle.present.proofs.Opened.{AtFirst}
use Rattle.present.proofs.opening.open_sessions.Goals as goal

pub loop-session-preserved : goal.loop-session-preserved
loop-session-preserved c = (
  c.loop-session.invariant.0,
  (let room = c.loop-session.invariant.1 in let same = c.push_reserved.ensures.capacity in omega arith),
  subst (AreFirst (AtFirst c.args.topology.now) (c.loop-session.session + 1)) (sym c.push_reserved.ensures.items)
      (one_more (AtFirst c.args.topology.now) c.loop-session.session c.loop-session.sessions.items c.in-Ok.session c.loop-session.invariant.2 c.in-Ok.ensures.ok),
)

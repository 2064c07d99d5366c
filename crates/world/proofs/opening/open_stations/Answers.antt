use Rattle.std.proofs.Common.{le_trans, subst, sym, ◌+◌}
use Rattle.world.proofs.in_code.Beginning.{AreFirst, SitsFirst, one_more}
use Rattle.world.proofs.opening.open_stations.Goals as goal

pub loop-session-preserved : goal.loop-session-preserved
loop-session-preserved c = (
  c.loop-session.invariant.0,
  le_trans c.loop-session.invariant.1 c.add.ensures.capacity,
  subst (AreFirst (SitsFirst c.args.topology.now) (c.loop-session.session + 1)) (sym c.add.ensures.items)
      (one_more (SitsFirst c.args.topology.now) c.loop-session.session c.loop-session.stations.items c.in-Ok.station c.loop-session.invariant.2 c.in-Ok.ensures.ok),
)

use Rattle.readiness.specs.declared.connection.TheConstants.{LIMIT}
use Rattle.service.specs.Sessions.{seen_sessions, IsSessionStep, SessionReplies}
use Rattle.world.specs.Run.{run}
use Rattle.service.proofs.Together.{chain_same, log_means}
use Rattle.server.proofs.Serving.{on_ok, spans_by, round_by, round_settled}
use Rattle.server.proofs.server.round_by.Goals as goal

pub returns-clause-same_world : goal.returns-clause-same_world
returns-clause-same_world g c = (chain_same (seen_sessions g.W.Host.world c.args.port.now) (seen_sessions g.W.Host.world c.round.new.port) c.round.ensures.chain).world

pub returns-clause-topology : goal.returns-clause-topology
returns-clause-topology g c = (chain_same (seen_sessions g.W.Host.world c.args.port.now) (seen_sessions g.W.Host.world c.round.new.port) c.round.ensures.chain).topology

pub returns-clause-spans : goal.returns-clause-spans
returns-clause-spans g c =
    let s = c.round.ensures.spans in
    let p = seen_sessions g.W.Host.world c.args.port.now in
    let q = seen_sessions g.W.Host.world c.round.new.port in
    spans_by g.L.ReadyLine.seen g.D.Doorway.steps IsSessionStep (SessionReplies p.world.top (run q.world.top q.world.events)) c.args.doors.now.idle c.args.doors.now.door c.round.new.self.door c.args.doors.now.hall.places.places.items c.round.new.self.hall.places.places.items p q p.world.events q.world.events s
    (log_means p s.log q c.requires s.chain)

pub returns-clause-round : goal.returns-clause-round
returns-clause-round g c =
    let p = seen_sessions g.W.Host.world c.args.port.now in
    let q = seen_sessions g.W.Host.world c.round.new.port in
    on_ok c.round.result
    (λ r. (
      r.0,
      round_by LIMIT g.L.ReadyLine.seen g.D.Doorway.nobody g.D.Doorway.announces IsSessionStep (SessionReplies p.world.top (run q.world.top q.world.events)) c.args.time r.0 c.args.doors.now c.round.new.self p q p.world.events q.world.events r.1
          (log_means p r.0 q c.requires r.1.turns.chain),
    ))
    c.round.ensures.round

pub returns-clause-settled : goal.returns-clause-settled
returns-clause-settled g c = round_settled g.L.ReadyLine.seen g.W.Host.kept g.W.Host.settles c.args.doors.now.hall.places.places.items c.args.port.now c.round.new.self.hall.places.places.items c.round.new.port c.round.result c.round.ensures.settled

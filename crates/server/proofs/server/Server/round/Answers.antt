use Rattle.readiness.specs.declared.connection.TheConstants.{LIMIT}
use Rattle.service.specs.Sessions.{SessionReplies}
use Rattle.world.specs.World.{run_of}
use Rattle.server.proofs.Serving.{on_ok, lasts_round, spans_by, round_by, rested_begins, rested_in, chain_later, has_shard}
use Rattle.std.proofs.Common.{◌∙◌}
use Rattle.server.proofs.server.Server.round.Goals as goal

pub returns-clause-answered : goal.returns-clause-answered
returns-clause-answered g c =
    let old = g.W.Host.world c.args.self.now.world in
    let mid = g.W.Host.world c.serve_round-asked.new.world in
    record {
      asked = c.serve_round-asked.new.world;
      topology = c.serve_round-asked.ensures.topology;
      spans = c.serve_round-asked.ensures.spans;
      settled = c.serve_round-asked.ensures.settled;
      rested = rested_in old mid (g.W.Host.world c.rest.new.world) c.serve_round-asked.ensures.topology c.rest.ensures.rested;
      keeps_none = c.rest.ensures.keeps_none;
    }

pub returns-clause-spans : goal.returns-clause-spans
returns-clause-spans g c =
    let old = g.W.Host.world c.args.self.now.world in
    let mid = g.W.Host.world c.serve_round-asked.new.world in
    let new = g.W.Host.world c.rest.new.world in
    let s = c.serve_round-asked.ensures.spans in
    let same = c.rest.ensures.topology ∙ c.serve_round-asked.ensures.topology in
    let rested = rested_in old mid new c.serve_round-asked.ensures.topology c.rest.ensures.rested in
    let later = chain_later old mid new s.log (has_shard old new same c.topology-limits.ensures.limits) same (rested_begins old.top mid.events new.events rested) s.chain in
    (mid.events, spans_by g.L.ReadyLine.seen g.D.Doorway.steps (SessionReplies old.top (run_of mid)) (SessionReplies old.top (run_of new)) c.args.self.now.doors.idle c.args.self.now.doors.door c.serve_round-asked.new.doors.door c.args.self.now.doors.hall.places.places.items c.serve_round-asked.new.doors.hall.places.places.items old.events mid.events old.events mid.events s later, rested)

pub returns-clause-round : goal.returns-clause-round
returns-clause-round g c =
    let old = g.W.Host.world c.args.self.now.world in
    let mid = g.W.Host.world c.serve_round-asked.new.world in
    let new = g.W.Host.world c.rest.new.world in
    let same = c.rest.ensures.topology ∙ c.serve_round-asked.ensures.topology in
    let rested = rested_in old mid new c.serve_round-asked.ensures.topology c.rest.ensures.rested in
    let some = has_shard old new same c.topology-limits.ensures.limits in
    on_ok c.serve_round-asked.result.1
    (λ r. (c.millis-time.result, r.0, mid.events, round_by LIMIT g.L.ReadyLine.seen g.D.Doorway.nobody g.D.Doorway.announces (SessionReplies old.top (run_of mid)) (SessionReplies old.top (run_of new)) c.millis-time.result r.0 c.args.self.now.doors c.serve_round-asked.new.doors old.events mid.events old.events mid.events r.1 (chain_later old mid new r.0 some same (rested_begins old.top mid.events new.events rested) r.1.turns.chain), rested))
    c.serve_round-asked.ensures.round

pub returns-clause-lasts : goal.returns-clause-lasts
returns-clause-lasts g c =
    lasts_round g.L.ReadyLine.seen g.W.Host.kept g.W.Host.settles g.W.Host.lasts g.met.W.Host.lasts_same g.met.W.Host.lasts_settled c.args.self.now.doors.hall.places.places.items c.args.self.now.world c.serve_round-asked.new.doors.hall.places.places.items c.serve_round-asked.new.world c.serve_round-asked.result.1 c.serve_round-asked.ensures.settled
    c.rest.new.world c.rest.ensures.keeps_none

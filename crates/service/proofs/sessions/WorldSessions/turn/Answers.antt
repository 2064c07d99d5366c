use Rattle.world.proofs.envelopes.Addresses.{stands}
use Rattle.service.specs.Sessions.{seen_sessions}
use Rattle.service.proofs.Together.{turns_mean, turns_same, turns_settled}
use Rattle.service.proofs.sessions.WorldSessions.turn.Goals as goal

pub returns-clause-same_world : goal.returns-clause-same_world
returns-clause-same_world g c = (turns_same g.L.ReadyLine.seen c.args.places.now.places.items c.turns.new.places.places.items (seen_sessions g.W.Host.world c.args.self.now) (seen_sessions g.W.Host.world c.turns.new.port) c.turns.ensures.turned).world

pub returns-clause-topology : goal.returns-clause-topology
returns-clause-topology g c = (turns_same g.L.ReadyLine.seen c.args.places.now.places.items c.turns.new.places.places.items (seen_sessions g.W.Host.world c.args.self.now) (seen_sessions g.W.Host.world c.turns.new.port) c.turns.ensures.turned).topology

pub returns-clause-turned : goal.returns-clause-turned
returns-clause-turned g c =
    turns_mean g.L.ReadyLine.seen c.args.places.now.places.items c.turns.new.places.places.items (seen_sessions g.W.Host.world c.args.self.now) (seen_sessions g.W.Host.world c.turns.new.port) (stands (g.W.Host.world c.args.self.now.world.now).top c.topology-limits.ensures.limits).some c.turns.ensures.turned

pub returns-clause-settled : goal.returns-clause-settled
returns-clause-settled g c = turns_settled g.L.ReadyLine.seen g.W.Host.kept g.W.Host.settles c.args.places.now.places.items c.args.self.now c.turns.new.places.places.items c.turns.new.port c.turns.result c.turns.ensures.settled

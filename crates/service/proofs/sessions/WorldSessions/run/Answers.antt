use Rattle.world.proofs.envelopes.Addresses.{stands}
use Rattle.readiness.specs.Runs.{arrivals}
use Rattle.service.specs.Sessions.{seen_sessions}
use Rattle.service.proofs.Together.{chain_same, chain_means, ran_means}
use Rattle.service.proofs.sessions.WorldSessions.run.Goals as goal

pub returns-clause-same_world : goal.returns-clause-same_world
returns-clause-same_world g c = (chain_same (seen_sessions g.W.Host.world c.args.self.now) (seen_sessions g.W.Host.world c.run_all.new.port) c.run_all.ensures.chain).world

pub returns-clause-topology : goal.returns-clause-topology
returns-clause-topology g c = (chain_same (seen_sessions g.W.Host.world c.args.self.now) (seen_sessions g.W.Host.world c.run_all.new.port) c.run_all.ensures.chain).topology

pub returns-clause-ran : goal.returns-clause-ran
returns-clause-ran g c =
    ran_means g.L.ReadyLine.seen (arrivals c.args.acts.items) (seen_sessions g.W.Host.world c.args.self.now) (seen_sessions g.W.Host.world c.run_all.new.port) (stands (g.W.Host.world c.args.self.now.world.now).top c.topology-limits.ensures.limits).some c.run_all.result c.run_all.ensures.ran

pub returns-clause-answered : goal.returns-clause-answered
returns-clause-answered g c = chain_means (seen_sessions g.W.Host.world c.args.self.now) (seen_sessions g.W.Host.world c.run_all.new.port) (stands (g.W.Host.world c.args.self.now.world.now).top c.topology-limits.ensures.limits).some c.run_all.ensures.chain

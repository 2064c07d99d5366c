use Rattle.std.proofs.Common.{refl}
use Rattle.world.proofs.envelopes.Addresses.{stands}
use Rattle.service.proofs.Ports.{same_after, served_then}
use Rattle.service.proofs.port.WorldPort.serve_line.Goals as goal

pub returns-clause-same_world : goal.returns-clause-same_world
returns-clause-same_world g c =
    let top = c.args.self.now.world.now.top in
    (same_after top c.args.self.now.session (stands top c.topology-limits.ensures.limits).some c.requires c.args.self.now c.serve.new.port refl refl c.serve.result
    (g.L.Line.seen c.args.line.now) (g.L.Line.seen c.serve.new.line) c.serve.ensures.served).world

pub returns-clause-topology : goal.returns-clause-topology
returns-clause-topology g c =
    let top = c.args.self.now.world.now.top in
    (same_after top c.args.self.now.session (stands top c.topology-limits.ensures.limits).some c.requires c.args.self.now c.serve.new.port refl refl c.serve.result
    (g.L.Line.seen c.args.line.now) (g.L.Line.seen c.serve.new.line) c.serve.ensures.served).topology

pub returns-clause-served : goal.returns-clause-served
returns-clause-served g c =
    let top = c.args.self.now.world.now.top in
    served_then top c.args.self.now.session (stands top c.topology-limits.ensures.limits).some c.requires c.args.self.now c.serve.new.port refl refl c.serve.result
    (g.L.Line.seen c.args.line.now) (g.L.Line.seen c.serve.new.line) c.serve.ensures.served

use Rattle.std.proofs.Common.{◌∙◌, length, ap, arith, refl, rules}
use Rattle.messages.specs.Topology.{TopologyValue}
use Rattle.service.proofs.connections.serve_connections.Goals as goal

pub loop-index-init : goal.loop-index-init
loop-index-init c = record { topology = refl; served = refl }

pub session_node-session-requires : goal.session_node-session-requires
session_node-session-requires c =
    let same = ap (λ (t : TopologyValue). length t.homes) (c.topology.ensures.value ∙ c.loop-index.invariant.topology) in
    let lt = c.loop-index-test.true in
    let le = c.requires in
    omega arith

pub loop-index-preserved : goal.loop-index-preserved
loop-index-preserved c = search rules

use Rattle.std.proofs.Common.{rules, Ok, ℕ}
use Rattle.std.proofs.lemmas.Iterator.{items_from_collect, YieldsList-from_map}
use Rattle.std.proofs.lemmas.Iterator.Consumers.{YieldsList-at, YieldsList-from_first}
use Rattle.messages.specs.Topology.{dc_of, shard_node}
use Rattle.replicator.proofs.near.near_nodes.Goals as goal

pub returns-clause-nodes : goal.returns-clause-nodes
returns-clause-nodes c = λ top me is.
    items_from_collect {E = ℕ} (Ok c.in_ok-nodes.nodes) c.in_ok-nodes.ensures.ran
    (YieldsList-from_map _ (λ s. shard_node top (dc_of top me) s)
    (YieldsList-at c.map.ensures.source (YieldsList-from_first (λ x. x) (λ rest. rest) c.args.cohorts.now c.shards.ensures))
    c.map.ensures.closure (λ x r q k. search rules))

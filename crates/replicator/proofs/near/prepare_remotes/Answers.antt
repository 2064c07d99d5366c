use Rattle.std.proofs.Common.{rules, Ok, ℕ}
use Rattle.std.proofs.lemmas.Iterator.{items_from_collect, YieldsList-from_map}
use Rattle.std.proofs.lemmas.Iterator.Consumers.{YieldsList-at, YieldsList-from_first}
use Rattle.messages.specs.declared.body.Body.TheVariants as body
use Rattle.messages.specs.Topology.{dc_of, shard_node}
use Rattle.messages.specs.Words.{envelope}
use Rattle.replicator.proofs.near.prepare_remotes.Goals as goal

pub returns-clause-envelopes : goal.returns-clause-envelopes
returns-clause-envelopes c = λ top me is.
    items_from_collect {E = ℕ} (Ok c.in_ok-envelopes.envelopes) c.in_ok-envelopes.ensures.ran
    (YieldsList-from_map _ (λ s. envelope me (shard_node top (dc_of top me) s) c.args.time (body.PrepareRemote c.args.txn))
    (YieldsList-at c.map.ensures.source (YieldsList-from_first (λ x. x) (λ rest. rest) c.args.cohorts.now c.shards.ensures))
    c.map.ensures.closure (λ x r q k. search rules))

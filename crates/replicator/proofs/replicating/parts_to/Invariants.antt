use Rattle.std.proofs.Common.{◌≡◌, ◌++◌, map}
use Rattle.messages.specs.declared.body.Body.TheVariants as body
use Rattle.messages.specs.Words.{envelope}
use Rattle.replicator.proofs.replicating.parts_to.Given as goal

-- the envelopes so far, then those to the nodes that are left, are those to all
abbrev pub invariant-loop-to : goal.invariant-loop-to
invariant-loop-to l =
    l.envelopes.items ++ map (λ n. envelope l.from n l.time (body.ReplPart l.writer.txn l.rows l.stamp l.writer.shard)) l.to-iterator.rest.items
    ≡ map (λ n. envelope l.from n l.time (body.ReplPart l.writer.txn l.rows l.stamp l.writer.shard)) l.fn.nodes.items

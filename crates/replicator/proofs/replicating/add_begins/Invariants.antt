use Rattle.std.proofs.Common.{◌≡◌, ◌++◌, map}
use Rattle.messages.specs.declared.body.Body.TheVariants as body
use Rattle.messages.specs.Words.{envelope}
use Rattle.replicator.proofs.replicating.add_begins.Given as goal

-- the envelopes so far, then those to the nodes that are left, are those of before and those to all
abbrev pub invariant-loop-to : goal.invariant-loop-to
invariant-loop-to l = record {
  all : l.envelopes.items ++ map (λ n. envelope l.stamp.node n l.stamp.time (body.ReplBegin l.cohorts l.txn l.rows l.stamp l.dependencies)) l.to-iterator.rest.items
      ≡ l.fn.envelopes.items ++ map (λ n. envelope l.stamp.node n l.stamp.time (body.ReplBegin l.cohorts l.txn l.rows l.stamp l.dependencies)) l.fn.nodes.items;
  stamp : l.stamp ≡ l.fn.stamp;
}

use Rattle.std.proofs.Common.{◌≡◌, ◌≤◌, ◌+◌, ◌++◌, ℕ, map, take}
use Rattle.messages.specs.declared.body.Body.TheVariants as body
use Rattle.messages.specs.Topology.{TopologyValue, dc_of, shard_node}
use Rattle.messages.specs.Words.{envelope}
use Rattle.messages.specs.Place.{IsPlace}
use Rattle.replicator.proofs.near.post_dep_checks.Given as goal

-- the checks of the dependencies so far are posted, and took no more room than that
abbrev pub invariant-loop-writer : goal.invariant-loop-writer
invariant-loop-writer l = record {
  sent :
      (top : TopologyValue) (me : ℕ) → IsPlace top me l.place
      → l.outbox.sent ≡ l.fn.outbox.sent ++ map (λ w. envelope me (shard_node top (dc_of top me) w.shard) l.time (body.DepCheck w.txn l.txn)) (take l.writer-index l.dependencies);
  room : l.fn.outbox.room ≤ l.outbox.room + l.writer-index;
}

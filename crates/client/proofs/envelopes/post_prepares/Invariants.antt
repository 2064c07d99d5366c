use Rattle.std.proofs.Common.{◌≡◌, ◌≤◌, ◌++◌, length, map}
use Rattle.client.specs.Envelopes.{prepare_part}
use Rattle.client.proofs.envelopes.post_prepares.Given as goal

-- the envelopes so far, then those of the parts that are left, are those of all, and there is room for these
abbrev pub invariant-loop-part : goal.invariant-loop-part
invariant-loop-part l = record {
  sent :
      l.outbox.sent ++ map (prepare_part l.home l.node l.time l.txn l.coordinator) l.part-iterator.rest.items
      ≡ l.fn.outbox.sent ++ map (prepare_part l.home l.node l.time l.txn l.coordinator) l.fn.parts.items;
  room : length l.part-iterator.rest.items ≤ l.outbox.room;
}

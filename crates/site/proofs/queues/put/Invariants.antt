use Rattle.std.proofs.Common.{◌≡◌, ◌≤◌, ◌+◌, ◌++◌, length}
use Rattle.std.specs.Prelude.{reverse, filter}
use Rattle.std.specs.VecDeque.{deque_len, deque_capacity}
use Rattle.site.specs.Story.{is_near, is_far}
use Rattle.site.proofs.queues.put.Given as goal

abbrev pub invariant-loop-envelope : goal.invariant-loop-envelope
invariant-loop-envelope l = record {
  inbox : l.inbox.items ++ filter (is_near l.topology l.dc) (reverse l.turn.items) ≡ l.fn.inbox.items ++ filter (is_near l.topology l.dc) (reverse l.fn.turn.items);
  outgoing : l.outgoing.items ++ filter (is_far l.topology l.dc) (reverse l.turn.items) ≡ l.fn.outgoing.items ++ filter (is_far l.topology l.dc) (reverse l.fn.turn.items);
  waits : deque_len l.inbox + length l.turn.items ≤ deque_capacity l.inbox;
  goes : deque_len l.outgoing + length l.turn.items ≤ deque_capacity l.outgoing;
}

abbrev pub decreases-loop-envelope : goal.decreases-loop-envelope
decreases-loop-envelope l = length l.turn.items

use Rattle.std.proofs.Common.{◌≡◌, ◌≤◌, ◌<◌, ◌⊎◌, ℕ, List, length, None}
use Rattle.std.specs.List.{slice_get}
use Rattle.messages.specs.declared.event.ActorEvent.{ActorEvent}
use Rattle.actors.specs.Seats.{Received, sources_of}
use Rattle.actors.specs.Looking.{WereEmpty}
use Rattle.actors.proofs.incoming.poll.Given as goal

abbrev pub invariant-loop-place : goal.invariant-loop-place
invariant-loop-place l = record {
  count : length l.incoming.items ≡ length l.fn.incoming.items;
  sources : sources_of l.incoming.items ≡ sources_of l.fn.incoming.items;
  received : (journal : List ActorEvent) → Received journal l.fn.incoming.items None → Received journal l.incoming.items None;
  next : l.next ≡ l.fn.next;
  empty : WereEmpty l.incoming.items l.first l.place;
  others : (k : ℕ) → (k < l.first) ⊎ (l.end ≤ k) → slice_get l.incoming.items k ≡ slice_get l.fn.incoming.items k;
}

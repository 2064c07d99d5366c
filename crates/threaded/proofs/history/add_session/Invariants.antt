use Rattle.std.proofs.Common.{◌≡◌, ◌++◌, ℕ, length, take}
use Rattle.messages.specs.Topology.{TopologyValue}
use Rattle.messages.specs.Shard.{ShardState}
use Rattle.world.specs.Asked.{entry_of}
use Rattle.threaded.specs.Asking.{AreAsked}
use Rattle.threaded.proofs.AskedFor.{ops_of, told_to}
use Rattle.threaded.proofs.history.add_session.Given as goal

abbrev pub invariant-loop-event : goal.invariant-loop-event
invariant-loop-event l =
    (l.number ≡ length (ops_of (take l.event-index l.journal)))
    × ((top : TopologyValue) (states : ℕ → ShardState) → AreAsked top states l.home l.seats
    → l.history ≡ l.fn.history ++ told_to (entry_of top states l.home.dc) l.session l.journal l.event-index)

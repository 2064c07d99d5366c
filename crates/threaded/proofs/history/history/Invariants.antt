use Rattle.std.proofs.Common.{◌≡◌, ℕ}
use Rattle.messages.specs.Shard.{ShardState}
use Rattle.threaded.specs.OneRun.{AreSeatsOf}
use Rattle.threaded.specs.Asking.{AreReplays}
use Rattle.threaded.proofs.AskedFor.{told_first}
use Rattle.threaded.proofs.history.history.Given as goal

abbrev pub invariant-loop-session : goal.invariant-loop-session
invariant-loop-session l =
    (states : ℕ → ShardState) → AreSeatsOf l.topology l.seats → AreReplays l.topology l.seats states
    → l.history ≡ told_first l.topology states l.seats l.dc l.session

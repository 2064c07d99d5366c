use Rattle.std.proofs.Common.{◌≡◌, ◌-◌, ◌++◌, [], length}
use Rattle.std.specs.Option.{unwrap_or}
use Rattle.threaded.specs.Entries.{entries_after}
use Rattle.threaded.proofs.entries.AllEndedIterator.next.Given as goal

-- only sessions with nothing left were passed over
abbrev pub invariant-loop-ended : goal.invariant-loop-ended
invariant-loop-ended l =
    unwrap_or l.self-inside.left [] ++ entries_after l.self-inside.topology.now l.self-inside.seats.now l.self-inside.sessions ≡ l.fn.self

abbrev pub decreases-loop-ended : goal.decreases-loop-ended
decreases-loop-ended l = length l.self-inside.topology.now.homes - l.self-inside.sessions

use Rattle.std.proofs.Common.{◌≡◌, length}
use Rattle.threaded.specs.Entries.{entries_from}
use Rattle.threaded.proofs.entries.OfSession.next.Given as goal

-- only outcomes without an entry were passed over
abbrev pub invariant-loop-first : goal.invariant-loop-first
invariant-loop-first l =
    entries_from l.self-inside.node l.self-inside.home l.self-inside.search l.self-inside.outcomes.now ≡ l.fn.self

abbrev pub decreases-loop-first : goal.decreases-loop-first
decreases-loop-first l = length l.self-inside.outcomes.now

use Rattle.std.proofs.Common.{◌≡◌, take, map}
use Rattle.store.specs.Keeps.{Keeps}
use Rattle.messages.specs.Shard.{ShardState, PreparedPart}
use Rattle.messages.specs.Rows.{row_now}
use Rattle.commit_check.specs.Marked.{AreMarksOf}
use Rattle.messages.specs.Known.{AreOnce}
use Rattle.commit_check.proofs.reading_now.some_now.Given as goal

-- the rows of the keys so far
abbrev pub invariant-loop-key : goal.invariant-loop-key
invariant-loop-key l =
    (a : ShardState) → Keeps l.store a.applied → AreMarksOf l.marks a → AreOnce (λ (x : PreparedPart). x.txn) a.prepared
    → l.rows.items ≡ map (row_now l.clock a l.read) (take l.key-index l.keys)

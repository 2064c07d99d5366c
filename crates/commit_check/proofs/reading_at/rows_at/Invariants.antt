use Rattle.std.proofs.Common.{◌≡◌, take, map}
use Rattle.std.specs.Option.{option_copied}
use Rattle.store.specs.Keeps.{Keeps}
use Rattle.messages.specs.Shard.{ShardState}
use Rattle.messages.specs.Rows.{row_at}
use Rattle.commit_check.specs.Coming.{MayCome, after}
use Rattle.commit_check.proofs.reading_at.rows_at.Given as goal

-- the rows of the keys so far
abbrev pub invariant-loop-key : goal.invariant-loop-key
invariant-loop-key l =
    (a : ShardState) → Keeps l.store a.applied → MayCome (option_copied l.coming) a.applied
    → l.rows.items ≡ map (row_at l.time (after (option_copied l.coming) a) l.read) (take l.key-index l.read.keys)

-- What the marks of a shard stand for, and until when a row is known to be valid.
use Rattle.std.specs.Prelude.{◌≡◌, ◌≤◌, ◌⊎◌, ℕ, List, Option, Some, option_map, find}
use Rattle.logical_time.specs.Stamps.{TxnValue}
use Rattle.column_family.specs.declared.batch.Row.{Row}
use Rattle.pending.specs.Marks.{MarkList, time_at}
use Rattle.messages.specs.Words.{is_same_txn}
use Rattle.messages.specs.Shard.{ShardState, PreparedPart}
use Rattle.messages.specs.Rows.{marks_on}

-- the time of the transaction's part among these
abbrev pub mark_in : List PreparedPart → TxnValue → Option ℕ
mark_in ps t = option_map (λ p. p.time) (find (λ p. is_same_txn p.txn t) ps)

-- the marks of each row are those of the parts that mark it
abbrev pub AreMarksOf : MarkList → ShardState → Type 0
AreMarksOf ms a = (r : Row) (t : TxnValue) → time_at ms r t ≡ mark_in (marks_on r a) t

-- the least of a clock and the times of the marks
pub record IsLatest (times : TxnValue → Option ℕ) (n : ℕ) (t : ℕ) : Type 0 where
  pub bound : t ≤ n
  pub least : (u : TxnValue) (m : ℕ) → times u ≡ Some m → t ≤ m
  pub reached : (t ≡ n) ⊎ ((u : TxnValue) × (times u ≡ Some t))

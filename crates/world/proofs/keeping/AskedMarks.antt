-- The transactions that a read at a time asks for: each is one of which the shard prepared a part.
use Rattle.std.proofs.Common.{◌≡◌, ℕ, not, ◌&&◌, map}
use Rattle.std.specs.Prelude.{nat_lt, Contains}
use Rattle.std.specs.List.{list_any}
use Rattle.logical_time.specs.Stamps.{WriterValue}
use Rattle.slice.specs.declared.read.Read.{Read}
use Rattle.messages.specs.Shard.{ShardState, PreparedPart}
use Rattle.messages.specs.Known.{is_applied}
use Rattle.slice.specs.Rows.{row_of}
use Rattle.messages.specs.Rows.{touches_row}
use Rattle.messages.specs.Reads.{marks_below, asked_below}
use Rattle.messages.proofs.WritersInOrder.{writers_stay}
use Rattle.world.proofs.lists.Members.{mapped_from, filter_contains}

abbrev pub writer_at : PreparedPart → WriterValue
writer_at p = record { txn = p.txn; shard = p.coordinator }

-- each is a part that the shard prepared
pub asked_prepared : (a : ShardState) (time : ℕ) (read : Read) (w : WriterValue) → Contains (asked_below a time read) w → (p : PreparedPart) × Contains a.prepared p × (w ≡ writer_at p)
asked_prepared a time read w m =
    let ws = map writer_at (marks_below a time read) in
    let q = mapped_from writer_at (marks_below a time read) w ((writers_stay ws w).0 m) in (
      q.0,
      (filter_contains (λ p. list_any (λ key. touches_row (row_of read key) p) read.keys && not (is_applied p.txn a) && nat_lt p.time time) a.prepared q.0 q.1).0,
      q.2,
    )

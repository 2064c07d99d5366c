-- What a shard hasn't finished: the parts of transactions that it holds and hasn't applied.
use Rattle.std.specs.Prelude.{ℕ, not, List, ◌++◌, map, filter, filter_map, find}
use Rattle.std.specs.Ordering.{is_eq}
use Rattle.logical_time.specs.Stamps.{TxnValue, writer_cmp}
use Rattle.column_family.specs.declared.batch.Change.{Change}
use Rattle.txn_state.specs.declared.part.WritePart.{WritePart}
use Rattle.messages.specs.Topology.{TopologyValue, shard_of}
use Rattle.messages.specs.Words.{in_writer_order}
use Rattle.messages.specs.Shard.{ShardState}
use Rattle.messages.specs.Known.{is_applied}

-- the part of a transaction with this coordinator
abbrev pub part_of : TxnValue → ℕ → List Change → WritePart
part_of t coordinator rows = record { writer = record { txn = t; shard = coordinator }; batch = rows }

-- the parts that the shard ever held: what it prepared, its own part of each ballot that it began, what it kept of writes of
-- other data centres, and its own part of each of their ballots
abbrev pub parts_held : TopologyValue → ℕ → ShardState → List WritePart
parts_held top me a =
    map (λ p. part_of p.txn p.coordinator p.rows) a.prepared ++ map (λ b. part_of b.txn (shard_of top me) b.rows) a.ballots
    ++ map (λ k. part_of k.txn k.coordinator k.rows) a.kept_parts ++ map (λ r. part_of r.txn (shard_of top me) r.rows) a.kept_ballots

-- of these the parts that it hasn't applied
abbrev pub parts_unapplied : TopologyValue → ℕ → ShardState → List WritePart
parts_unapplied top me a = filter (λ p. not (is_applied p.writer.txn a)) (parts_held top me a)

-- what is unfinished: these parts in the order of their transactions' numbers, one for each
abbrev pub unfinished_of : TopologyValue → ℕ → ShardState → List WritePart
unfinished_of top me a =
    filter_map (λ w. find (λ p. is_eq (writer_cmp p.writer w)) (parts_unapplied top me a)) (in_writer_order (map (λ p. p.writer) (parts_unapplied top me a)))

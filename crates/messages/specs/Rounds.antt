-- The two rounds of a read: which rows are taken from the first, and what is asked again in the second.
use Rattle.std.specs.Prelude.{ℕ, max, Bool, ◌&&◌, not, ◌==◌, nat_le, nat_lt, List, [], ◌∷◌, ◌++◌, map, filter, flat_map}
use Rattle.std.specs.List.{list_any, list_all}
use Rattle.logical_time.specs.Stamps.{WriterValue}
use Rattle.slice.specs.declared.read.Read.{Read}
use Rattle.slice.specs.declared.read.AnsweredRow.{AnsweredRow}
use Rattle.planner.specs.Join.{joined}
use Rattle.planner.specs.Plan.{shards_asked}
use Rattle.messages.specs.declared.rows_now.RowNow.{RowNow}
use Rattle.messages.specs.declared.rows_at.RowAt.{RowAt}
use Rattle.messages.specs.Topology.{TopologyValue}
use Rattle.messages.specs.Words.{in_writer_order}
use Rattle.messages.specs.Session.{SessionState, HeardNow, HeardAt}
use Rattle.messages.specs.Submitting.{home_node}

-- ## The first round

-- whether this shard has answered
abbrev pub was_heard : List HeardNow → ℕ → Bool
was_heard heard node = list_any (λ h. h.from == node) heard

-- the shards that are asked in the first round, ascending, as nodes
abbrev pub asked_nodes : TopologyValue → SessionState → Read → List ℕ
asked_nodes top a read = map (home_node top a) (shards_asked top.shards read.keys)

-- whether this shard is asked and hasn't answered
abbrev pub is_missing : List ℕ → List HeardNow → ℕ → Bool
is_missing asked heard node = list_any (λ s. s == node) asked && not (was_heard heard node)

-- whether all asked shards have answered
abbrev pub all_heard : List ℕ → List HeardNow → Bool
all_heard asked heard = list_all (was_heard heard) asked

abbrev pub rows_heard : List HeardNow → List RowNow
rows_heard heard = flat_map (λ h. h.rows) heard

abbrev pub greatest_evt : ℕ → List RowNow → ℕ
greatest_evt floor [] = floor
greatest_evt floor (r ∷ rs) = max r.evt (greatest_evt floor rs)

-- the effective time of a read: the greatest of the session's floor and all earliest valid times
abbrev pub effective_time : ℕ → List HeardNow → ℕ
effective_time floor heard = greatest_evt floor (rows_heard heard)

abbrev pub row_taken : RowNow → RowAt
row_taken r = record { key = r.key; columns = r.columns; writers = r.writers }

-- the rows that are accepted: those whose latest valid time isn't below the effective time
abbrev pub accepted : ℕ → List HeardNow → List RowAt
accepted time heard = map row_taken (filter (λ r. nat_le time r.lvt) (rows_heard heard))

-- ## The second round

-- what this shard answered in the first round
abbrev pub rows_from : List HeardNow → ℕ → List RowNow
rows_from heard node = rows_heard (filter (λ h. h.from == node) heard)

-- the keys of the rows of a shard that aren't accepted
abbrev pub late_keys : ℕ → List HeardNow → ℕ → List (List ℕ)
late_keys time heard node = map (λ r. r.key) (filter (λ r. nat_lt r.lvt time) (rows_from heard node))

abbrev pub is_late : ℕ → List HeardNow → ℕ → Bool
is_late time heard node = list_any (λ r. nat_lt r.lvt time) (rows_from heard node)

-- of the shards asked in the first round those that are asked in the second, in the same order: those with a row that
-- isn't accepted
abbrev pub late_nodes : List ℕ → ℕ → List HeardNow → List ℕ
late_nodes asked time heard = filter (is_late time heard) asked

-- whether this shard has answered in the second round
abbrev pub was_heard_at : List HeardAt → ℕ → Bool
was_heard_at heard node = list_any (λ h. h.from == node) heard

-- whether this shard is asked in the second round and hasn't answered there
abbrev pub is_missing_at : List ℕ → ℕ → List HeardNow → List HeardAt → ℕ → Bool
is_missing_at asked time first heard node =
    list_any (λ s. s == node) (late_nodes asked time first) && not (was_heard_at heard node)

-- whether all shards of the second round have answered
abbrev pub all_heard_at : List ℕ → ℕ → List HeardNow → List HeardAt → Bool
all_heard_at asked time first heard = list_all (was_heard_at heard) (late_nodes asked time first)

-- ## What a read took

-- the rows that a read took: those accepted in the first round, and those of the second
abbrev pub rows_taken : ℕ → List HeardNow → List HeardAt → List RowAt
rows_taken time first heard = accepted time first ++ flat_map (λ h. h.rows) heard

-- its answer: each asked key once, in the order of first asking, with its columns
abbrev pub answer_of : Read → List RowAt → List AnsweredRow
answer_of read rows = joined read.keys (map (λ r. record { key = r.key; columns = r.columns }) rows)

-- the dependencies with the writers of these rows added, in order, each once
abbrev pub with_writers : List WriterValue → List RowAt → List WriterValue
with_writers dependencies rows = in_writer_order (dependencies ++ flat_map (λ r. r.writers) rows)

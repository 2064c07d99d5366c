-- Words for what stands in worked runs: reads, entries, decisions, and what shards applied and answered.
use Rattle.std.proofs.Common.{ℕ, List, [], ◌∷◌}
use Rattle.logical_time.specs.Stamps.{StampValue}
use Rattle.column_family.specs.declared.batch.Change.{Change}
use Rattle.slice.specs.declared.column.Column.{Column}
use Rattle.slice.specs.declared.predicate.Predicate.TheVariants.{Names}
use Rattle.slice.specs.declared.read.Read.{Read}
use Rattle.store.specs.declared.part.Applied.{Applied}
use Rattle.messages.specs.declared.rows_now.RowNow.{RowNow}
use Rattle.messages.specs.declared.op.Op.{Op}
use Rattle.messages.specs.declared.outcome.Outcome.{Outcome}
use Rattle.messages.specs.Shard.{Decision}
use Rattle.world.specs.Run.{Submission, Completed}
use Rattle.world.specs.Worked.{operation, family_f, name_x}

-- a read of the column x of these rows
abbrev pub x_of : List (List ℕ) → Read
x_of keys = record { family = family_f; keys = keys; predicate = Names (name_x ∷ []) }

abbrev pub stamp : ℕ → ℕ → StampValue
stamp time node = record { time = time; node = node }

-- what a session of this home submitted at its clock, with no dependencies
abbrev pub accepted : ℕ → ℕ → ℕ → ℕ → Op → Submission
accepted session number home time op =
    record { session = session; number = number; home = home; time = time; op = op; dependencies = [] }

abbrev pub ended : ℕ → ℕ → ℕ → Op → Outcome → Completed
ended node number home op outcome = record { node = node; number = number; home = home; op = op; outcome = outcome }

-- the first operation of a session, committed at this time
abbrev pub decided : ℕ → ℕ → StampValue → Decision
decided session commit stamp = record { txn = operation session 1; commit = commit; stamp = stamp }

-- the part of a session's first operation that shard 0 coordinates, committed at this time there
abbrev pub part_applied : ℕ → List Change → ℕ → Applied
part_applied session batch commit =
    record { part = record { writer = record { txn = operation session 1; shard = 0 }; batch = batch }; commit = commit; stamp = stamp commit 0 }

-- a row of a first round that rests on nothing
abbrev pub empty_row : List ℕ → ℕ → RowNow
empty_row key lvt = record { key = key; columns = []; writers = []; evt = 0; lvt = lvt }

-- a row of a first round with these columns, which the first operation of a session wrote
abbrev pub row_by : ℕ → List ℕ → List Column → ℕ → ℕ → RowNow
row_by session key columns evt lvt =
    record { key = key; columns = columns; writers = record { txn = operation session 1; shard = 0 } ∷ []; evt = evt; lvt = lvt }

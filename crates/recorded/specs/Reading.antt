-- Which JSON value stands for which recorded histories.
use Rattle.std.specs.Prelude.{ℕ, List, length, Option, Some, None, codes, if◌then◌else◌}
use Rattle.serde_json.specs.Data.{Data}
use Rattle.serde_json.specs.Find.{as_str}
use Rattle.logical_time.specs.declared.fault.Fault.{Fault}
use Rattle.logical_time.specs.Stamps.{StampValue}
use Rattle.column_family.specs.declared.batch.Committed.{Committed}
use Rattle.column_family.specs.History.{History}
use Rattle.slice.specs.declared.column.Column.{Column}
use Rattle.slice.specs.declared.read.Read.{Read}
use Rattle.slice.specs.declared.read.AnsweredRow.{AnsweredRow}
use Rattle.planner.specs.Checks.{batch_fault, read_fault}
use Rattle.audit.specs.declared.judging.Answered.{Answered}
use Rattle.workload.specs.Gives.{◌>>=◌}
use Rattle.workload.specs.Shape.{whole_below, has_members, has_items, part_at, member_by, text_at, list_by}
use Rattle.workload.specs.Script.{change_of, predicate_of, time_of, small_of, families_of}
use Rattle.recorded.specs.Recorded.{RecordedValue}

-- the value, where nothing refuses it
abbrev pub unless_refused : {A : Type 0} → Option Fault → A → Option A
unless_refused None x = Some x
unless_refused (Some e) x = None

-- [time, node]
unfoldable pub stamp_of : Data → Option StampValue
stamp_of d = if has_items 2 d then (do
  time ← part_at time_of 0 d
  node ← part_at small_of 1 d
  Some (record { time = time; node = node })) else None

-- the entry, where a store of these families accepts its batch
abbrev pub accepted_entry : List (List ℕ) → Committed → Option Committed
accepted_entry families entry = unless_refused (batch_fault families entry.batch) entry

-- {"batch": [change, ..], "stamp": .., "commit": time}, with a batch that a store of these families accepts
unfoldable pub entry_of : List (List ℕ) → Data → Option Committed
entry_of families d = if has_members 3 d then (do
  batch ← member_by (list_by change_of) (codes "batch") d
  stamp ← member_by stamp_of (codes "stamp") d
  commit ← member_by time_of (codes "commit") d
  accepted_entry families (record { batch = batch; stamp = stamp; commit = commit })) else None

-- [entry, ..]
abbrev pub history_of : List (List ℕ) → Data → Option History
history_of families = list_by (entry_of families)

-- [name, value]
unfoldable pub column_of : Data → Option Column
column_of d = if has_items 2 d then (do
  name ← text_at 0 d
  value ← text_at 1 d
  Some (record { name = name; value = value })) else None

-- [key, [column, ..]]
unfoldable pub row_of : Data → Option AnsweredRow
row_of d = if has_items 2 d then (do
  key ← text_at 0 d
  columns ← part_at (list_by column_of) 1 d
  Some (record { key = key; columns = columns })) else None

-- [row, ..]
abbrev pub answer_of : Data → Option (List AnsweredRow)
answer_of = list_by row_of

-- the read, where a store of these families accepts it
abbrev pub accepted_read : List (List ℕ) → Read → Option Read
accepted_read families read = unless_refused (read_fault families read) read

-- [family, [key, ..], predicate], as a store of these families accepts it
unfoldable pub read_of : List (List ℕ) → Data → Option Read
read_of families d = if has_items 3 d then (do
  family ← text_at 0 d
  keys ← part_at (list_by as_str) 1 d
  predicate ← part_at predicate_of 2 d
  accepted_read families (record { family = family; keys = keys; predicate = predicate })) else None

-- {"home": .., "read": .., "at": time, "answer": [row, ..]}, where the home is the place of one of so many histories
unfoldable pub answered_of : List (List ℕ) → ℕ → Data → Option Answered
answered_of families homes d = if has_members 4 d then (do
  home ← member_by (whole_below homes) (codes "home") d
  read ← member_by (read_of families) (codes "read") d
  time ← member_by time_of (codes "at") d
  answer ← member_by answer_of (codes "answer") d
  Some (record { home = home; read = read; time = time; answer = answer })) else None

-- {"families": .., "histories": [[entry, ..], ..], "reads": [.., ..]}
unfoldable pub recorded_of : Data → Option RecordedValue
recorded_of d = if has_members 3 d then (do
  families ← member_by families_of (codes "families") d
  histories ← member_by (list_by (history_of families)) (codes "histories") d
  reads ← member_by (list_by (answered_of families (length histories))) (codes "reads") d
  Some (record { families = families; histories = histories; reads = reads })) else None

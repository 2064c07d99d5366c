-- Which JSON value stands for which script.
use Rattle.std.specs.Prelude.{ℕ, ◌+◌, ◌^◌, Bool, false, List, [], length, Option, Some, None, option_and_then, codes, if◌then◌else◌}
use Rattle.std.specs.Str.{bytes_eq}
use Rattle.serde_json.specs.Data.{Data}
use Rattle.serde_json.specs.Find.{as_str, as_bool, get}
use Rattle.column_family.specs.declared.batch.Change.{Change}
use Rattle.column_family.specs.declared.batch.Mutation.{Mutation}
use Rattle.column_family.specs.declared.batch.Mutation.TheVariants.{Insert, DeleteColumn, DeleteRow, DeleteRange}
use Rattle.column_family.specs.Schema.{is_schema}
use Rattle.slice.specs.declared.predicate.Predicate.{Predicate}
use Rattle.slice.specs.declared.predicate.Predicate.TheVariants.{Names, Range}
use Rattle.messages.specs.declared.op.Op.{Op}
use Rattle.messages.specs.declared.op.Op.TheVariants.{Batch, Read as Asks, Move}
use Rattle.messages.specs.Topology.{TopologyValue, is_small_topology, shard_count, session_node}
use Rattle.workload.specs.declared.script.ScriptEvent.{ScriptEvent}
use Rattle.workload.specs.declared.script.ScriptEvent.TheVariants.{Submit, Deliver, Collect, Drain}
use Rattle.workload.specs.declared.script.Script.{Script}
use Rattle.workload.specs.Gives.{◌>>=◌}
use Rattle.workload.specs.Shape.{whole_of, whole_below, has_members, has_items, members_named, part_at, member_by, text_at, list_by, list_within}

-- ["insert", name, value]
unfoldable pub insert_of : Data → Option Mutation
insert_of d = if has_items 3 d then (do
  name ← text_at 1 d
  value ← text_at 2 d
  Some (Insert name value)) else None

-- ["delete", name]
unfoldable pub delete_of : Data → Option Mutation
delete_of d = if has_items 2 d then (do
  name ← text_at 1 d
  Some (DeleteColumn name)) else None

-- ["delete_row"]
unfoldable pub delete_row_of : Data → Option Mutation
delete_row_of d = if has_items 1 d then Some DeleteRow else None

-- ["delete_range", start, finish]
unfoldable pub delete_range_of : Data → Option Mutation
delete_range_of d = if has_items 3 d then (do
  start ← text_at 1 d
  finish ← text_at 2 d
  Some (DeleteRange start finish)) else None

unfoldable pub mutation_of : Data → Option Mutation
mutation_of d = do
  tag ← text_at 0 d
  if bytes_eq tag (codes "insert") then insert_of d
      else (if bytes_eq tag (codes "delete") then delete_of d
      else (if bytes_eq tag (codes "delete_row") then delete_row_of d
      else (if bytes_eq tag (codes "delete_range") then delete_range_of d else None)))

-- [family, key, mutation]
unfoldable pub change_of : Data → Option Change
change_of d = if has_items 3 d then (do
  family ← text_at 0 d
  key ← text_at 1 d
  mutation ← part_at mutation_of 2 d
  Some (record { row = record { family = family; key = key }; mutation = mutation })) else None

-- an end of a range: open where it is left out
abbrev pub end_of : Option Data → Option (List ℕ)
end_of None = Some []
end_of (Some d) = as_str d

-- upwards where it is left out
abbrev pub reversed_of : Option Data → Option Bool
reversed_of None = Some false
reversed_of (Some d) = as_bool d

-- 100 where it is left out
abbrev pub count_of : Option Data → Option ℕ
count_of None = Some 100
count_of (Some d) = whole_below (2 ^ 32) d

-- how many of the members of a range are there
abbrev pub range_members : Data → ℕ
range_members d =
    members_named (codes "start") d + members_named (codes "finish") d
    + members_named (codes "reversed") d + members_named (codes "count") d

-- {"start": .., "finish": .., "reversed": .., "count": ..}, and each may be left out
unfoldable pub range_of : Data → Option Predicate
range_of d = if has_members (range_members d) d then (do
  reversed ← reversed_of (get (codes "reversed") d)
  count ← count_of (get (codes "count") d)
  start ← end_of (get (codes "start") d)
  finish ← end_of (get (codes "finish") d)
  Some (Range start finish reversed count)) else None

-- [name, ..]
unfoldable pub names_of : Data → Option Predicate
names_of d = do
  names ← list_by as_str d
  Some (Names names)

abbrev pub predicate_in : Option Data → Option Data → Option Predicate
predicate_in (Some names) range = names_of names
predicate_in None (Some range) = range_of range
predicate_in None None = None

-- {"names": ..} or {"range": ..}
unfoldable pub predicate_of : Data → Option Predicate
predicate_of d = if has_members 1 d then predicate_in (get (codes "names") d) (get (codes "range") d) else None

-- [family, [key, ..], predicate]
unfoldable pub read_of : Data → Option Op
read_of d = if has_items 3 d then (do
  family ← text_at 0 d
  keys ← part_at (list_by as_str) 1 d
  predicate ← part_at predicate_of 2 d
  Some (Asks (record { family = family; keys = keys; predicate = predicate }))) else None

-- [change, ..]
unfoldable pub batch_of : Data → Option Op
batch_of d = do
  changes ← list_by change_of d
  Some (Batch changes)

-- the number of a data centre
unfoldable pub move_of : TopologyValue → Data → Option Op
move_of top d = do
  dc ← whole_below top.dcs d
  Some (Move dc)

abbrev pub op_in : TopologyValue → Option Data → Option Data → Option Data → Option Op
op_in top (Some batch) read move = batch_of batch
op_in top None (Some read) move = read_of read
op_in top None None (Some move) = move_of top move
op_in top None None None = None

-- {"batch": ..}, {"read": ..} or {"move": ..}
unfoldable pub op_of : TopologyValue → Data → Option Op
op_of top d = if has_members 1 d then op_in top (get (codes "batch") d) (get (codes "read") d) (get (codes "move") d) else None

-- ["submit", session, operation], where sessions are numbered from 0
unfoldable pub submit_of : TopologyValue → Data → Option ScriptEvent
submit_of top d = if has_items 3 d then (do
  session ← part_at (whole_below (length top.homes)) 1 d
  op ← part_at (op_of top) 2 d
  Some (Submit (session_node top session) op)) else None

-- ["deliver", message]: whether it was sent is seen when the event comes
unfoldable pub deliver_of : Data → Option ScriptEvent
deliver_of d = if has_items 2 d then (do
  number ← part_at whole_of 1 d
  Some (Deliver number)) else None

abbrev pub time_of : Data → Option ℕ
time_of = whole_below (2 ^ 48)

-- ["collect", shard, time]
unfoldable pub collect_of : TopologyValue → Data → Option ScriptEvent
collect_of top d = if has_items 3 d then (do
  shard ← part_at (whole_below (shard_count top)) 1 d
  time ← part_at time_of 2 d
  Some (Collect shard time)) else None

-- ["drain"]
unfoldable pub drain_of : Data → Option ScriptEvent
drain_of d = if has_items 1 d then Some Drain else None

unfoldable pub event_of : TopologyValue → Data → Option ScriptEvent
event_of top d = do
  tag ← text_at 0 d
  if bytes_eq tag (codes "submit") then submit_of top d
      else (if bytes_eq tag (codes "deliver") then deliver_of d
      else (if bytes_eq tag (codes "collect") then collect_of top d
      else (if bytes_eq tag (codes "drain") then drain_of d else None)))

abbrev pub schema_among : List (List ℕ) → Option (List (List ℕ))
schema_among families = if is_schema families then Some families else None

-- [name, ..], as a schema allows them
unfoldable pub families_of : Data → Option (List (List ℕ))
families_of d = option_and_then schema_among (list_by as_str d)

-- a number of data centres, of shards, or of one data centre
abbrev pub small_of : Data → Option ℕ
small_of = whole_below (2 ^ 16)

abbrev pub topology_among : TopologyValue → Option TopologyValue
topology_among top = if is_small_topology top.dcs top.shards top.homes then Some top else None

-- "dcs": .., "shards": .., "families": [..], "homes": [data centre, ..], within the limits of a topology
unfoldable pub topology_of : Data → Option TopologyValue
topology_of d = do
  dcs ← member_by small_of (codes "dcs") d
  shards ← member_by small_of (codes "shards") d
  schema ← member_by families_of (codes "families") d
  homes ← member_by (list_by small_of) (codes "homes") d
  topology_among (record { dcs = dcs; shards = shards; schema = schema; homes = homes })

-- {"dcs": .., "shards": .., "families": .., "homes": .., "events": ..}: at most 100,000 events
unfoldable pub script_of : Data → Option Script
script_of d = if has_members 5 d then (do
  top ← topology_of d
  events ← member_by (list_within (event_of top) 100000) (codes "events") d
  Some (record { topology = top; events = events })) else None

-- The events of a shard.
use Rattle.std.specs.Prelude.{ℕ, max, [], None, Result}
use Rattle.logical_time.specs.declared.fault.Fault.{Fault}
use Rattle.messages.specs.declared.body.Body.{Body}
use Rattle.messages.specs.declared.body.Body.TheVariants.{Begin, Prepare, Yes, Commit, At, NotBy, Check, Read, ReadAt, ReplBegin, ReplPart, Notify, PrepareRemote, DepCheck, DepOk, Done, PartNow, PartAt}
use Rattle.messages.specs.declared.envelope.Envelope.{Envelope}
use Rattle.messages.specs.Topology.{TopologyValue}
use Rattle.messages.specs.Clock.{ticked, on_clock}
use Rattle.messages.specs.Shard.{ShardState, ShardStep, quiet}
use Rattle.messages.specs.Reads.{on_read, on_read_at}
use Rattle.messages.specs.Commits.{on_begin, on_prepare, on_yes, on_commit, on_not_by, on_check}
use Rattle.messages.specs.Replication.{on_repl_begin, on_repl_part, on_notify, on_prepare_remote, on_dep_check, on_dep_ok}

-- what a body from a sender makes of a shard, at the clock of the event. What is for a session is ignored
abbrev pub handled : TopologyValue → ℕ → ℕ → ShardState → ℕ → Body → ShardStep
handled top me n a from (Begin txn rows cohorts dependencies) =
    on_begin top me n a (record { txn = txn; rows = rows; cohorts = cohorts; dependencies = dependencies; stamp = None })
handled top me n a from (Prepare txn rows coordinator) = on_prepare top me n a txn rows coordinator
handled top me n a from (Yes txn) = on_yes top me n a from txn
handled top me n a from (Commit txn commit stamp) = on_commit top me n a txn commit stamp
handled top me n a from (At txn commit stamp) = on_commit top me n a txn commit stamp
handled top me n a from (NotBy txn time) = on_not_by me n a txn time
handled top me n a from (Check txn time) = on_check me n a from txn time
handled top me n a from (Read number read) = on_read me n a from number read
handled top me n a from (ReadAt number time read) = on_read_at top me n a from number time read
handled top me n a from (ReplBegin cohorts txn rows stamp dependencies) =
    on_repl_begin top me n a
    (record { txn = txn; rows = rows; stamp = stamp; cohorts = cohorts; dependencies = dependencies })
handled top me n a from (ReplPart txn rows stamp coordinator) =
    on_repl_part top me n a (record { txn = txn; rows = rows; stamp = stamp; coordinator = coordinator })
handled top me n a from (Notify txn) = on_notify top me n a from txn
handled top me n a from (PrepareRemote txn) = on_prepare_remote top me n a txn
handled top me n a from (DepCheck dependency waiter) =
    on_dep_check me n a (record { dependency = dependency; waiter = waiter; from = from })
handled top me n a from (DepOk dependency waiter commit) = on_dep_ok top me n a dependency waiter
handled top me n a from (Done txn commit stamp) = quiet n a
handled top me n a from (PartNow number rows) = quiet n a
handled top me n a from (PartAt number time answer) = quiet n a

-- a shard handles an envelope: refused where its clock would leave its range
abbrev pub shard_handle : TopologyValue → ℕ → ShardState → Envelope → Result ShardStep Fault
shard_handle top me a e = on_clock (ticked a.clock e.time) (λ n. handled top me n a e.from e.body)

-- the horizon rises to the time, and never falls
abbrev pub collected : ℕ → ShardState → ℕ → ShardStep
collected n a time = record { state = record a { clock = n; low = max a.low time }; sends = [] }

-- a collection on a shard: an event without a message, refused where the clock would leave its range
abbrev pub shard_collect : ShardState → ℕ → Result ShardStep Fault
shard_collect a time = on_clock (ticked a.clock a.clock) (λ n. collected n a time)

-- A shard's step for writes of other data centres: ReplBegin, ReplPart, Notify, PrepareRemote, DepCheck, DepOk.
use Rattle.std.specs.Prelude.{ℕ, Bool, true, false, ◌&&◌, not, List, [], ◌∷◌, ◌++◌, map, Option, Some, None, is_some}
use Rattle.std.specs.List.{list_any}
use Rattle.logical_time.specs.Stamps.{TxnValue}
use Rattle.messages.specs.declared.body.Body.TheVariants.{PrepareRemote, Notify, DepCheck, DepOk}
use Rattle.messages.specs.declared.envelope.Envelope.{Envelope}
use Rattle.messages.specs.Topology.{TopologyValue, dc_of, shard_node}
use Rattle.messages.specs.Words.{is_same_txn, envelope}
use Rattle.messages.specs.Shard.{ShardState, ShardStep, Replica, BegunBallot, KeptPart, KeptBallot, Decision, Asker, Met, quiet}
use Rattle.messages.specs.Known.{decision_of, prepared_part, kept_part, kept_ballot, is_known, has_vote, is_awaited, all_voted, is_met, all_met, is_asker}
use Rattle.messages.specs.Reads.{answer}
use Rattle.messages.specs.Commits.{decide, hold, prepare_part}

-- ## The remote coordinator

-- the ballot of a replicated write, whose stamp is that of its own data centre
abbrev pub ballot_of : KeptBallot → BegunBallot
ballot_of r =
    record { txn = r.txn; rows = r.rows; cohorts = r.cohorts; dependencies = r.dependencies; stamp = Some r.stamp }

-- The remote coordinator prepares: without cohorts it decides at this event; else it marks its own rows with its clock
-- and sends PrepareRemote to the cohorts; no earlier vote of theirs counts.
abbrev pub remote_prepare : List ℕ → TopologyValue → ℕ → ℕ → ShardState → KeptBallot → ShardStep
remote_prepare [] top me n a r = decide top me n a (ballot_of r)
remote_prepare (c ∷ cs) top me n a r =
    hold top me n a (ballot_of r) [] (map (λ s. envelope me (shard_node top (dc_of top me) s) n (PrepareRemote r.txn)) (c ∷ cs))

-- whether all notices and all answers to dependency checks are there
abbrev pub is_ready : TopologyValue → ℕ → ShardState → KeptBallot → Bool
is_ready top me a r = all_voted top me r.cohorts a.notices r.txn && all_met a.met r.txn r.dependencies

-- once something that was missing is there, by whether it was the last
abbrev pub ready_if : Bool → TopologyValue → ℕ → ℕ → ShardState → KeptBallot → ShardStep
ready_if true top me n a r = remote_prepare r.cohorts top me n a r
ready_if false top me n a r = quiet n a

abbrev pub ready : TopologyValue → ℕ → ℕ → ShardState → KeptBallot → ShardStep
ready top me n a r = ready_if (is_ready top me a r) top me n a r

-- a DepCheck for each dependency, in the order of the list, which is that of the transactions' numbers
abbrev pub dep_checks : TopologyValue → ℕ → ℕ → KeptBallot → List Envelope
dep_checks top me n r =
    map (λ w. envelope me (shard_node top (dc_of top me) w.shard) n (DepCheck w.txn r.txn)) r.dependencies

abbrev pub with_ballot : ShardState → KeptBallot → ShardState
with_ballot a r = record a { kept_ballots = a.kept_ballots ++ r ∷ [] }

-- these envelopes are sent before the step's own
abbrev pub sent_before : List Envelope → ShardStep → ShardStep
sent_before sends step = record step { sends = sends ++ step.sends }

-- ReplBegin, by whether the transaction is known
abbrev pub repl_begin_if : Bool → TopologyValue → ℕ → ℕ → ShardState → KeptBallot → ShardStep
repl_begin_if true top me n a r = quiet n a
repl_begin_if false top me n a r = sent_before (dep_checks top me n r) (ready top me n (with_ballot a r) r)

-- ReplBegin: ignored where the transaction is known; else keeps the ballot, with the early notices counted, sends a
-- DepCheck for each dependency, and prepares if nothing is missing
abbrev pub on_repl_begin : TopologyValue → ℕ → ℕ → ShardState → KeptBallot → ShardStep
on_repl_begin top me n a r = repl_begin_if (is_known r.txn a) top me n a r

abbrev pub with_notice : ShardState → TxnValue → ℕ → ShardState
with_notice a t node = record a { notices = a.notices ++ record { txn = t; node = node } ∷ [] }

-- a notice for a kept ballot, by whether it is awaited
abbrev pub notice_if : Bool → TopologyValue → ℕ → ℕ → ShardState → KeptBallot → ℕ → ShardStep
notice_if false top me n a r node = quiet n a
notice_if true top me n a r node = ready top me n (with_notice a r.txn node) r

-- a notice without a kept ballot, by whether the transaction is known and whether the notice was kept already
abbrev pub early_notice_if : Bool → Bool → ℕ → ShardState → TxnValue → ℕ → ShardStep
early_notice_if true kept n a t node = quiet n a
early_notice_if false true n a t node = quiet n a
early_notice_if false false n a t node = quiet n (with_notice a t node)

abbrev pub notify_for : Option KeptBallot → TopologyValue → ℕ → ℕ → ShardState → TxnValue → ℕ → ShardStep
notify_for (Some r) top me n a t node = notice_if (is_awaited top me r.cohorts a.notices t node) top me n a r node
notify_for None top me n a t node = early_notice_if (is_known t a) (has_vote a.notices t node) n a t node

-- Notify: from a cohort not yet counted it is counted, also before ReplBegin, and the last missing thing prepares; else
-- ignored
abbrev pub on_notify : TopologyValue → ℕ → ℕ → ShardState → ℕ → TxnValue → ShardStep
on_notify top me n a from t = notify_for (kept_ballot t a) top me n a t from

-- ## The remote cohort

-- ReplPart, by whether the transaction is known
abbrev pub repl_part_if : Bool → TopologyValue → ℕ → ℕ → ShardState → KeptPart → ShardStep
repl_part_if true top me n a k = quiet n a
repl_part_if false top me n a k =
    answer n (record a { kept_parts = a.kept_parts ++ k ∷ [] })
    (envelope me (shard_node top (dc_of top me) k.coordinator) n (Notify k.txn))

-- ReplPart: ignored where the transaction is known; else keeps the part without a mark, and Notify to the coordinator
-- shard of its data centre
abbrev pub on_repl_part : TopologyValue → ℕ → ℕ → ShardState → KeptPart → ShardStep
on_repl_part top me n a k = repl_part_if (is_known k.txn a) top me n a k

-- PrepareRemote, by the kept part and whether it is prepared
abbrev pub prepare_remote_for : Option KeptPart → Bool → TopologyValue → ℕ → ℕ → ShardState → ShardStep
prepare_remote_for None prepared top me n a = quiet n a
prepare_remote_for (Some k) true top me n a = quiet n a
prepare_remote_for (Some k) false top me n a = prepare_part top me n a k.txn k.rows k.coordinator Replica

-- PrepareRemote: a part that is kept and not yet prepared is prepared and marked, and Yes to its coordinator; else
-- ignored
abbrev pub on_prepare_remote : TopologyValue → ℕ → ℕ → ShardState → TxnValue → ShardStep
on_prepare_remote top me n a t = prepare_remote_for (kept_part t a) (is_some (prepared_part t a)) top me n a

-- ## Dependencies

-- a DepCheck of what isn't decided, by whether it is remembered already
abbrev pub remember_if : Bool → ℕ → ShardState → Asker → ShardStep
remember_if true n a k = quiet n a
remember_if false n a k = quiet n (record a { askers = a.askers ++ k ∷ [] })

abbrev pub dep_check_for : Option Decision → ℕ → ℕ → ShardState → Asker → ShardStep
dep_check_for (Some d) me n a k = answer n a (envelope me k.from n (DepOk k.dependency k.waiter d.commit))
dep_check_for None me n a k = remember_if (is_asker a.askers k.dependency k.waiter k.from) n a k

-- DepCheck: DepOk where the dependency is decided here; else remembered, once for each dependency, sender and waiter
abbrev pub on_dep_check : ℕ → ℕ → ShardState → Asker → ShardStep
on_dep_check me n a k = dep_check_for (decision_of k.dependency a) me n a k

-- whether the ballot names the dependency, and its answer isn't there
abbrev pub is_unmet : List Met → KeptBallot → TxnValue → Bool
is_unmet met r dependency = list_any (λ w. is_same_txn w.txn dependency) r.dependencies && not (is_met met r.txn dependency)

abbrev pub with_met : ShardState → TxnValue → TxnValue → ShardState
with_met a waiter dependency = record a { met = a.met ++ record { waiter = waiter; dependency = dependency } ∷ [] }

-- an answer for a kept ballot, by whether it is missing
abbrev pub met_if : Bool → TopologyValue → ℕ → ℕ → ShardState → KeptBallot → TxnValue → ShardStep
met_if false top me n a r dependency = quiet n a
met_if true top me n a r dependency = ready top me n (with_met a r.txn dependency) r

abbrev pub dep_ok_for : Option KeptBallot → TopologyValue → ℕ → ℕ → ShardState → TxnValue → ShardStep
dep_ok_for None top me n a dependency = quiet n a
dep_ok_for (Some r) top me n a dependency = met_if (is_unmet a.met r dependency) top me n a r dependency

-- DepOk: a missing answer of the waiter is counted, and the last missing thing prepares; else ignored
abbrev pub on_dep_ok : TopologyValue → ℕ → ℕ → ShardState → TxnValue → TxnValue → ShardStep
on_dep_ok top me n a dependency waiter = dep_ok_for (kept_ballot waiter a) top me n a dependency

-- A shard's step in a two-phase commit: Begin, Prepare, Yes, Commit, At, NotBy, Check, and what a decision and an
-- application send.
use Rattle.std.specs.Prelude.{ℕ, Bool, true, false, List, [], ◌∷◌, ◌++◌, map, filter, nat_le, Option, Some, None}
use Rattle.logical_time.specs.Stamps.{StampValue, TxnValue}
use Rattle.column_family.specs.declared.batch.Change.{Change}
use Rattle.messages.specs.declared.body.Body.TheVariants.{Yes, Commit, At, NotBy, ReplBegin, ReplPart, DepOk, Done}
use Rattle.store.specs.declared.part.Applied.{Applied}
use Rattle.messages.specs.declared.envelope.Envelope.{Envelope}
use Rattle.messages.specs.Topology.{TopologyValue, dc_of, shard_of, shard_node}
use Rattle.messages.specs.Words.{is_same_txn, envelope, other_dcs}
use Rattle.messages.specs.Shard.{ShardState, ShardStep, Role, Own, Cohort, Replica, PreparedPart, BegunBallot, Vote, Decision, Asker, quiet}
use Rattle.messages.specs.Known.{decision_of, prepared_part, standing_ballot, is_known, is_applied, has_vote, is_awaited, all_voted}
use Rattle.messages.specs.Reads.{answer, let_go}

-- ## Decisions

-- a part as it is applied: with its writer, its commit time here and its stamp
abbrev pub applied_part : TxnValue → ℕ → List Change → ℕ → StampValue → Applied
applied_part t coordinator rows commit stamp =
    record {
      part = record { writer = record { txn = t; shard = coordinator }; batch = rows };
      commit = commit;
      stamp = stamp;
    }

-- to each cohort, by ascending shard
abbrev pub commits : TopologyValue → ℕ → ℕ → TxnValue → StampValue → List ℕ → List Envelope
commits top me n t stamp cohorts = map (λ s. envelope me (shard_node top (dc_of top me) s) n (Commit t n stamp)) cohorts

-- where the write was submitted the stamp is the commit time and the coordinator; elsewhere it came with the ballot
abbrev pub stamp_for : ℕ → ℕ → Option StampValue → StampValue
stamp_for me n None = record { time = n; node = me }
stamp_for me n (Some stamp) = stamp

-- where the write was submitted: Done to the session, then ReplBegin to the same shard of each other data centre
abbrev pub announcements : TopologyValue → ℕ → ℕ → BegunBallot → Option StampValue → List Envelope
announcements top me n b None =
    envelope me b.txn.session n (Done b.txn n (stamp_for me n None))
    ∷ map (λ d. envelope me (shard_node top d (shard_of top me)) n (ReplBegin b.cohorts b.txn b.rows (stamp_for me n None) b.dependencies)) (other_dcs top me)
announcements top me n b (Some stamp) = []

-- to those that asked for the transaction, in the order of their first asking
abbrev pub dep_oks : ℕ → ℕ → TxnValue → List Asker → List Envelope
dep_oks me n t askers =
    map (λ k. envelope me k.from n (DepOk t k.waiter n)) (filter (λ k. is_same_txn k.dependency t) askers)

-- The coordinator decides: the commit time is its clock. Its own part is applied, which clears its marks; it sends
-- Commit, Done and ReplBegin, DepOk, and the PartAt of the reads that it lets go.
abbrev pub decide : TopologyValue → ℕ → ℕ → ShardState → BegunBallot → ShardStep
decide top me n a b =
    let_go me n
    (record a {
      decided = a.decided ++ record { txn = b.txn; commit = n; stamp = stamp_for me n b.stamp } ∷ [];
      applied =
          a.applied
          ++ applied_part b.txn (shard_of top me) b.rows n (stamp_for me n b.stamp) ∷ [];
    })
    b.txn (λ x. true)
    (commits top me n b.txn (stamp_for me n b.stamp) b.cohorts ++ announcements top me n b b.stamp ++ dep_oks me n b.txn a.askers)

-- the coordinator keeps the ballot and its own part, prepared and marked, with these votes counted
abbrev pub hold : TopologyValue → ℕ → ℕ → ShardState → BegunBallot → List Vote → List Envelope → ShardStep
hold top me n a b counted sends =
    record {
      state =
          record a {
            clock = n;
            prepared =
                a.prepared
                ++ record { txn = b.txn; rows = b.rows; coordinator = shard_of top me; time = n; role = Own } ∷ [];
            ballots = a.ballots ++ b ∷ [];
            votes = a.votes ++ counted;
          };
      sends = sends;
    }

-- ## Begin, Prepare, Yes

-- Begin, by whether the transaction is known and whether all cohorts have voted
abbrev pub begin_if : Bool → Bool → TopologyValue → ℕ → ℕ → ShardState → BegunBallot → ShardStep
begin_if true voted top me n a b = quiet n a
begin_if false true top me n a b = decide top me n a b
begin_if false false top me n a b = hold top me n a b (filter (λ v. is_same_txn v.txn b.txn) a.early) []

-- Begin: ignored where the transaction is known. Where all cohorts have voted, or there are none, it decides; else it
-- keeps a ballot, with the early votes counted and its rows marked
abbrev pub on_begin : TopologyValue → ℕ → ℕ → ShardState → BegunBallot → ShardStep
on_begin top me n a b = begin_if (is_known b.txn a) (all_voted top me b.cohorts a.early b.txn) top me n a b

-- a cohort prepares its part, which marks its rows, and sends Yes to its coordinator
abbrev pub prepare_part : TopologyValue → ℕ → ℕ → ShardState → TxnValue → List Change → ℕ → Role → ShardStep
prepare_part top me n a t rows coordinator role =
    record {
      state =
          record a {
            clock = n;
            prepared = a.prepared ++ record { txn = t; rows = rows; coordinator = coordinator; time = n; role = role } ∷ [];
          };
      sends = envelope me (shard_node top (dc_of top me) coordinator) n (Yes t) ∷ [];
    }

-- Prepare, by whether the transaction is known
abbrev pub prepare_if : Bool → TopologyValue → ℕ → ℕ → ShardState → TxnValue → List Change → ℕ → ShardStep
prepare_if true top me n a t rows coordinator = quiet n a
prepare_if false top me n a t rows coordinator = prepare_part top me n a t rows coordinator Cohort

-- Prepare: ignored where the transaction is known; else prepared and marked, and Yes to the coordinator
abbrev pub on_prepare : TopologyValue → ℕ → ℕ → ShardState → TxnValue → List Change → ℕ → ShardStep
on_prepare top me n a t rows coordinator = prepare_if (is_known t a) top me n a t rows coordinator

abbrev pub with_vote : ShardState → TxnValue → ℕ → ShardState
with_vote a t node = record a { votes = a.votes ++ record { txn = t; node = node } ∷ [] }

-- a vote that was counted, by whether it was the last
abbrev pub counted_if : Bool → TopologyValue → ℕ → ℕ → ShardState → BegunBallot → ShardStep
counted_if true top me n a b = decide top me n a b
counted_if false top me n a b = quiet n a

-- a vote for a standing ballot, by whether it is awaited
abbrev pub vote_if : Bool → TopologyValue → ℕ → ℕ → ShardState → BegunBallot → ℕ → ShardStep
vote_if false top me n a b node = quiet n a
vote_if true top me n a b node =
    counted_if (all_voted top me b.cohorts (with_vote a b.txn node).votes b.txn) top me n (with_vote a b.txn node) b

-- a vote without a standing ballot, by whether the transaction is known and whether the vote was kept already
abbrev pub early_if : Bool → Bool → ℕ → ShardState → TxnValue → ℕ → ShardStep
early_if true kept n a t node = quiet n a
early_if false true n a t node = quiet n a
early_if false false n a t node = quiet n (record a { early = a.early ++ record { txn = t; node = node } ∷ [] })

abbrev pub yes_for : Option BegunBallot → TopologyValue → ℕ → ℕ → ShardState → TxnValue → ℕ → ShardStep
yes_for (Some b) top me n a t node = vote_if (is_awaited top me b.cohorts a.votes t node) top me n a b node
yes_for None top me n a t node = early_if (is_known t a) (has_vote a.early t node) n a t node

-- Yes: from a cohort not yet counted it is counted, and the last one decides; before Begin it is kept; else ignored
abbrev pub on_yes : TopologyValue → ℕ → ℕ → ShardState → ℕ → TxnValue → ShardStep
on_yes top me n a from t = yes_for (standing_ballot t a) top me n a t from

-- ## Commit, At, NotBy, Check

-- where the write was submitted: to the same shard of each other data centre, ascending
abbrev pub repl_parts : Role → TopologyValue → ℕ → ℕ → PreparedPart → StampValue → List Envelope
repl_parts Own top me n p stamp = []
repl_parts Cohort top me n p stamp =
    map (λ d. envelope me (shard_node top d (shard_of top me)) n (ReplPart p.txn p.rows stamp p.coordinator)) (other_dcs top me)
repl_parts Replica top me n p stamp = []

-- A cohort applies its part, with this commit time as its earliest valid time, which clears its marks; it sends
-- ReplPart where the write was submitted, and the PartAt of the reads that it lets go.
abbrev pub apply_part : TopologyValue → ℕ → ℕ → ShardState → PreparedPart → ℕ → StampValue → ShardStep
apply_part top me n a p commit stamp =
    let_go me n
    (record a {
      applied =
          a.applied
          ++ applied_part p.txn p.coordinator p.rows commit stamp ∷ [];
    })
    p.txn (λ x. true) (repl_parts p.role top me n p stamp)

-- a commit of a prepared part, by its role and whether it is applied: the coordinator's own part is applied by its
-- decision alone
abbrev pub commit_if : Role → Bool → TopologyValue → ℕ → ℕ → ShardState → PreparedPart → ℕ → StampValue → ShardStep
commit_if Own applied top me n a p commit stamp = quiet n a
commit_if Cohort true top me n a p commit stamp = quiet n a
commit_if Cohort false top me n a p commit stamp = apply_part top me n a p commit stamp
commit_if Replica true top me n a p commit stamp = quiet n a
commit_if Replica false top me n a p commit stamp = apply_part top me n a p commit stamp

abbrev pub commit_for : Option PreparedPart → TopologyValue → ℕ → ℕ → ShardState → ℕ → StampValue → ShardStep
commit_for None top me n a commit stamp = quiet n a
commit_for (Some p) top me n a commit stamp = commit_if p.role (is_applied p.txn a) top me n a p commit stamp

-- Commit, and At in the same way: applies what is prepared here as a cohort's part; else ignored
abbrev pub on_commit : TopologyValue → ℕ → ℕ → ShardState → TxnValue → ℕ → StampValue → ShardStep
on_commit top me n a t commit stamp = commit_for (prepared_part t a) top me n a commit stamp

-- NotBy: each waiting read whose time isn't above the given time no longer waits for the transaction
abbrev pub on_not_by : ℕ → ℕ → ShardState → TxnValue → ℕ → ShardStep
on_not_by me n a t time = let_go me n a t (λ x. nat_le x.time time) []

abbrev pub check_for : Option Decision → ℕ → ℕ → ShardState → ℕ → TxnValue → ℕ → ShardStep
check_for (Some d) me n a from t time = answer n a (envelope me from n (At t d.commit d.stamp))
check_for None me n a from t time = answer n a (envelope me from n (NotBy t time))

-- Check: At with commit time and stamp where it is decided here, else NotBy with the same time
abbrev pub on_check : ℕ → ℕ → ShardState → ℕ → TxnValue → ℕ → ShardStep
on_check me n a from t time = check_for (decision_of t a) me n a from t time

-- What a message makes of a shard, case by case. Each case comes with what was tested on the way to it.
use Rattle.std.proofs.Common.{◌≡◌, ℕ, ◌⊎◌, inl, inr, refl, sym, subst, ◌∙◌, eqb-true, Bool, true, false, not, nat_le, nat_lt, List, [], ◌∷◌, ◌++◌, map, Option, Some, None}
use Rattle.std.specs.Prelude.{◌==◌, filter, find, if◌then◌else◌, is_some, Contains}
use Rattle.std.specs.List.{list_any}
use Rattle.logical_time.specs.Stamps.{StampValue, TxnValue, WriterValue}
use Rattle.column_family.specs.declared.batch.Change.{Change}
use Rattle.column_family.proofs.Options.{both_true}
use Rattle.slice.specs.declared.read.Read.{Read}
use Rattle.messages.specs.declared.rows_at.AtTime.TheVariants as at
use Rattle.messages.specs.declared.body.Body.{Body}
use Rattle.messages.specs.declared.body.Body.TheVariants.{Begin, Prepare, Yes, Commit, At, NotBy, Check, Read as ReadNow, ReadAt, ReplBegin, ReplPart, Notify, PrepareRemote, DepCheck, DepOk, Done, PartNow, PartAt}
use Rattle.messages.specs.declared.envelope.Envelope.{Envelope}
use Rattle.messages.specs.Topology.{TopologyValue, dc_of, shard_node}
use Rattle.messages.specs.Words.{is_same_txn, envelope}
use Rattle.messages.specs.Shard.{ShardState, ShardStep, Role, Own, Cohort, Replica, PreparedPart, BegunBallot, Decision, KeptPart, KeptBallot, quiet}
use Rattle.messages.specs.Known.{decision_of, prepared_part, kept_part, kept_ballot, standing_ballot, is_known, is_applied, has_vote, is_cohort, is_awaited, all_voted, is_met, all_met, is_asker}
use Rattle.messages.specs.Rows.{row_now}
use Rattle.messages.specs.Reads.{answer, part_at, asked_below, check_of, is_waiting, waiting_read, read_at_of, read_at_if, let_go}
use Rattle.messages.specs.Commits.{decide, hold, prepare_part, apply_part, begin_if, prepare_if, with_vote, counted_if, vote_if, early_if, yes_for, commit_if, commit_for, check_for}
use Rattle.messages.specs.Replication.{ballot_of, remote_prepare, is_ready, ready_if, ready, dep_checks, with_ballot, sent_before, repl_begin_if, with_notice, notice_if, early_notice_if, notify_for, repl_part_if, prepare_remote_for, remember_if, dep_check_for, is_unmet, with_met, met_if, dep_ok_for}
use Rattle.messages.specs.ShardEvents.{handled}
use Rattle.shard.proofs.lists.Lists.{no_truth, not_true, same_txn, any_found, all_have, found}

-- ## What comes

-- the message tells this decision
abbrev pub IsTelling : Body → TxnValue → ℕ → StampValue → Type 0
IsTelling m t commit stamp = (m ≡ Commit t commit stamp) ⊎ (m ≡ At t commit stamp)

-- the ballot of a Begin, and what is kept of a replicated write
abbrev pub begun : TxnValue → List Change → List ℕ → List WriterValue → BegunBallot
begun t rows cohorts dependencies = record { txn = t; rows = rows; cohorts = cohorts; dependencies = dependencies; stamp = None }

abbrev pub replicated : TxnValue → List Change → StampValue → List ℕ → List WriterValue → KeptBallot
replicated t rows stamp cohorts dependencies = record { txn = t; rows = rows; stamp = stamp; cohorts = cohorts; dependencies = dependencies }

abbrev pub copied : TxnValue → List Change → StampValue → ℕ → KeptPart
copied t rows stamp coordinator = record { txn = t; rows = rows; stamp = stamp; coordinator = coordinator }

-- a shard with one more early vote, with one more asker
abbrev pub with_early : ShardState → TxnValue → ℕ → ShardState
with_early a t node = record a { early = a.early ++ record { txn = t; node = node } ∷ [] }

abbrev pub with_asker : ShardState → TxnValue → TxnValue → ℕ → ShardState
with_asker a dependency waiter from = record a { askers = a.askers ++ record { dependency = dependency; waiter = waiter; from = from } ∷ [] }

-- the ballot of the transaction was begun, and the transaction isn't decided
pub record Stands (t : TxnValue) (a : ShardState) (b : BegunBallot) : Type 0 where
  pub among : Contains a.ballots b
  pub txn : b.txn ≡ t
  pub undecided : is_some (decision_of t a) ≡ false

standing : (t : TxnValue) (a : ShardState) (b : BegunBallot) → standing_ballot t a ≡ Some b → Stands t a b
standing t a b e = go (is_some (decision_of t a)) refl e
  where
    go : (c : Bool) → is_some (decision_of t a) ≡ c → (if c then None else find (λ z. is_same_txn z.txn t) a.ballots) ≡ Some b → Stands t a b
    go true none f = absurd (cc)
    go false none f =
        let m = found (λ (z : BegunBallot). is_same_txn z.txn t) a.ballots b f in record { among = m.0; txn = same_txn b.txn t m.1; undecided = none }

-- Nothing is to be done with the message: what it is about is known, or not awaited, or there already
abbrev pub Ignored : TopologyValue → ℕ → ShardState → ℕ → Body → Type 0
Ignored top me a from (Begin t rows cohorts dependencies) = is_known t a ≡ true
Ignored top me a from (Prepare t rows coordinator) = is_known t a ≡ true
Ignored top me a from (Yes t) =
    ((b : BegunBallot) × Stands t a b × (is_awaited top me b.cohorts a.votes t from ≡ false))
    ⊎ ((standing_ballot t a ≡ None) × ((is_known t a ≡ true) ⊎ (has_vote a.early t from ≡ true)))
Ignored top me a from (Commit t commit stamp) =
    (prepared_part t a ≡ None) ⊎ ((p : PreparedPart) × Contains a.prepared p × (p.txn ≡ t) × ((p.role ≡ Own) ⊎ (is_applied p.txn a ≡ true)))
Ignored top me a from (At t commit stamp) =
    (prepared_part t a ≡ None) ⊎ ((p : PreparedPart) × Contains a.prepared p × (p.txn ≡ t) × ((p.role ≡ Own) ⊎ (is_applied p.txn a ≡ true)))
Ignored top me a from (NotBy t time) = ⊥
Ignored top me a from (Check t time) = ⊥
Ignored top me a from (ReadNow number read) = ⊥
Ignored top me a from (ReadAt number time read) = is_waiting a from number ≡ true
Ignored top me a from (ReplBegin cohorts t rows stamp dependencies) = is_known t a ≡ true
Ignored top me a from (ReplPart t rows stamp coordinator) = is_known t a ≡ true
Ignored top me a from (Notify t) =
    ((r : KeptBallot) × Contains a.kept_ballots r × (r.txn ≡ t) × (is_awaited top me r.cohorts a.notices t from ≡ false))
    ⊎ ((kept_ballot t a ≡ None) × ((is_known t a ≡ true) ⊎ (has_vote a.notices t from ≡ true)))
Ignored top me a from (PrepareRemote t) = (kept_part t a ≡ None) ⊎ (is_some (prepared_part t a) ≡ true)
Ignored top me a from (DepCheck dependency waiter) = (decision_of dependency a ≡ None) × (is_asker a.askers dependency waiter from ≡ true)
Ignored top me a from (DepOk dependency waiter commit) =
    (kept_ballot waiter a ≡ None) ⊎ ((r : KeptBallot) × Contains a.kept_ballots r × (r.txn ≡ waiter) × (is_unmet a.met r dependency ≡ false))
Ignored top me a from (Done t commit stamp) = Unit {0}
Ignored top me a from (PartNow number rows) = Unit {0}
Ignored top me a from (PartAt number time answer) = Unit {0}

-- The message brings a replicated ballot, or one of the things that it waits for: this is stored, and these are sent
-- first.
pub data Brings (top : TopologyValue) (me n : ℕ) (a : ShardState) (from : ℕ) : Body → KeptBallot → ShardState → List Envelope → Type 0 where
  the_ballot : (t : TxnValue) (rows : List Change) (stamp : StampValue) (cohorts : List ℕ) (dependencies : List WriterValue) → is_known t a ≡ false
      → Brings top me n a from (ReplBegin cohorts t rows stamp dependencies) (replicated t rows stamp cohorts dependencies)
      (with_ballot a (replicated t rows stamp cohorts dependencies)) (dep_checks top me n (replicated t rows stamp cohorts dependencies))
  a_notice : (t : TxnValue) (r : KeptBallot) → Contains a.kept_ballots r → r.txn ≡ t → is_awaited top me r.cohorts a.notices t from ≡ true
      → is_ready top me a r ≡ false
      → Brings top me n a from (Notify t) r (with_notice a r.txn from) []
  an_answer : (dependency waiter : TxnValue) (commit : ℕ) (r : KeptBallot) → Contains a.kept_ballots r → r.txn ≡ waiter
      → is_unmet a.met r dependency ≡ true → is_ready top me a r ≡ false
      → Brings top me n a from (DepOk dependency waiter commit) r (with_met a r.txn dependency) []

-- ## What is made of it

-- what a shard with a kept ballot makes of it, by whether something is missing and whether there are cohorts
pub data ReadyStep (top : TopologyValue) (me n : ℕ) (b : ShardState) (r : KeptBallot) : ShardStep → Type 0 where
  misses : is_ready top me b r ≡ false → ReadyStep top me n b r (quiet n b)
  alone : is_ready top me b r ≡ true → r.cohorts ≡ [] → ReadyStep top me n b r (decide top me n b (ballot_of r))
  asks : is_ready top me b r ≡ true → (c : ℕ) (cs : List ℕ) → r.cohorts ≡ c ∷ cs
      → ReadyStep top me n b r
      (hold top me n b (ballot_of r) [] (map (λ s. envelope me (shard_node top (dc_of top me) s) n (PrepareRemote r.txn)) (c ∷ cs)))

-- what the shard makes of a message
pub data StepOf (top : TopologyValue) (me n : ℕ) (a : ShardState) (from : ℕ) : Body → ShardStep → Type 0 where
  still : {m : Body} → Ignored top me a from m → StepOf top me n a from m (quiet n a)
  -- Begin, Prepare, Yes
  begin_decides : (t : TxnValue) (rows : List Change) (cohorts : List ℕ) (dependencies : List WriterValue) → is_known t a ≡ false
      → all_voted top me cohorts a.early t ≡ true
      → StepOf top me n a from (Begin t rows cohorts dependencies) (decide top me n a (begun t rows cohorts dependencies))
  begin_holds : (t : TxnValue) (rows : List Change) (cohorts : List ℕ) (dependencies : List WriterValue) → is_known t a ≡ false
      → all_voted top me cohorts a.early t ≡ false
      → StepOf top me n a from (Begin t rows cohorts dependencies)
      (hold top me n a (begun t rows cohorts dependencies) (filter (λ v. is_same_txn v.txn t) a.early) [])
  prepares : (t : TxnValue) (rows : List Change) (coordinator : ℕ) → is_known t a ≡ false
      → StepOf top me n a from (Prepare t rows coordinator) (prepare_part top me n a t rows coordinator Cohort)
  vote_decides : (t : TxnValue) (b : BegunBallot) → Stands t a b → is_awaited top me b.cohorts a.votes t from ≡ true
      → all_voted top me b.cohorts (with_vote a b.txn from).votes b.txn ≡ true
      → StepOf top me n a from (Yes t) (decide top me n (with_vote a b.txn from) b)
  vote_counts : (t : TxnValue) (b : BegunBallot) → Stands t a b → is_awaited top me b.cohorts a.votes t from ≡ true
      → all_voted top me b.cohorts (with_vote a b.txn from).votes b.txn ≡ false
      → StepOf top me n a from (Yes t) (quiet n (with_vote a b.txn from))
  vote_early : (t : TxnValue) → standing_ballot t a ≡ None → is_known t a ≡ false → has_vote a.early t from ≡ false
      → StepOf top me n a from (Yes t) (quiet n (with_early a t from))
  -- Commit and At, NotBy, Check
  applies : {m : Body} (t : TxnValue) (commit : ℕ) (stamp : StampValue) → IsTelling m t commit stamp → (p : PreparedPart) → Contains a.prepared p → p.txn ≡ t
      → (p.role ≡ Own → ⊥) → is_applied p.txn a ≡ false
      → StepOf top me n a from m (apply_part top me n a p commit stamp)
  lets_go : (t : TxnValue) (time : ℕ) → StepOf top me n a from (NotBy t time) (let_go me n a t (λ x. nat_le x.time time) [])
  tells_commit : (t : TxnValue) (time : ℕ) (d : Decision) → Contains a.decided d → d.txn ≡ t
      → StepOf top me n a from (Check t time) (answer n a (envelope me from n (At t d.commit d.stamp)))
  tells_none : (t : TxnValue) (time : ℕ) → decision_of t a ≡ None
      → StepOf top me n a from (Check t time) (answer n a (envelope me from n (NotBy t time)))
  -- Read and ReadAt
  reads_now : (number : ℕ) (read : Read)
      → StepOf top me n a from (ReadNow number read) (answer n a (envelope me from n (PartNow number (map (row_now n a read) read.keys))))
  reads_collected : (number time : ℕ) (read : Read) → is_waiting a from number ≡ false → nat_lt time a.low ≡ true
      → StepOf top me n a from (ReadAt number time read) (answer n a (envelope me from n (PartAt number time at.Collected)))
  reads_at : (number time : ℕ) (read : Read) → is_waiting a from number ≡ false → nat_lt time a.low ≡ false → asked_below a time read ≡ []
      → StepOf top me n a from (ReadAt number time read) (answer n a (part_at me n a (waiting_read from number time read [])))
  waits : (number time : ℕ) (read : Read) → is_waiting a from number ≡ false → nat_lt time a.low ≡ false
      → (w : WriterValue) (ws : List WriterValue) → asked_below a time read ≡ w ∷ ws
      → StepOf top me n a from (ReadAt number time read)
      (record {
        state = record a { clock = n; waiting = a.waiting ++ waiting_read from number time read (w ∷ ws) ∷ [] };
        sends = map (check_of top me n time) (w ∷ ws);
      })
  -- a write of another data centre
  readies : {m : Body} {r : KeptBallot} {b : ShardState} {first : List Envelope} {st : ShardStep} → Brings top me n a from m r b first
      → ReadyStep top me n b r st → StepOf top me n a from m (sent_before first st)
  notice_early : (t : TxnValue) → kept_ballot t a ≡ None → is_known t a ≡ false → has_vote a.notices t from ≡ false
      → StepOf top me n a from (Notify t) (quiet n (with_notice a t from))
  keeps_part : (t : TxnValue) (rows : List Change) (stamp : StampValue) (coordinator : ℕ) → is_known t a ≡ false
      → StepOf top me n a from (ReplPart t rows stamp coordinator)
      (answer n (record a { kept_parts = a.kept_parts ++ copied t rows stamp coordinator ∷ [] })
      (envelope me (shard_node top (dc_of top me) coordinator) n (Notify t)))
  prepares_replica : (t : TxnValue) (k : KeptPart) → Contains a.kept_parts k → k.txn ≡ t → is_some (prepared_part t a) ≡ false
      → StepOf top me n a from (PrepareRemote t) (prepare_part top me n a k.txn k.rows k.coordinator Replica)
  -- DepCheck
  tells_decided : (dependency waiter : TxnValue) (d : Decision) → Contains a.decided d → d.txn ≡ dependency
      → StepOf top me n a from (DepCheck dependency waiter) (answer n a (envelope me from n (DepOk dependency waiter d.commit)))
  remembers : (dependency waiter : TxnValue) → decision_of dependency a ≡ None → is_asker a.askers dependency waiter from ≡ false
      → StepOf top me n a from (DepCheck dependency waiter) (quiet n (with_asker a dependency waiter from))

-- ## Every message is one of these cases

-- a ballot that awaits a notice, or whose dependency isn't answered, misses something
awaited_unready : (top : TopologyValue) (me : ℕ) (a : ShardState) (r : KeptBallot) (t : TxnValue) (node : ℕ) → r.txn ≡ t
    → is_awaited top me r.cohorts a.notices t node ≡ true → is_ready top me a r ≡ false
awaited_unready top me a r t node same awaited = go (is_ready top me a r) refl
  where
    go : (b : Bool) → is_ready top me a r ≡ b → b ≡ false
    go false is = refl
    go true is =
        let w = both_true (is_cohort top me r.cohorts node) (not (has_vote a.notices t node)) awaited in
        let s = any_found (λ c. shard_node top (dc_of top me) c == node) r.cohorts w.0 in
        let all = (both_true (all_voted top me r.cohorts a.notices r.txn) (all_met a.met r.txn r.dependencies) is).0 in
        let has = all_have (λ c. has_vote a.notices r.txn (shard_node top (dc_of top me) c)) r.cohorts s.0 all s.1 in
        let here = subst (λ u. has_vote a.notices u node ≡ true) same
        (subst (λ m. has_vote a.notices r.txn m ≡ true) (eqb-true (shard_node top (dc_of top me) s.0) node s.2) has) in
        absurd (no_truth (has_vote a.notices t node) here (not_true _ w.1))

unmet_unready : (top : TopologyValue) (me : ℕ) (a : ShardState) (r : KeptBallot) (dependency : TxnValue) → is_unmet a.met r dependency ≡ true
    → is_ready top me a r ≡ false
unmet_unready top me a r dependency unmet = go (is_ready top me a r) refl
  where
    go : (b : Bool) → is_ready top me a r ≡ b → b ≡ false
    go false is = refl
    go true is =
        let u = both_true (list_any (λ w. is_same_txn w.txn dependency) r.dependencies) (not (is_met a.met r.txn dependency)) unmet in
        let w = any_found (λ (z : WriterValue). is_same_txn z.txn dependency) r.dependencies u.0 in
        let all = (both_true (all_voted top me r.cohorts a.notices r.txn) (all_met a.met r.txn r.dependencies) is).1 in
        let has = all_have (λ (z : WriterValue). is_met a.met r.txn z.txn) r.dependencies w.0 all w.1 in
        absurd (no_truth (is_met a.met r.txn dependency) (subst (λ d. is_met a.met r.txn d ≡ true) (same_txn w.0.txn dependency w.2) has) (not_true _ u.1))

pub ready_cases : (top : TopologyValue) (me n : ℕ) (b : ShardState) (r : KeptBallot) → ReadyStep top me n b r (ready top me n b r)
ready_cases top me n b r = go (is_ready top me b r) refl
  where
    by : is_ready top me b r ≡ true → (cs : List ℕ) → r.cohorts ≡ cs → ReadyStep top me n b r (remote_prepare cs top me n b r)
    by e [] q = alone e q
    by e (c ∷ cs) q = asks e c cs q

    go : (is : Bool) → is_ready top me b r ≡ is → ReadyStep top me n b r (ready_if is top me n b r)
    go true e = by e r.cohorts refl
    go false e = misses e

module _ (top : TopologyValue) (me n : ℕ) (a : ShardState) (from : ℕ) where
  begin_cases : (t : TxnValue) (rows : List Change) (cohorts : List ℕ) (dependencies : List WriterValue) (known voted : Bool) → is_known t a ≡ known
      → all_voted top me cohorts a.early t ≡ voted
      → StepOf top me n a from (Begin t rows cohorts dependencies) (begin_if known voted top me n a (begun t rows cohorts dependencies))
  begin_cases t rows cohorts dependencies true voted e f = still e
  begin_cases t rows cohorts dependencies false true e f = begin_decides t rows cohorts dependencies e f
  begin_cases t rows cohorts dependencies false false e f = begin_holds t rows cohorts dependencies e f

  prepare_cases : (t : TxnValue) (rows : List Change) (coordinator : ℕ) (known : Bool) → is_known t a ≡ known
      → StepOf top me n a from (Prepare t rows coordinator) (prepare_if known top me n a t rows coordinator)
  prepare_cases t rows coordinator true e = still e
  prepare_cases t rows coordinator false e = prepares t rows coordinator e

  vote_cases : (t : TxnValue) (b : BegunBallot) → Stands t a b → (awaited : Bool) → is_awaited top me b.cohorts a.votes t from ≡ awaited
      → StepOf top me n a from (Yes t) (vote_if awaited top me n a b from)
  vote_cases t b is false e = still (inl (b, is, e))
  vote_cases t b is true e = last (all_voted top me b.cohorts (with_vote a b.txn from).votes b.txn) refl
    where
      last : (voted : Bool) → all_voted top me b.cohorts (with_vote a b.txn from).votes b.txn ≡ voted
          → StepOf top me n a from (Yes t) (counted_if voted top me n (with_vote a b.txn from) b)
      last true f = vote_decides t b is e f
      last false f = vote_counts t b is e f

  early_cases : (t : TxnValue) → standing_ballot t a ≡ None → (known kept : Bool) → is_known t a ≡ known → has_vote a.early t from ≡ kept
      → StepOf top me n a from (Yes t) (early_if known kept n a t from)
  early_cases t is true kept e f = still (inr (is, inl e))
  early_cases t is false true e f = still (inr (is, inr f))
  early_cases t is false false e f = vote_early t is e f

  yes_cases : (t : TxnValue) (o : Option BegunBallot) → standing_ballot t a ≡ o → StepOf top me n a from (Yes t) (yes_for o top me n a t from)
  yes_cases t (Some b) is = vote_cases t b (standing t a b is) (is_awaited top me b.cohorts a.votes t from) refl
  yes_cases t None is = early_cases t is (is_known t a) (has_vote a.early t from) refl refl

  role_cases : (m : Body) (t : TxnValue) (commit : ℕ) (stamp : StampValue) → IsTelling m t commit stamp → (p : PreparedPart) → Contains a.prepared p → p.txn ≡ t
      → ((p.role ≡ Own) ⊎ (is_applied p.txn a ≡ true) → Ignored top me a from m) → (role : Role) → p.role ≡ role
      → (applied : Bool) → is_applied p.txn a ≡ applied → StepOf top me n a from m (commit_if role applied top me n a p commit stamp)
  role_cases m t commit stamp tells p has is none Own r applied e = still (none (inl r))
  role_cases m t commit stamp tells p has is none Cohort r true e = still (none (inr e))
  role_cases m t commit stamp tells p has is none Cohort r false e = applies t commit stamp tells p has is (λ own. (let same : Cohort ≡ Own = sym r ∙ own in cc)) e
  role_cases m t commit stamp tells p has is none Replica r true e = still (none (inr e))
  role_cases m t commit stamp tells p has is none Replica r false e = applies t commit stamp tells p has is (λ own. (let same : Replica ≡ Own = sym r ∙ own in cc)) e

  commit_cases : (m : Body) (t : TxnValue) (commit : ℕ) (stamp : StampValue) → IsTelling m t commit stamp
      → ((prepared_part t a ≡ None) ⊎ ((p : PreparedPart) × Contains a.prepared p × (p.txn ≡ t) × ((p.role ≡ Own) ⊎ (is_applied p.txn a ≡ true))) → Ignored top me a from m)
      → (o : Option PreparedPart) → prepared_part t a ≡ o → StepOf top me n a from m (commit_for o top me n a commit stamp)
  commit_cases m t commit stamp tells none None is = still (none (inl is))
  commit_cases m t commit stamp tells none (Some p) is =
      let f = found (λ (x : PreparedPart). is_same_txn x.txn t) a.prepared p is in
      let same = same_txn p.txn t f.1 in
      role_cases m t commit stamp tells p f.0 same (λ k. none (inr (p, f.0, same, k))) p.role refl (is_applied p.txn a) refl

  check_cases : (t : TxnValue) (time : ℕ) (o : Option Decision) → decision_of t a ≡ o → StepOf top me n a from (Check t time) (check_for o me n a from t time)
  check_cases t time (Some d) is =
      let f = found (λ (x : Decision). is_same_txn x.txn t) a.decided d is in tells_commit t time d f.0 (same_txn d.txn t f.1)
  check_cases t time None is = tells_none t time is

  read_at_cases : (number time : ℕ) (read : Read) (waiting below : Bool) → is_waiting a from number ≡ waiting → nat_lt time a.low ≡ below
      → StepOf top me n a from (ReadAt number time read) (read_at_if waiting below top me n a from number time read)
  read_at_cases number time read true below e f = still e
  read_at_cases number time read false true e f = reads_collected number time read e f
  read_at_cases number time read false false e f = asked (asked_below a time read) refl
    where
      asked : (ws : List WriterValue) → asked_below a time read ≡ ws
          → StepOf top me n a from (ReadAt number time read) (read_at_of ws top me n a from number time read)
      asked [] q = reads_at number time read e f q
      asked (w ∷ ws) q = waits number time read e f w ws q

  repl_begin_cases : (t : TxnValue) (rows : List Change) (stamp : StampValue) (cohorts : List ℕ) (dependencies : List WriterValue) (known : Bool)
      → is_known t a ≡ known
      → StepOf top me n a from (ReplBegin cohorts t rows stamp dependencies) (repl_begin_if known top me n a (replicated t rows stamp cohorts dependencies))
  repl_begin_cases t rows stamp cohorts dependencies true e = still e
  repl_begin_cases t rows stamp cohorts dependencies false e =
      let r = replicated t rows stamp cohorts dependencies in
      readies (the_ballot t rows stamp cohorts dependencies e) (ready_cases top me n (with_ballot a r) r)

  repl_part_cases : (t : TxnValue) (rows : List Change) (stamp : StampValue) (coordinator : ℕ) (known : Bool) → is_known t a ≡ known
      → StepOf top me n a from (ReplPart t rows stamp coordinator) (repl_part_if known top me n a (copied t rows stamp coordinator))
  repl_part_cases t rows stamp coordinator true e = still e
  repl_part_cases t rows stamp coordinator false e = keeps_part t rows stamp coordinator e

  notify_cases : (t : TxnValue) (o : Option KeptBallot) → kept_ballot t a ≡ o → StepOf top me n a from (Notify t) (notify_for o top me n a t from)
  notify_cases t (Some r) is =
      let f = found (λ (x : KeptBallot). is_same_txn x.txn t) a.kept_ballots r is in
      awaited f.0 (same_txn r.txn t f.1) (is_awaited top me r.cohorts a.notices t from) refl
    where
      awaited : Contains a.kept_ballots r → r.txn ≡ t → (b : Bool) → is_awaited top me r.cohorts a.notices t from ≡ b
          → StepOf top me n a from (Notify t) (notice_if b top me n a r from)
      awaited has same false e = still (inl (r, has, same, e))
      awaited has same true e = readies (a_notice t r has same e (awaited_unready top me a r t from same e)) (ready_cases top me n (with_notice a r.txn from) r)
  notify_cases t None is = early (is_known t a) (has_vote a.notices t from) refl refl
    where
      early : (known kept : Bool) → is_known t a ≡ known → has_vote a.notices t from ≡ kept
          → StepOf top me n a from (Notify t) (early_notice_if known kept n a t from)
      early true kept e f = still (inr (is, inl e))
      early false true e f = still (inr (is, inr f))
      early false false e f = notice_early t is e f

  prepare_remote_cases : (t : TxnValue) (o : Option KeptPart) (prepared : Bool) → kept_part t a ≡ o → is_some (prepared_part t a) ≡ prepared
      → StepOf top me n a from (PrepareRemote t) (prepare_remote_for o prepared top me n a)
  prepare_remote_cases t None prepared is e = still (inl is)
  prepare_remote_cases t (Some k) true is e = still (inr e)
  prepare_remote_cases t (Some k) false is e =
      let f = found (λ (x : KeptPart). is_same_txn x.txn t) a.kept_parts k is in prepares_replica t k f.0 (same_txn k.txn t f.1) e

  dep_check_cases : (dependency waiter : TxnValue) (o : Option Decision) → decision_of dependency a ≡ o
      → StepOf top me n a from (DepCheck dependency waiter) (dep_check_for o me n a (record { dependency = dependency; waiter = waiter; from = from }))
  dep_check_cases dependency waiter (Some d) is =
      let f = found (λ (x : Decision). is_same_txn x.txn dependency) a.decided d is in tells_decided dependency waiter d f.0 (same_txn d.txn dependency f.1)
  dep_check_cases dependency waiter None is = asked (is_asker a.askers dependency waiter from) refl
    where
      asked : (b : Bool) → is_asker a.askers dependency waiter from ≡ b
          → StepOf top me n a from (DepCheck dependency waiter) (remember_if b n a (record { dependency = dependency; waiter = waiter; from = from }))
      asked true e = still (is, e)
      asked false e = remembers dependency waiter is e

  dep_ok_cases : (dependency waiter : TxnValue) (commit : ℕ) (o : Option KeptBallot) → kept_ballot waiter a ≡ o
      → StepOf top me n a from (DepOk dependency waiter commit) (dep_ok_for o top me n a dependency)
  dep_ok_cases dependency waiter commit None is = still (inl is)
  dep_ok_cases dependency waiter commit (Some r) is =
      let f = found (λ (x : KeptBallot). is_same_txn x.txn waiter) a.kept_ballots r is in
      unmet f.0 (same_txn r.txn waiter f.1) (is_unmet a.met r dependency) refl
    where
      unmet : Contains a.kept_ballots r → r.txn ≡ waiter → (b : Bool) → is_unmet a.met r dependency ≡ b
          → StepOf top me n a from (DepOk dependency waiter commit) (met_if b top me n a r dependency)
      unmet has same false e = still (inr (r, has, same, e))
      unmet has same true e =
          readies (an_answer dependency waiter commit r has same e (unmet_unready top me a r dependency e)) (ready_cases top me n (with_met a r.txn dependency) r)

  pub handled_cases : (m : Body) → StepOf top me n a from m (handled top me n a from m)
  handled_cases (Begin t rows cohorts dependencies) =
      begin_cases t rows cohorts dependencies (is_known t a) (all_voted top me cohorts a.early t) refl refl
  handled_cases (Prepare t rows coordinator) = prepare_cases t rows coordinator (is_known t a) refl
  handled_cases (Yes t) = yes_cases t (standing_ballot t a) refl
  handled_cases (Commit t commit stamp) = commit_cases (Commit t commit stamp) t commit stamp (inl refl) (λ k. k) (prepared_part t a) refl
  handled_cases (At t commit stamp) = commit_cases (At t commit stamp) t commit stamp (inr refl) (λ k. k) (prepared_part t a) refl
  handled_cases (NotBy t time) = lets_go t time
  handled_cases (Check t time) = check_cases t time (decision_of t a) refl
  handled_cases (ReadNow number read) = reads_now number read
  handled_cases (ReadAt number time read) = read_at_cases number time read (is_waiting a from number) (nat_lt time a.low) refl refl
  handled_cases (ReplBegin cohorts t rows stamp dependencies) = repl_begin_cases t rows stamp cohorts dependencies (is_known t a) refl
  handled_cases (ReplPart t rows stamp coordinator) = repl_part_cases t rows stamp coordinator (is_known t a) refl
  handled_cases (Notify t) = notify_cases t (kept_ballot t a) refl
  handled_cases (PrepareRemote t) = prepare_remote_cases t (kept_part t a) (is_some (prepared_part t a)) refl refl
  handled_cases (DepCheck dependency waiter) = dep_check_cases dependency waiter (decision_of dependency a) refl
  handled_cases (DepOk dependency waiter commit) = dep_ok_cases dependency waiter commit (kept_ballot waiter a) refl
  handled_cases (Done t commit stamp) = still tt
  handled_cases (PartNow number rows) = still tt
  handled_cases (PartAt number time answer) = still tt

-- What is known of an event at which the step only moves the clock: all else would grow a list, or send something.
use Rattle.std.proofs.Common.{◌≡◌, ◌∙◌, sym, ap, refl, ℕ, ◌≤◌, Bool, true, false, List, [], ◌∷◌, ◌++◌, Option, Some, None, map, length, is_some, arith}
use Rattle.std.specs.Prelude.{nat_lt, option_map, ◌==◌}
use Rattle.logical_time.specs.Stamps.{StampValue, TxnValue, WriterValue}
use Rattle.column_family.specs.declared.batch.Change.{Change}
use Rattle.column_family.proofs.Options.{by_cases}
use Rattle.slice.specs.declared.read.Read.{Read}
use Rattle.store.specs.declared.part.Applied.{Applied}
use Rattle.txn_state.specs.RemoteBallot.{missing_in}
use Rattle.txn_state.specs.Votes.{is_among}
use Rattle.dependencies.specs.Askers.{askers_of}
use Rattle.messages.specs.declared.envelope.Envelope.{Envelope}
use Rattle.messages.specs.Topology.{TopologyValue, shard_of}
use Rattle.messages.specs.Shard.{ShardState, ShardStep, BegunBallot, PreparedPart, Decision, Asker, KeptPart, KeptBallot, Own, quiet}
use Rattle.messages.specs.Known.{decision_of, is_asker}
use Rattle.messages.specs.Commits.{applied_part, check_for, early_if, on_begin, on_check, on_commit, on_not_by, on_prepare, on_yes, stamp_for}
use Rattle.messages.specs.Reads.{asked_below, at_time, on_read, on_read_at, part_at, read_at_if, read_at_of}
use Rattle.messages.specs.Replication.{early_notice_if, is_ready, on_dep_check, on_notify, on_prepare_remote, on_repl_begin, on_repl_part, dep_check_for, ready, ready_if, remember_if, remote_prepare, with_ballot}
use Rattle.commit_check.specs.declared.cause.Cause.TheVariants.{NotBy}
use Rattle.commit_check.specs.Waiting as in_waiting
use Rattle.write_txn.specs.declared.open.Missing.{Missing}
use Rattle.write_txn.specs.declared.open.Open.TheVariants as in_open
use Rattle.write_txn.specs.declared.open.Remote.{Remote}
use Rattle.write_txn.specs.Ledger.{LedgerValue, State, Holds, IsApplied, IsDecided, state_of, open_in, decided_in, part_in, completed_by, lacks_nothing, remote_with, state_with}
use Rattle.write_txn.specs.Voters.{voters_of}
use Rattle.write_txn.specs.View.{nodes_for, near_nodes, left_of, view_of}
use Rattle.write_txn.specs.Stands.{begun_of, kept_ballot_of, own_part}
use Rattle.write_txn.proofs.Finds.{found_txn}
use Rattle.write_txn.proofs.Bodies.{begin_unvoted, begin_voted, commit_applies, decision_if, prepare_unknown, yes_decides, yes_early}
use Rattle.write_txn.proofs.Answering.{notice_early}
use Rattle.write_txn.proofs.Readying.{KeepsBallot, is_alone, readies_alone, readies_with_cohorts, repl_begin_unknown}
use Rattle.write_txn.proofs.Replicas.{is_kept, prepare_remote_kept, repl_part_unknown}
use Rattle.shard.specs.declared.kept.ShardKept.{ShardKept}
use Rattle.shard.specs.Counting.{on_missing}
use Rattle.shard.specs.Kept.{Represents}
use Rattle.shard.proofs.in_code.Applying.{which_part}
use Rattle.shard.proofs.in_code.AskerSteps.{own_askers}
use Rattle.shard.proofs.in_code.InPlace.{stands_so}
use Rattle.shard.proofs.in_code.LastVotes.{which_ballot}
use Rattle.shard.proofs.in_code.NoticeSteps.{missing_counts}
use Rattle.shard.proofs.in_code.PartSteps.{known_open}

-- ## Growth

-- a list with one more isn't what it was
grown : {T : Type 0} (xs : List T) (x : T) → xs ++ x ∷ [] ≡ xs → ⊥
grown [] x e = cc
grown (y ∷ ys) x e = grown ys x (let f : ys ++ x ∷ [] ≡ ys = cc in f)

-- what can't be unknown is known
known_else : (o : Option State) → (o ≡ None → ⊥) → is_some o ≡ true
known_else None h = absurd (h refl)
known_else (Some s) h = refl

-- what can't be true is false
false_else : (b : Bool) → (b ≡ true → ⊥) → b ≡ false
false_else true h = absurd (h refl)
false_else false h = refl

-- what is true isn't false
pub contrary : {P : Type 0} (b : Bool) → b ≡ true → b ≡ false → P
contrary b e f = absurd (let g : true ≡ false = sym e ∙ f in cc)

none_mapped : {A B : Type 0} (f : A → B) (xs : List A) → map f xs ≡ [] → xs ≡ []
none_mapped f [] e = refl
none_mapped f (x ∷ xs) e = absurd (cc)

-- ## Parts

-- Prepare of an unknown transaction sends a Yes
pub prepared_before : (top : TopologyValue) (me n : ℕ) (k : ShardKept) (a : ShardState) (t : TxnValue) (rows : List Change) (coordinator : ℕ)
    → Represents top me k a → on_prepare top me n a t rows coordinator ≡ quiet n a → is_some (state_of k.transactions.ledger t) ≡ true
prepared_before top me n k a t rows coordinator r e = known_else (state_of k.transactions.ledger t)
    (λ unknown. let is = prepare_unknown top me n a t rows coordinator (stands_so top me k a t None r unknown) in
    let f = ap (λ (s : ShardStep). s.sends) (sym is ∙ e) in cc)

-- ReplPart of an unknown transaction sends a Notify
pub kept_before : (top : TopologyValue) (me n : ℕ) (k : ShardKept) (a : ShardState) (p : KeptPart)
    → Represents top me k a → on_repl_part top me n a p ≡ quiet n a → is_some (state_of k.transactions.ledger p.txn) ≡ true
kept_before top me n k a p r e = known_else (state_of k.transactions.ledger p.txn)
    (λ unknown. let is = repl_part_unknown top me n a p (stands_so top me k a p.txn None r unknown) in
    let f = ap (λ (s : ShardStep). s.sends) (sym is ∙ e) in cc)

-- PrepareRemote of a part that is kept sends a Yes
pub unkept : (top : TopologyValue) (me n : ℕ) (k : ShardKept) (a : ShardState) (t : TxnValue)
    → Represents top me k a → on_prepare_remote top me n a t ≡ quiet n a → is_kept (state_of k.transactions.ledger t) ≡ false
unkept top me n k a t r e = go (state_of k.transactions.ledger t) refl
  where
    go : (o : Option State) → state_of k.transactions.ledger t ≡ o → is_kept o ≡ false
    go None f = refl
    go (Some (Holds (in_open.Kept h))) f =
        let is = prepare_remote_kept top me n a t h (stands_so top me k a t (Some (Holds (in_open.Kept h))) r f) in
        let g = ap (λ (s : ShardStep). s.sends) (sym is ∙ e) in absurd (cc)
    go (Some (Holds (in_open.Part p))) f = refl
    go (Some (Holds (in_open.Led l))) f = refl
    go (Some (Holds (in_open.Remote b))) f = refl
    go (Some IsApplied) f = refl
    go (Some (IsDecided commit stamp)) f = refl

-- ## Commit, and At

-- a part that is prepared is applied
pub unprepared : (top : TopologyValue) (me n : ℕ) (k : ShardKept) (a : ShardState) (t : TxnValue) (commit : ℕ) (stamp : StampValue)
    → Represents top me k a → on_commit top me n a t commit stamp ≡ quiet n a → is_some (part_in (state_of k.transactions.ledger t)) ≡ false
unprepared top me n k a t commit stamp r e = false_else (is_some (part_in (state_of k.transactions.ledger t))) impossible
  where
    impossible : is_some (part_in (state_of k.transactions.ledger t)) ≡ true → ⊥
    impossible f =
        let w = which_part (state_of k.transactions.ledger t) f in
        let stands = stands_so top me k a t (Some (Holds (in_open.Part w.0))) r w.1 in
        let is = commit_applies top me n a t w.0 commit stamp (found_txn a.prepared t w.0 stands.prepared) stands in
        grown a.applied (applied_part w.0.txn w.0.coordinator w.0.rows commit stamp) (ap (λ (s : ShardStep). s.state.applied) (sym is ∙ e))

-- ## Begin

-- Begin of an unknown transaction decides it, or prepares the coordinator's own part
pub begun_before : (top : TopologyValue) (me n : ℕ) (k : ShardKept) (a : ShardState) (b : BegunBallot)
    → Represents top me k a → on_begin top me n a b ≡ quiet n a → is_some (state_of k.transactions.ledger b.txn) ≡ true
begun_before top me n k a b r e = known_else (state_of k.transactions.ledger b.txn) impossible
  where
    impossible : state_of k.transactions.ledger b.txn ≡ None → ⊥
    impossible unknown =
        let stands = stands_so top me k a b.txn None r unknown in
        by_cases (length (left_of (near_nodes top me b.cohorts) (view_of b.txn a).early) == 0)
        (λ all. grown a.decided (record { txn = b.txn; commit = n; stamp = stamp_for me n b.stamp })
        (ap (λ (s : ShardStep). s.state.decided) (sym (begin_voted top me n a b stands all) ∙ e)))
        (λ more. grown a.prepared (record { txn = b.txn; rows = b.rows; coordinator = shard_of top me; time = n; role = Own })
        (ap (λ (s : ShardStep). s.state.prepared) (sym (begin_unvoted top me n a b stands more) ∙ e)))

-- ## Yes

-- the last vote decides
pub not_last : (top : TopologyValue) (me n node : ℕ) (k : ShardKept) (a : ShardState) (t : TxnValue)
    → Represents top me k a → on_yes top me n a node t ≡ quiet n a → is_some (completed_by node (state_of k.transactions.ledger t)) ≡ false
not_last top me n node k a t r e = false_else (is_some (completed_by node (state_of k.transactions.ledger t))) impossible
  where
    impossible : is_some (completed_by node (state_of k.transactions.ledger t)) ≡ true → ⊥
    impossible last =
        let w = which_ballot node (state_of k.transactions.ledger t) last in
        let stands = stands_so top me k a t (Some (Holds (in_open.Led w.0))) r w.1 in
        let is = yes_decides top me n a t w.0 node (found_txn a.prepared t (own_part w.0) stands.prepared) stands w.2 in
        grown a.decided (record { txn = (begun_of w.0).txn; commit = n; stamp = stamp_for me n w.0.stamp }) (ap (λ (s : ShardStep). s.state.decided) (sym is ∙ e))

-- an early vote is kept, once
pub voted_before : (top : TopologyValue) (me n node : ℕ) (k : ShardKept) (a : ShardState) (t : TxnValue)
    → Represents top me k a → on_yes top me n a node t ≡ quiet n a → state_of k.transactions.ledger t ≡ None → is_among (voters_of k.transactions.early t) node ≡ true
voted_before top me n node k a t r e unknown =
    ap (λ (ns : List ℕ). is_among ns node) (r.early t unknown)
    ∙ go (is_among (nodes_for a.early t) node) (sym (yes_early top me n a t node (stands_so top me k a t None r unknown)) ∙ e)
  where
    go : (b : Bool) → early_if false b n a t node ≡ quiet n a → b ≡ true
    go true f = refl
    go false f = absurd (grown a.early (record { txn = t; node = node }) (ap (λ (s : ShardStep). s.state.early) f))

-- ## Notify

-- an early notice is kept, once
pub noticed_before : (top : TopologyValue) (me n node : ℕ) (k : ShardKept) (a : ShardState) (t : TxnValue)
    → Represents top me k a → on_notify top me n a node t ≡ quiet n a → state_of k.transactions.ledger t ≡ None → is_among (voters_of k.notices t) node ≡ true
noticed_before top me n node k a t r e unknown =
    ap (λ (ns : List ℕ). is_among ns node) (r.notices t unknown)
    ∙ go (is_among (nodes_for a.notices t) node) (sym (notice_early top me n a t node (stands_so top me k a t None r unknown)) ∙ e)
  where
    go : (b : Bool) → early_notice_if false b n a t node ≡ quiet n a → b ≡ true
    go true f = refl
    go false f = absurd (grown a.notices (record { txn = t; node = node }) (ap (λ (s : ShardStep). s.state.notices) f))

-- a ballot of which nothing is missing is decided, or its own part is prepared
not_readied : (top : TopologyValue) (me n : ℕ) (t : TxnValue) (r : Remote) (a c : ShardState) → KeepsBallot top me t r a c → ready top me n c (kept_ballot_of r) ≡ quiet n a → (missing_in r.ballot == 0) ≡ false
not_readied top me n t r a c keeps e = false_else (missing_in r.ballot == 0) impossible
  where
    kr : KeptBallot
    kr = kept_ballot_of r

    applied : Applied
    applied = applied_part kr.txn (shard_of top me) kr.rows n kr.stamp

    own : PreparedPart
    own = record { txn = kr.txn; rows = kr.rows; coordinator = shard_of top me; time = n; role = Own }

    impossible : (missing_in r.ballot == 0) ≡ true → ⊥
    impossible none = by_cases (is_alone r.ballot.notices.cohorts)
        (λ alone. grown a.applied applied (ap (λ (xs : List Applied). xs ++ applied ∷ []) (sym keeps.applied)
        ∙ ap (λ (s : ShardStep). s.state.applied) (sym (readies_alone top me n t r a c keeps none alone) ∙ e)))
        (λ more. grown a.prepared own (ap (λ (ps : List PreparedPart). ps ++ own ∷ []) (sym keeps.same_parts)
        ∙ ap (λ (s : ShardStep). s.state.prepared) (sym (readies_with_cohorts top me n t r a c keeps none more) ∙ e)))

-- the last missing thing readies the ballot
pub not_last_missing : (missing : Missing) (top : TopologyValue) (me n : ℕ) (k : ShardKept) (a : ShardState) (t : TxnValue) (r : Remote)
    → Represents top me k a → on_missing missing top me n a t ≡ quiet n a → (kept_ballot_of r).txn ≡ t → open_in (state_of k.transactions.ledger t) ≡ Some (in_open.Remote r)
    → (missing_in (remote_with r missing).ballot == 0) ≡ false
not_last_missing missing top me n k a t r represents e own is =
    let h = stands_so top me k a t (Some (Holds (in_open.Remote r))) represents (known_open (state_of k.transactions.ledger t) (in_open.Remote r) is) in
    let it = missing_counts missing top me n a t r own h.0 h.1 in
    not_readied top me n t (remote_with r missing) a it.0 it.2 (sym it.1 ∙ e)

-- and another one doesn't
pub missing_waits : (missing : Missing) (t : TxnValue) (l m : LedgerValue) (r : Remote) → m ≡ l → open_in (state_of l t) ≡ Some (in_open.Remote r) → (missing_in (remote_with r missing).ballot == 0) ≡ false
    → lacks_nothing (state_with missing (state_of m t)) ≡ false
missing_waits missing t l m r same is more =
    ap (λ (s : Option State). lacks_nothing (state_with missing s)) (ap (λ (x : LedgerValue). state_of x t) same ∙ known_open (state_of l t) (in_open.Remote r) is) ∙ more

-- ## ReplBegin

ballots_stay : (b : Bool) (top : TopologyValue) (me n : ℕ) (c : ShardState) (r : KeptBallot) → (ready_if b top me n c r).state.kept_ballots ≡ c.kept_ballots
ballots_stay false top me n c r = refl
ballots_stay true top me n c r = go r.cohorts
  where
    go : (cs : List ℕ) → (remote_prepare cs top me n c r).state.kept_ballots ≡ c.kept_ballots
    go [] = refl
    go (x ∷ xs) = refl

-- the ballot of an unknown transaction is kept
pub ballot_before : (top : TopologyValue) (me n : ℕ) (k : ShardKept) (a : ShardState) (b : KeptBallot)
    → Represents top me k a → on_repl_begin top me n a b ≡ quiet n a → is_some (state_of k.transactions.ledger b.txn) ≡ true
ballot_before top me n k a b r e = known_else (state_of k.transactions.ledger b.txn)
    (λ unknown. let is = repl_begin_unknown top me n a b (stands_so top me k a b.txn None r unknown) in
    let c = with_ballot a b in
    grown a.kept_ballots b (sym (ballots_stay (is_ready top me c b) top me n c b) ∙ ap (λ (s : ShardStep). s.state.kept_ballots) (sym is ∙ e)))

-- ## Reads

-- ReadAt is answered, or comes to wait
pub waits_before : (top : TopologyValue) (me n : ℕ) (k : ShardKept) (a : ShardState) (from number time : ℕ) (read : Read)
    → Represents top me k a → on_read_at top me n a from number time read ≡ quiet n a → in_waiting.is_among from number k.waiting ≡ true
waits_before top me n k a from number time read r e =
    sym (ap (in_waiting.is_among from number) r.waiting) ∙ go (in_waiting.is_among from number a.waiting) (nat_lt time a.low) e
  where
    asks : (ws : List WriterValue) → read_at_of ws top me n a from number time read ≡ quiet n a → ⊥
    asks [] f = let g = ap (λ (s : ShardStep). s.sends) f in cc
    asks (w ∷ ws) f = let g = ap (λ (s : ShardStep). s.sends) f in cc

    go : (b low : Bool) → read_at_if b low top me n a from number time read ≡ quiet n a → b ≡ true
    go true low f = refl
    go false true f = let g = ap (λ (s : ShardStep). s.sends) f in absurd (cc)
    go false false f = absurd (asks (asked_below a time read) f)

-- Read is answered
pub read_answers : {P : Type 0} (me n : ℕ) (a : ShardState) (from number : ℕ) (read : Read) → on_read me n a from number read ≡ quiet n a → P
read_answers me n a from number read e = let f = ap (λ (s : ShardStep). s.sends) e in absurd (cc)

-- ## NotBy

-- a read that is let go is answered
pub none_let_go : (top : TopologyValue) (me n : ℕ) (k : ShardKept) (a : ShardState) (t : TxnValue) (time : ℕ)
    → Represents top me k a → on_not_by me n a t time ≡ quiet n a → in_waiting.freed t (NotBy time) k.waiting ≡ []
none_let_go top me n k a t time r e =
    ap (in_waiting.freed t (NotBy time)) (sym r.waiting)
    ∙ none_mapped (part_at me n a) (in_waiting.freed t (NotBy time) a.waiting) (ap (λ (s : ShardStep). s.sends) e)

-- so no answer is sent
pub nothing_sent : (top : TopologyValue) (me n m : ℕ) (k : ShardKept) (a : ShardState) (t : TxnValue) (time : ℕ) (es : List Envelope)
    → Represents top me k a → on_not_by me n a t time ≡ quiet n a → es ≡ map (in_waiting.reply me m (at_time a)) (in_waiting.freed t (NotBy time) a.waiting) → es ≡ []
nothing_sent top me n m k a t time es r e is =
    is ∙ ap (map (in_waiting.reply me m (at_time a))) (none_mapped (part_at me n a) (in_waiting.freed t (NotBy time) a.waiting) (ap (λ (s : ShardStep). s.sends) e))

-- and room for none is always there
pub fits : (es : List Envelope) (len room : ℕ) → es ≡ [] → len ≡ length es → len ≤ room
fits es len room none is = let f : len ≡ 0 = is ∙ ap (λ (xs : List Envelope). length xs) none in omega arith

-- ## Check, DepCheck

-- Check is answered
pub check_answers : {P : Type 0} (me n : ℕ) (a : ShardState) (from : ℕ) (t : TxnValue) (time : ℕ) → on_check me n a from t time ≡ quiet n a → P
check_answers {P} me n a from t time e = go (decision_of t a) e
  where
    go : (o : Option Decision) → check_for o me n a from t time ≡ quiet n a → P
    go (Some d) f = let g = ap (λ (s : ShardStep). s.sends) f in absurd (cc)
    go None f = let g = ap (λ (s : ShardStep). s.sends) f in absurd (cc)

-- what a DepCheck finds where it changes nothing: its dependency isn't decided, and it is kept already
pub record IsAsked (k : ShardKept) (q : Asker) : Type 0 where
  pub undecided : decided_in (state_of k.transactions.ledger q.dependency) ≡ None
  pub kept : is_asker (askers_of k.askers q.dependency) q.dependency q.waiter q.from ≡ true

pub asked_before : (top : TopologyValue) (me n : ℕ) (k : ShardKept) (a : ShardState) (q : Asker) → Represents top me k a → on_dep_check me n a q ≡ quiet n a → IsAsked k q
asked_before top me n k a q r e = record {
  undecided = not_decided (decided_in (state_of k.transactions.ledger q.dependency)) (sym none ∙ known);
  kept = ap (λ (ks : List Asker). is_asker ks q.dependency q.waiter q.from) (r.askers q.dependency none)
      ∙ (own_askers a.askers q ∙ there (is_asker a.askers q.dependency q.waiter q.from) (sym (ap (λ o. dep_check_for o me n a q) none) ∙ e));
}
  where
    none_there : (o : Option Decision) → dep_check_for o me n a q ≡ quiet n a → o ≡ None
    none_there (Some d) f = let g = ap (λ (s : ShardStep). s.sends) f in absurd (cc)
    none_there None f = refl

    none : decision_of q.dependency a ≡ None
    none = none_there (decision_of q.dependency a) e

    decision_in : Option (ℕ × StampValue) → Option Decision
    decision_in o = option_map (λ (d : ℕ × StampValue). record { txn = q.dependency; commit = d.0; stamp = d.1 }) o

    known : decision_of q.dependency a ≡ decision_in (decided_in (state_of k.transactions.ledger q.dependency))
    known = decision_if top me q.dependency a (state_of k.transactions.ledger q.dependency) (r.stands q.dependency)

    not_decided : (o : Option (ℕ × StampValue)) → None ≡ decision_in o → o ≡ None
    not_decided None f = refl
    not_decided (Some d) f = absurd (cc)

    there : (b : Bool) → remember_if b n a q ≡ quiet n a → b ≡ true
    there true f = refl
    there false f = absurd (grown a.askers q (ap (λ (s : ShardStep). s.state.askers) f))

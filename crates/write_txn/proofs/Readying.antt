-- A ballot of another data centre's write, as what is missing of it comes.
use Rattle.std.proofs.Common.{◌≡◌, ◌∙◌, sym, ap, subst, refl, ℕ, Bool, true, false, ◌&&◌, not, List, [], ◌∷◌, Some, None, map, length, append-nil, arith}
use Rattle.std.specs.Prelude.{filter, ◌==◌}
use Rattle.std.proofs.lemmas.Bool.Decides.{nat_tests}
use Rattle.logical_time.specs.Stamps.{TxnValue}
use Rattle.column_family.proofs.Options.{by_cases}
use Rattle.txn_state.specs.Votes.{is_among, counted}
use Rattle.txn_state.specs.Answers.{is_unanswered, is_dependency}
use Rattle.txn_state.specs.RemoteBallot.{missing_in}
use Rattle.txn_state.specs.Ready.{ready_for}
use Rattle.messages.specs.Topology.{TopologyValue, shard_of, shard_node, dc_of}
use Rattle.messages.specs.Words.{is_same_txn, envelope}
use Rattle.messages.specs.declared.body.Body.TheVariants.{PrepareRemote}
use Rattle.messages.specs.declared.envelope.Envelope.{Envelope}
use Rattle.messages.specs.Shard.{ShardState, PreparedPart, KeptPart, KeptBallot, quiet}
use Rattle.messages.specs.Commits.{decide, hold}
use Rattle.messages.specs.Replication.{ballot_of, remote_prepare, ready_if, ready, with_ballot, dep_checks, sent_before, repl_begin_if, on_repl_begin, with_notice, notice_if, notify_for, on_notify}
use Rattle.write_txn.specs.declared.open.Open.TheVariants as in_open
use Rattle.write_txn.specs.declared.open.Led.{Led}
use Rattle.write_txn.specs.declared.open.Remote.{Remote}
use Rattle.write_txn.specs.Ledger.{State, Holds, IsDecided, state_ready, remote_after}
use Rattle.write_txn.specs.View.{view_of, near_nodes, left_of, nodes_for, is_ready_by}
use Rattle.write_txn.specs.Stands.{Stands, IsUnknown, IsWaiting, StandsRemote, begun_of, kept_ballot_of}
use Rattle.write_txn.specs.Moves.{IsAbout, Moves}
use Rattle.messages.specs.Known.{AreOnce}
use Rattle.write_txn.proofs.Finds.{own_txn, find_last, nodes_one, adds}
use Rattle.write_txn.proofs.Counting.{awaited_left, left_counted, stranger_left, none_left}
use Rattle.write_txn.proofs.CohortSteps.{known_if}
use Rattle.write_txn.proofs.Leading.{same_about, MayDecide, MayHold, holds}
use Rattle.write_txn.proofs.Replicas.{ready_if_none, ready_in_view}

-- a state that keeps this ballot, after another one, and about its transaction alone
pub record KeepsBallot (top : TopologyValue) (me : ℕ) (t : TxnValue) (r : Remote) (a c : ShardState) : Type 0 where
  pub about : IsAbout t a c
  pub applied : c.applied ≡ a.applied
  pub low : c.low ≡ a.low
  pub askers : c.askers ≡ a.askers
  pub same_parts : c.prepared ≡ a.prepared
  pub same_kept : c.kept_parts ≡ a.kept_parts
  pub stands : StandsRemote top me (view_of t c) r
  pub is : (kept_ballot_of r).txn ≡ t

-- ## Nothing is missing

readied_by_it : (top : TopologyValue) (me : ℕ) (t : TxnValue) (r : Remote) (a c : ShardState) → KeepsBallot top me t r a c → (missing_in r.ballot == 0) ≡ true
    → (x : KeptBallot) → (view_of t c).kept_ballot ≡ Some x → is_ready_by top me (view_of t c) x ≡ true
readied_by_it top me t r a c k e x f =
    let g : Some (kept_ballot_of r) ≡ Some x = sym k.stands.kept_ballot ∙ f in
    let h : kept_ballot_of r ≡ x = cc in
    subst (λ y. is_ready_by top me (view_of t c) y ≡ true) h
    (subst (λ (u : TxnValue). is_ready_by top me (view_of u c) (kept_ballot_of r) ≡ true) k.is
    (sym (ready_in_view top me c (kept_ballot_of r)) ∙ (ready_if_none top me c t r k.is k.stands ∙ e)))

pub ready_decides : (top : TopologyValue) (me : ℕ) (t : TxnValue) (r : Remote) (a c : ShardState) → KeepsBallot top me t r a c → (missing_in r.ballot == 0) ≡ true → MayDecide top me t a c
ready_decides top me t r a c k e = record {
  about = k.about;
  applied = k.applied;
  low = k.low;
  askers = k.askers;
  once = λ o. subst (AreOnce (λ (x : PreparedPart). x.txn)) (sym k.same_parts) o;
  same_kept = k.same_kept;
  undecided = k.stands.decision;
  own = λ p f. absurd (let g : None ≡ Some p = sym k.stands.prepared ∙ f in cc);
  kept_part = k.stands.kept_part;
  readied = readied_by_it top me t r a c k e;
}

pub ready_holds : (top : TopologyValue) (me : ℕ) (t : TxnValue) (r : Remote) (a c : ShardState) → KeepsBallot top me t r a c → (missing_in r.ballot == 0) ≡ true → MayHold top me t a c
ready_holds top me t r a c k e = record {
  about = k.about;
  applied = k.applied;
  low = k.low;
  askers = k.askers;
  same_parts = k.same_parts;
  same_kept = k.same_kept;
  unbegun = k.stands.ballot;
  undecided = k.stands.decision;
  unprepared = k.stands.prepared;
  unapplied = k.stands.applied;
  unvoted = k.stands.votes;
  kept_part = k.stands.kept_part;
  readied = readied_by_it top me t r a c k e;
}

-- the ballot once its own part is prepared and its cohorts are to vote
abbrev pub led_by : Remote → ℕ → Led
led_by r time =
    record {
      ballot = record {
        own = record { part = r.ballot.part; time = time };
        votes = record { cohorts = r.ballot.notices.cohorts; missing = r.ballot.notices.cohorts };
      };
      cohorts = r.cohorts;
      dependencies = r.dependencies;
      stamp = Some r.ballot.stamp;
    }

abbrev pub is_alone : List ℕ → Bool
is_alone [] = true
is_alone (c ∷ cs) = false

near_alone : (top : TopologyValue) (me : ℕ) (cs : List ℕ) → is_alone (near_nodes top me cs) ≡ is_alone cs
near_alone top me [] = refl
near_alone top me (c ∷ cs) = refl

-- what becomes of the ballot by its cohorts
pub state_alone : (r : Remote) (time : ℕ) → (missing_in r.ballot == 0) ≡ true → is_alone r.ballot.notices.cohorts ≡ true → state_ready time (Some (Holds (in_open.Remote r))) ≡ Some (IsDecided time r.ballot.stamp)
state_alone r time e f = rw e (go r.ballot.notices.cohorts f)
  where
    go : (cs : List ℕ) → is_alone cs ≡ true → Some (remote_after r time (ready_for cs (record { part = r.ballot.part; time = time }))) ≡ Some (IsDecided time r.ballot.stamp)
    go [] f = refl
    go (c ∷ cs) f = absurd (cc)

pub state_with_cohorts : (r : Remote) (time : ℕ) → (missing_in r.ballot == 0) ≡ true → is_alone r.ballot.notices.cohorts ≡ false → state_ready time (Some (Holds (in_open.Remote r))) ≡ Some (Holds (in_open.Led (led_by r time)))
state_with_cohorts r time e f = rw e (go r.ballot.notices.cohorts f)
  where
    go : (cs : List ℕ) → is_alone cs ≡ false
        → Some (remote_after r time (ready_for cs (record { part = r.ballot.part; time = time }))) ≡ Some (Holds (in_open.Led (record (led_by r time) { ballot = record { own = record { part = r.ballot.part; time = time }; votes = record { cohorts = cs; missing = cs } } })))
    go [] f = absurd (cc)
    go (c ∷ cs) f = refl

-- ## The step

alone_is_nil : (cs : List ℕ) → is_alone cs ≡ true → cs ≡ []
alone_is_nil [] e = refl
alone_is_nil (c ∷ cs) e = absurd (cc)

-- without cohorts it is decided
pub readies_alone : (top : TopologyValue) (me n : ℕ) (t : TxnValue) (r : Remote) (a c : ShardState) → KeepsBallot top me t r a c → (missing_in r.ballot == 0) ≡ true → is_alone r.ballot.notices.cohorts ≡ true
    → ready top me n c (kept_ballot_of r) ≡ decide top me n c (ballot_of (kept_ballot_of r))
readies_alone top me n t r a c k e f =
    ap (λ (b : Bool). ready_if b top me n c (kept_ballot_of r)) (ready_if_none top me c t r k.is k.stands ∙ e)
    ∙ ap (λ (cs : List ℕ). remote_prepare cs top me n c (kept_ballot_of r)) (alone_is_nil r.cohorts (sym (near_alone top me r.cohorts) ∙ (ap is_alone (sym k.stands.cohorts) ∙ f)))

-- with cohorts it is held, and they are asked to prepare
pub readies_with_cohorts : (top : TopologyValue) (me n : ℕ) (t : TxnValue) (r : Remote) (a c : ShardState) → KeepsBallot top me t r a c → (missing_in r.ballot == 0) ≡ true → is_alone r.ballot.notices.cohorts ≡ false
    → ready top me n c (kept_ballot_of r) ≡ hold top me n c (ballot_of (kept_ballot_of r)) [] (map (λ s. envelope me (shard_node top (dc_of top me) s) n (PrepareRemote (kept_ballot_of r).txn)) r.cohorts)
readies_with_cohorts top me n t r a c k e f =
    ap (λ (b : Bool). ready_if b top me n c (kept_ballot_of r)) (ready_if_none top me c t r k.is k.stands ∙ e)
    ∙ go r.cohorts (sym (near_alone top me r.cohorts) ∙ (ap is_alone (sym k.stands.cohorts) ∙ f))
  where
    go : (cs : List ℕ) → is_alone cs ≡ false
        → remote_prepare cs top me n c (kept_ballot_of r) ≡ hold top me n c (ballot_of (kept_ballot_of r)) [] (map (λ s. envelope me (shard_node top (dc_of top me) s) n (PrepareRemote (kept_ballot_of r).txn)) cs)
    go [] g = absurd (cc)
    go (x ∷ xs) g = refl

alone_length : (cs : List ℕ) → is_alone cs ≡ false → (length cs == 0) ≡ false
alone_length [] e = absurd (cc)
alone_length (c ∷ cs) e = some_length c cs
  where
    some_length : (x : ℕ) (xs : List ℕ) → (length (x ∷ xs) == 0) ≡ false
    some_length x xs = grind (arith, nat_tests)

pub readied_is_held : (top : TopologyValue) (me n : ℕ) (t : TxnValue) (r : Remote) (a c : ShardState) (sends : List Envelope) → KeepsBallot top me t r a c → (missing_in r.ballot == 0) ≡ true → is_alone r.ballot.notices.cohorts ≡ false
    → Moves top me t (Some (Holds (in_open.Led (led_by r n)))) [] a (hold top me n c (ballot_of (kept_ballot_of r)) [] sends).state
readied_is_held top me n t r a c sends k e f =
    subst (λ (u : TxnValue). Moves top me u (Some (Holds (in_open.Led (led_by r n)))) [] a (hold top me n c (begun_of (led_by r n)) [] sends).state) k.is
    (holds top me n a c (led_by r n) [] sends (subst (λ (u : TxnValue). MayHold top me u a c) (sym k.is) (ready_holds top me t r a c k e)) refl k.stands.own refl k.stands.cohorts
    (k.stands.cohorts ∙ sym (none_left (near_nodes top me r.cohorts)))
    (alone_length r.ballot.notices.cohorts f))

-- nothing happens while something is missing
pub readies_later : (top : TopologyValue) (me n : ℕ) (t : TxnValue) (r : Remote) (a c : ShardState) → KeepsBallot top me t r a c → (missing_in r.ballot == 0) ≡ false → ready top me n c (kept_ballot_of r) ≡ quiet n c
readies_later top me n t r a c k e = ap (λ (b : Bool). ready_if b top me n c (kept_ballot_of r)) (ready_if_none top me c t r k.is k.stands ∙ e)

pub waits_on : (top : TopologyValue) (me n : ℕ) (t : TxnValue) (r : Remote) (a c : ShardState) → KeepsBallot top me t r a c → (missing_in r.ballot == 0) ≡ false → Moves top me t (Some (Holds (in_open.Remote r))) [] a c
waits_on top me n t r a c k e = record {
  about = k.about;
  own = (k.stands, e);
  applied = k.applied ∙ sym (append-nil a.applied);
  low = k.low;
  askers = k.askers;
  once = λ o. subst (AreOnce (λ (x : PreparedPart). x.txn)) (sym k.same_parts) o;
  kept_once = λ o. subst (AreOnce (λ (x : KeptPart). x.txn)) (sym k.same_kept) o;
}

-- ## ReplBegin

pub repl_begin_known : (top : TopologyValue) (me n : ℕ) (a : ShardState) (r : KeptBallot) (s : State) → Stands top me r.txn (view_of r.txn a) (Some s) → on_repl_begin top me n a r ≡ quiet n a
repl_begin_known top me n a r s h = ap (λ b. repl_begin_if b top me n a r) (known_if top me r.txn a (Some s) h)

pub repl_begin_unknown : (top : TopologyValue) (me n : ℕ) (a : ShardState) (r : KeptBallot) → Stands top me r.txn (view_of r.txn a) None
    → on_repl_begin top me n a r ≡ sent_before (dep_checks top me n r) (ready top me n (with_ballot a r) r)
repl_begin_unknown top me n a r h = ap (λ b. repl_begin_if b top me n a r) (known_if top me r.txn a None h)

and_true : (b : Bool) → b ≡ (b && true)
and_true true = refl
and_true false = refl

pub ballot_is_kept : (top : TopologyValue) (me : ℕ) (a : ShardState) (r : Remote) → IsUnknown (view_of (kept_ballot_of r).txn a)
    → r.ballot.part.writer.shard ≡ shard_of top me → r.ballot.notices.cohorts ≡ near_nodes top me r.cohorts → r.ballot.notices.missing ≡ left_of (near_nodes top me r.cohorts) (view_of (kept_ballot_of r).txn a).notices
    → ((t : TxnValue) → is_unanswered r.ballot.answers t ≡ is_dependency r.dependencies t)
    → KeepsBallot top me (kept_ballot_of r).txn r a (with_ballot a (kept_ballot_of r))
ballot_is_kept top me a r h shard cohorts missing answers =
    let t = (kept_ballot_of r).txn in
    let s = same_about t a in
    record {
      about = record {
        prepared = s.prepared;
        ballots = s.ballots;
        kept_parts = s.kept_parts;
        kept_ballots = adds (λ x. is_same_txn x.txn t) a.kept_ballots (kept_ballot_of r) (own_txn t);
        decided = s.decided;
        applied = s.applied;
        early = s.early;
        votes = s.votes;
        notices = s.notices;
        met = s.met;
      };
      applied = refl;
      low = refl;
      askers = refl;
      same_parts = refl;
      same_kept = refl;
      stands = record {
        kept_ballot = find_last (λ x. is_same_txn x.txn t) a.kept_ballots (kept_ballot_of r) h.unled.kept_ballot (own_txn t);
        own = shard;
        cohorts = cohorts;
        missing = missing;
        answers = λ u. answers u ∙ (and_true (is_dependency r.dependencies u) ∙ ap (λ (ts : List TxnValue). is_dependency r.dependencies u && not (is_unanswered ts u)) (sym h.met));
        ballot = h.unled.ballot;
        decision = h.unled.decision;
        prepared = h.prepared;
        kept_part = h.kept_part;
        applied = h.applied;
        votes = h.votes;
      };
      is = refl;
    }

-- ## Notify

-- the ballot once this node's notice is counted too
abbrev pub with_noticed : Remote → ℕ → Remote
with_noticed r node = record r { ballot = record r.ballot { notices = counted r.ballot.notices node } }

pub notice_counts : (top : TopologyValue) (me n : ℕ) (a : ShardState) (t : TxnValue) (r : Remote) (node : ℕ) → (kept_ballot_of r).txn ≡ t → StandsRemote top me (view_of t a) r → IsWaiting r
    → (c : ShardState) × (on_notify top me n a node t ≡ ready top me n c (kept_ballot_of r)) × KeepsBallot top me t (with_noticed r node) a c × (c.waiting ≡ a.waiting)
notice_counts top me n a t r node is h waits = by_cases (is_among r.ballot.notices.missing node) awaited passed_over
  where
    at_it : on_notify top me n a node t ≡ notice_if (is_among r.ballot.notices.missing node) top me n a (kept_ballot_of r) node
    at_it = ap (λ o. notify_for o top me n a t node) h.kept_ballot
        ∙ ap (λ (b : Bool). notice_if b top me n a (kept_ballot_of r) node) (awaited_left top me r.cohorts a.notices t node ∙ ap (λ (ns : List ℕ). is_among ns node) (sym h.missing))

    same_kept : KeepsBallot top me t r a a
    same_kept = record { about = same_about t a; applied = refl; low = refl; askers = refl; same_parts = refl; same_kept = refl; stands = h; is = is }

    passed_over : is_among r.ballot.notices.missing node ≡ false
        → (c : ShardState) × (on_notify top me n a node t ≡ ready top me n c (kept_ballot_of r)) × KeepsBallot top me t (with_noticed r node) a c × (c.waiting ≡ a.waiting)
    passed_over absent = (
      a,
      at_it ∙ (ap (λ (b : Bool). notice_if b top me n a (kept_ballot_of r) node) absent ∙ sym (readies_later top me n t r a a same_kept waits)),
      subst (λ (x : Remote). KeepsBallot top me t x a a)
          (ap (λ (ns : List ℕ). record r { ballot = record r.ballot { notices = record r.ballot.notices { missing = ns } } }) (sym (stranger_left r.ballot.notices.missing node absent)))
          same_kept,
      refl,
    )

    awaited : is_among r.ballot.notices.missing node ≡ true
        → (c : ShardState) × (on_notify top me n a node t ≡ ready top me n c (kept_ballot_of r)) × KeepsBallot top me t (with_noticed r node) a c × (c.waiting ≡ a.waiting)
    awaited there =
        let s = same_about t a in (
          with_notice a t node,
          at_it ∙ (ap (λ (b : Bool). notice_if b top me n a (kept_ballot_of r) node) there ∙ ap (λ (u : TxnValue). ready top me n (with_notice a u node) (kept_ballot_of r)) is),
          record {
            about = record {
              prepared = s.prepared;
              ballots = s.ballots;
              kept_parts = s.kept_parts;
              kept_ballots = s.kept_ballots;
              decided = s.decided;
              applied = s.applied;
              early = s.early;
              votes = s.votes;
              notices = adds (λ v. is_same_txn v.txn t) a.notices (record { txn = t; node = node }) (own_txn t);
              met = s.met;
            };
            applied = refl;
            low = refl;
            askers = refl;
            same_parts = refl;
            same_kept = refl;
            stands = record {
              kept_ballot = h.kept_ballot;
              own = h.own;
              cohorts = h.cohorts;
              missing = ap (filter (λ n. not (n == node))) h.missing
                  ∙ (sym (left_counted (near_nodes top me r.cohorts) (nodes_for a.notices t) node) ∙ ap (left_of (near_nodes top me r.cohorts)) (sym (nodes_one t a.notices node)));
              answers = h.answers;
              ballot = h.ballot;
              decision = h.decision;
              prepared = h.prepared;
              kept_part = h.kept_part;
              applied = h.applied;
              votes = h.votes;
            };
            is = is;
          },
          refl,
        )

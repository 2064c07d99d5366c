-- Notices and answers that find no ballot waiting, and answers that do.
use Rattle.std.proofs.Common.{◌≡◌, ◌∙◌, sym, ap, subst, refl, ℕ, Bool, true, false, ◌&&◌, ◌||◌, not, List, [], ◌∷◌, ◌++◌, Option, Some, None, length, arith}
use Rattle.std.specs.Prelude.{◌==◌}
use Rattle.std.specs.List.{list_all}
use Rattle.std.proofs.lemmas.Bool.Decides.{nat_tests}
use Rattle.logical_time.specs.Stamps.{TxnValue}
use Rattle.column_family.proofs.Options.{by_cases, both_true, neither}
use Rattle.txn_state.specs.Votes.{is_among}
use Rattle.txn_state.specs.Answers.{is_unanswered, is_dependency, answered}
use Rattle.messages.specs.Topology.{TopologyValue}
use Rattle.messages.specs.Words.{is_same_txn}
use Rattle.messages.specs.Shard.{ShardState, KeptBallot, quiet}
use Rattle.messages.specs.Known.{kept_ballot, has_vote, is_met}
use Rattle.messages.specs.Replication.{ready, notice_if, early_notice_if, notify_for, on_notify, is_unmet, with_met, met_if, dep_ok_for, on_dep_ok}
use Rattle.write_txn.specs.declared.open.Open.TheVariants as in_open
use Rattle.write_txn.specs.declared.open.Remote.{Remote}
use Rattle.write_txn.specs.Ledger.{State, Holds, IsApplied, IsDecided}
use Rattle.write_txn.specs.View.{view_of, near_nodes, left_of, nodes_for, met_for, is_ready_by}
use Rattle.write_txn.specs.Stands.{Stands, IsWaiting, StandsRemote, kept_ballot_of}
use Rattle.write_txn.proofs.Finds.{own_txn, same_txn, same_back, found_ballot, met_one, adds}
use Rattle.write_txn.proofs.Counting.{awaited_left, met_among, has_among, all_among_left}
use Rattle.write_txn.proofs.CohortSteps.{known_if}
use Rattle.write_txn.proofs.Leading.{same_about}
use Rattle.write_txn.proofs.Replicas.{all_met_then}
use Rattle.write_txn.proofs.Readying.{KeepsBallot, readies_later}

-- whether a ballot of another data centre's write waits
abbrev pub is_remote : Option State → Bool
is_remote None = false
is_remote (Some (Holds (in_open.Kept k))) = false
is_remote (Some (Holds (in_open.Part p))) = false
is_remote (Some (Holds (in_open.Led l))) = false
is_remote (Some (Holds (in_open.Remote r))) = true
is_remote (Some IsApplied) = false
is_remote (Some (IsDecided commit stamp)) = false

-- what is kept of such a ballot, where none waits: none, or one that was ready
not_waiting : (top : TopologyValue) (me : ℕ) (a : ShardState) (t : TxnValue) (s : Option State) → Stands top me t (view_of t a) s → is_remote s ≡ false
    → (r : KeptBallot) → (view_of t a).kept_ballot ≡ Some r → is_ready_by top me (view_of t a) r ≡ true
not_waiting top me a t None h e r f = absurd (let g : None ≡ Some r = sym h.unled.kept_ballot ∙ f in cc)
not_waiting top me a t (Some (Holds (in_open.Kept k))) h e r f = absurd (let g : None ≡ Some r = sym h.unled.kept_ballot ∙ f in cc)
not_waiting top me a t (Some (Holds (in_open.Part p))) h e r f = absurd (let g : None ≡ Some r = sym h.unled.kept_ballot ∙ f in cc)
not_waiting top me a t (Some (Holds (in_open.Led l))) h e r f = h.readied r f
not_waiting top me a t (Some (Holds (in_open.Remote x))) h e r f = absurd (cc)
not_waiting top me a t (Some IsApplied) h e r f = absurd (let g : None ≡ Some r = sym h.unled.kept_ballot ∙ f in cc)
not_waiting top me a t (Some (IsDecided c s)) h e r f = h.readied r f

nobody_is_among : (ns : List ℕ) (node : ℕ) → (length ns == 0) ≡ true → is_among ns node ≡ false
nobody_is_among [] node e = refl
nobody_is_among (n ∷ ns) node e = absurd (impossible n ns e)
  where
    impossible : (x : ℕ) (xs : List ℕ) → (length (x ∷ xs) == 0) ≡ true → ⊥
    impossible x xs g = grind (arith, nat_tests)

-- ## Notices

pub notice_ignored : (top : TopologyValue) (me n : ℕ) (a : ShardState) (t : TxnValue) (node : ℕ) (s : State) → Stands top me t (view_of t a) (Some s) → is_remote (Some s) ≡ false → on_notify top me n a node t ≡ quiet n a
notice_ignored top me n a t node s h e = go (kept_ballot t a) refl
  where
    go : (o : Option KeptBallot) → kept_ballot t a ≡ o → notify_for o top me n a t node ≡ quiet n a
    go None f = ap (λ k. early_notice_if k (has_vote a.notices t node) n a t node) (known_if top me t a (Some s) h) ∙ either (has_vote a.notices t node)
      where
        either : (b : Bool) → early_notice_if true b n a t node ≡ quiet n a
        either true = refl
        either false = refl
    go (Some r) f = ap (λ (b : Bool). notice_if b top me n a r node)
        (awaited_left top me r.cohorts a.notices t node
        ∙ nobody_is_among (left_of (near_nodes top me r.cohorts) (nodes_for a.notices t)) node
        (sym (all_among_left (near_nodes top me r.cohorts) (nodes_for a.notices t))
        ∙ (both_true (list_all (λ x. is_among (nodes_for a.notices t) x) (near_nodes top me r.cohorts)) (list_all (λ w. is_unanswered (met_for a.met t) w.txn) r.dependencies) (not_waiting top me a t (Some s) h e r f)).0))

pub notice_early : (top : TopologyValue) (me n : ℕ) (a : ShardState) (t : TxnValue) (node : ℕ) → Stands top me t (view_of t a) None
    → on_notify top me n a node t ≡ early_notice_if false (is_among (view_of t a).notices node) n a t node
notice_early top me n a t node h =
    ap (λ o. notify_for o top me n a t node) h.unled.kept_ballot
    ∙ (ap (λ k. early_notice_if k (has_vote a.notices t node) n a t node) (known_if top me t a None h)
    ∙ ap (λ k. early_notice_if false k n a t node) (has_among a.notices t node))

-- ## Answers

-- the ballot once this answer is counted too
abbrev pub with_answered : Remote → TxnValue → Remote
with_answered r dependency = record r { ballot = record r.ballot { answers = answered r.ballot.answers dependency } }

unmet_is : (a : ShardState) (t d : TxnValue) (r : KeptBallot) → r.txn ≡ t → is_unmet a.met r d ≡ (is_dependency r.dependencies d && not (is_unanswered (met_for a.met t) d))
unmet_is a t d r is =
    ap (λ (u : TxnValue). is_dependency r.dependencies d && not (is_met a.met u d)) is
    ∙ ap (λ (b : Bool). is_dependency r.dependencies d && not b) (met_among a.met t d)

pub answer_ignored : (top : TopologyValue) (me n : ℕ) (a : ShardState) (t d : TxnValue) (s : Option State) → Stands top me t (view_of t a) s → is_remote s ≡ false → on_dep_ok top me n a d t ≡ quiet n a
answer_ignored top me n a t d s h e = go (kept_ballot t a) refl
  where
    go : (o : Option KeptBallot) → kept_ballot t a ≡ o → dep_ok_for o top me n a d ≡ quiet n a
    go None f = refl
    go (Some r) f = ap (λ (b : Bool). met_if b top me n a r d)
        (unmet_is a t d r (found_ballot a.kept_ballots t r f)
        ∙ all_met_then (met_for a.met t) r.dependencies d
        (both_true (list_all (λ x. is_among (nodes_for a.notices t) x) (near_nodes top me r.cohorts)) (list_all (λ w. is_unanswered (met_for a.met t) w.txn) r.dependencies) (not_waiting top me a t s h e r f)).1)

answered_others : (us : List TxnValue) (d t : TxnValue) → is_unanswered (answered us d) t ≡ (is_unanswered us t && not (is_same_txn d t))
answered_others [] d t = refl
answered_others (u ∷ us) d t = by_cases (is_same_txn u d)
    (λ same. rw same (answered_others us d t ∙ by_cases (is_same_txn u t)
    (λ it. rw (it, subst (λ (x : TxnValue). is_same_txn x t ≡ true) (same_txn u d same) it) (go (is_unanswered us t)))
    (λ other. rw other refl)))
    (λ differs. rw differs (ap (λ (b : Bool). is_same_txn u t || b) (answered_others us d t) ∙ by_cases (is_same_txn u t)
    (λ it. rw (it, sym (ap (is_same_txn d) (same_txn u t it)) ∙ (same_back d u ∙ differs)) refl)
    (λ other. rw other refl)))
  where
    go : (b : Bool) → (b && false) ≡ false
    go true = refl
    go false = refl

more_met : (us : List TxnValue) (d t : TxnValue) → is_unanswered (us ++ d ∷ []) t ≡ (is_unanswered us t || is_same_txn d t)
more_met [] d t = or_no (is_same_txn d t)
  where
    or_no : (b : Bool) → (b || false) ≡ (false || b)
    or_no true = refl
    or_no false = refl
more_met (u ∷ us) d t = by_cases {P = (is_same_txn u t || is_unanswered (us ++ d ∷ []) t) ≡ ((is_same_txn u t || is_unanswered us t) || is_same_txn d t)} (is_same_txn u t) (λ it. rw it refl) (λ other. rw other (more_met us d t))

and_so : (b c d : Bool) → ((b && not c) && not d) ≡ (b && not (c || d))
and_so true true d = refl
and_so true false d = refl
and_so false c d = refl

absent_answer : (us : List TxnValue) (d : TxnValue) → is_unanswered us d ≡ false → answered us d ≡ us
absent_answer [] d e = refl
absent_answer (u ∷ us) d e = let h = neither (is_same_txn u d) (is_unanswered us d) e in rw h.0 (ap (λ (xs : List TxnValue). u ∷ xs) (absent_answer us d h.1))

pub answer_counts : (top : TopologyValue) (me n : ℕ) (a : ShardState) (t d : TxnValue) (r : Remote) → (kept_ballot_of r).txn ≡ t → StandsRemote top me (view_of t a) r → IsWaiting r
    → (c : ShardState) × (on_dep_ok top me n a d t ≡ ready top me n c (kept_ballot_of r)) × KeepsBallot top me t (with_answered r d) a c × (c.waiting ≡ a.waiting)
answer_counts top me n a t d r is h waits = by_cases (is_unanswered r.ballot.answers d) missing passed_over
  where
    at_it : on_dep_ok top me n a d t ≡ met_if (is_unanswered r.ballot.answers d) top me n a (kept_ballot_of r) d
    at_it = ap (λ o. dep_ok_for o top me n a d) h.kept_ballot
        ∙ ap (λ (b : Bool). met_if b top me n a (kept_ballot_of r) d) (unmet_is a t d (kept_ballot_of r) is ∙ sym (h.answers d))

    same_kept : KeepsBallot top me t r a a
    same_kept = record { about = same_about t a; applied = refl; low = refl; askers = refl; same_parts = refl; same_kept = refl; stands = h; is = is }

    passed_over : is_unanswered r.ballot.answers d ≡ false
        → (c : ShardState) × (on_dep_ok top me n a d t ≡ ready top me n c (kept_ballot_of r)) × KeepsBallot top me t (with_answered r d) a c × (c.waiting ≡ a.waiting)
    passed_over absent = (
      a,
      at_it ∙ (ap (λ (b : Bool). met_if b top me n a (kept_ballot_of r) d) absent ∙ sym (readies_later top me n t r a a same_kept waits)),
      subst (λ (x : Remote). KeepsBallot top me t x a a)
          (ap (λ (us : List TxnValue). record r { ballot = record r.ballot { answers = us } }) (sym (absent_answer r.ballot.answers d absent)))
          same_kept,
      refl,
    )

    missing : is_unanswered r.ballot.answers d ≡ true
        → (c : ShardState) × (on_dep_ok top me n a d t ≡ ready top me n c (kept_ballot_of r)) × KeepsBallot top me t (with_answered r d) a c × (c.waiting ≡ a.waiting)
    missing there =
        let s = same_about t a in (
          with_met a t d,
          at_it ∙ (ap (λ (b : Bool). met_if b top me n a (kept_ballot_of r) d) there ∙ ap (λ (u : TxnValue). ready top me n (with_met a u d) (kept_ballot_of r)) is),
          record {
            about = record {
              prepared = s.prepared;
              ballots = s.ballots;
              kept_parts = s.kept_parts;
              kept_ballots = s.kept_ballots;
              decided = s.decided;
              applied = s.applied;
              early = s.early;
              votes = s.votes;
              notices = s.notices;
              met = adds (λ m. is_same_txn m.waiter t) a.met (record { waiter = t; dependency = d }) (own_txn t);
            };
            applied = refl;
            low = refl;
            askers = refl;
            same_parts = refl;
            same_kept = refl;
            stands = record {
              kept_ballot = h.kept_ballot;
              own = h.own;
              cohorts = h.cohorts;
              missing = h.missing;
              answers = λ u.
                  answered_others r.ballot.answers d u
                  ∙ (ap (λ (b : Bool). b && not (is_same_txn d u)) (h.answers u)
                  ∙ (and_so (is_dependency r.dependencies u) (is_unanswered (met_for a.met t) u) (is_same_txn d u)
                  ∙ ap (λ (b : Bool). is_dependency r.dependencies u && not b) (sym (ap (λ (us : List TxnValue). is_unanswered us u) (met_one t d a.met) ∙ more_met (met_for a.met t) d u))));
              ballot = h.ballot;
              decision = h.decision;
              prepared = h.prepared;
              kept_part = h.kept_part;
              applied = h.applied;
              votes = h.votes;
            };
            is = is;
          },
          refl,
        )

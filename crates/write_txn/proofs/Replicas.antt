-- Steps for writes of other data centres, by what is known of their transactions.
use Rattle.std.proofs.Common.{◌≡◌, ◌∙◌, sym, ap, subst, refl, ℕ, Bool, true, false, ◌&&◌, ◌||◌, not, List, [], ◌∷◌, ◌++◌, Option, Some, None, length, append-nil, arith}
use Rattle.std.specs.Prelude.{is_some, ◌==◌, ◌+◌}
use Rattle.std.specs.List.{list_all}
use Rattle.std.proofs.lemmas.Bool.Decides.{nat_tests}
use Rattle.logical_time.specs.Stamps.{TxnValue, WriterValue}
use Rattle.column_family.proofs.Options.{by_cases, both_true}
use Rattle.txn_state.specs.Votes.{is_among}
use Rattle.txn_state.specs.Answers.{is_unanswered, is_dependency}
use Rattle.txn_state.specs.RemoteBallot.{missing_in}
use Rattle.messages.specs.Topology.{TopologyValue, shard_node, dc_of}
use Rattle.messages.specs.Words.{is_same_txn, envelope}
use Rattle.messages.specs.declared.body.Body.TheVariants.{Notify}
use Rattle.messages.specs.Shard.{ShardState, PreparedPart, Replica, KeptPart, KeptBallot, quiet}
use Rattle.messages.specs.Known.{prepared_part, kept_part, all_voted, all_met}
use Rattle.messages.specs.Commits.{prepare_part}
use Rattle.messages.specs.Reads.{answer}
use Rattle.messages.specs.Replication.{is_ready, repl_part_if, on_repl_part, prepare_remote_for, on_prepare_remote}
use Rattle.write_txn.specs.declared.open.Open.TheVariants as in_open
use Rattle.write_txn.specs.declared.open.ReplicatedPart.{ReplicatedPart}
use Rattle.write_txn.specs.declared.open.Remote.{Remote}
use Rattle.write_txn.specs.Ledger.{State, Holds, IsApplied, IsDecided, replica_of}
use Rattle.write_txn.specs.View.{view_of, near_nodes, nodes_for, met_for, is_ready_by}
use Rattle.write_txn.specs.Stands.{Stands, IsUnknown, StandsKept, StandsRemote, kept_part_of, kept_ballot_of}
use Rattle.write_txn.specs.Moves.{Moves}
use Rattle.write_txn.proofs.Finds.{own_txn, same_txn, find_last, adds, others_if_none, once_more}
use Rattle.write_txn.proofs.Counting.{voted_left, voted_near, met_all}
use Rattle.write_txn.proofs.CohortSteps.{known_if, cohort_prepares}
use Rattle.write_txn.proofs.Leading.{same_about}

-- ## A part is kept

pub repl_part_known : (top : TopologyValue) (me n : ℕ) (a : ShardState) (k : KeptPart) (s : State) → Stands top me k.txn (view_of k.txn a) (Some s) → on_repl_part top me n a k ≡ quiet n a
repl_part_known top me n a k s h = ap (λ b. repl_part_if b top me n a k) (known_if top me k.txn a (Some s) h)

pub repl_part_unknown : (top : TopologyValue) (me n : ℕ) (a : ShardState) (k : KeptPart) → Stands top me k.txn (view_of k.txn a) None
    → on_repl_part top me n a k ≡ answer n (record a { kept_parts = a.kept_parts ++ k ∷ [] }) (envelope me (shard_node top (dc_of top me) k.coordinator) n (Notify k.txn))
repl_part_unknown top me n a k h = ap (λ b. repl_part_if b top me n a k) (known_if top me k.txn a None h)

pub part_is_kept : (top : TopologyValue) (me n : ℕ) (a : ShardState) (k : ReplicatedPart) → IsUnknown (view_of k.part.writer.txn a)
    → Moves top me k.part.writer.txn (Some (Holds (in_open.Kept k))) [] a (record a { clock = n; kept_parts = a.kept_parts ++ kept_part_of k ∷ [] })
part_is_kept top me n a k h =
    let s = same_about k.part.writer.txn a in
    record {
      about = record {
        prepared = s.prepared;
        ballots = s.ballots;
        kept_parts = adds (λ x. is_same_txn x.txn k.part.writer.txn) a.kept_parts (kept_part_of k) (own_txn k.part.writer.txn);
        kept_ballots = s.kept_ballots;
        decided = s.decided;
        applied = s.applied;
        early = s.early;
        votes = s.votes;
        notices = s.notices;
        met = s.met;
      };
      own = record {
        unled = record { ballot = h.unled.ballot; kept_ballot = h.unled.kept_ballot; decision = h.unled.decision };
        kept_part = find_last (λ x. is_same_txn x.txn k.part.writer.txn) a.kept_parts (kept_part_of k) h.kept_part (own_txn k.part.writer.txn);
        prepared = h.prepared;
        applied = h.applied;
      };
      applied = sym (append-nil a.applied);
      low = refl;
      askers = refl;
      once = λ o. o;
      kept_once = λ o. once_more (λ (x : KeptPart). x.txn) a.kept_parts (kept_part_of k) o (others_if_none (λ (x : KeptPart). x.txn) a.kept_parts k.part.writer.txn h.kept_part);
    }

-- ## A kept part is prepared

pub prepare_remote_kept : (top : TopologyValue) (me n : ℕ) (a : ShardState) (t : TxnValue) (k : ReplicatedPart) → StandsKept (view_of t a) k
    → on_prepare_remote top me n a t ≡ prepare_part top me n a k.part.writer.txn k.part.batch k.part.writer.shard Replica
prepare_remote_kept top me n a t k h =
    ap (λ o. prepare_remote_for o (is_some (prepared_part t a)) top me n a) h.kept_part
    ∙ ap (λ (o : Option PreparedPart). prepare_remote_for (Some (kept_part_of k)) (is_some o) top me n a) h.prepared

pub kept_is_prepared : (top : TopologyValue) (me n : ℕ) (a : ShardState) (k : ReplicatedPart) → StandsKept (view_of k.part.writer.txn a) k
    → Moves top me k.part.writer.txn (Some (Holds (in_open.Part (replica_of k n)))) [] a (prepare_part top me n a k.part.writer.txn k.part.batch k.part.writer.shard Replica).state
kept_is_prepared top me n a k h =
    let m = cohort_prepares top me n a (replica_of k n) h.unled h.prepared h.applied refl (λ x e. let f : Some (kept_part_of k) ≡ Some x = sym h.kept_part ∙ e in let g : kept_part_of k ≡ x = cc in ap (λ (y : KeptPart). y.coordinator) (sym g)) in
    record { about = m.about; own = m.own; applied = m.applied; low = m.low; askers = m.askers; once = m.once; kept_once = m.kept_once }

-- whether a part is kept
abbrev pub is_kept : Option State → Bool
is_kept None = false
is_kept (Some (Holds (in_open.Kept k))) = true
is_kept (Some (Holds (in_open.Part p))) = false
is_kept (Some (Holds (in_open.Led l))) = false
is_kept (Some (Holds (in_open.Remote r))) = false
is_kept (Some IsApplied) = false
is_kept (Some (IsDecided commit stamp)) = false

prepared_already : (top : TopologyValue) (me n : ℕ) (a : ShardState) (o : Option KeptPart) (b : Bool) → b ≡ true → prepare_remote_for o b top me n a ≡ quiet n a
prepared_already top me n a None b e = refl
prepared_already top me n a (Some k) true e = refl
prepared_already top me n a (Some k) false e = absurd (cc)

pub prepare_remote_ignored : (top : TopologyValue) (me n : ℕ) (a : ShardState) (t : TxnValue) (s : Option State) → Stands top me t (view_of t a) s → is_kept s ≡ false → on_prepare_remote top me n a t ≡ quiet n a
prepare_remote_ignored top me n a t None h e = ap (λ o. prepare_remote_for o (is_some (prepared_part t a)) top me n a) h.kept_part
prepare_remote_ignored top me n a t (Some (Holds (in_open.Kept k))) h e = absurd (cc)
prepare_remote_ignored top me n a t (Some (Holds (in_open.Part p))) h e = prepared_already top me n a (kept_part t a) (is_some (prepared_part t a)) (ap is_some h.prepared)
prepare_remote_ignored top me n a t (Some (Holds (in_open.Led l))) h e = ap (λ o. prepare_remote_for o (is_some (prepared_part t a)) top me n a) h.kept_part
prepare_remote_ignored top me n a t (Some (Holds (in_open.Remote r))) h e = ap (λ o. prepare_remote_for o (is_some (prepared_part t a)) top me n a) h.0.kept_part
prepare_remote_ignored top me n a t (Some IsApplied) h e = prepared_already top me n a (kept_part t a) (is_some (prepared_part t a)) h.prepared
prepare_remote_ignored top me n a t (Some (IsDecided c s)) h e = ap (λ o. prepare_remote_for o (is_some (prepared_part t a)) top me n a) h.kept_part

-- ## What is missing of a ballot

no_answers : (us : List TxnValue) → ((t : TxnValue) → is_unanswered us t ≡ false) → (length us == 0) ≡ true
no_answers [] f = refl
no_answers (u ∷ us) f = absurd (let e = f u in let g = own_txn u in impossible (is_unanswered us u) (rw g at e))
  where
    impossible : (b : Bool) → (true || b) ≡ false → ⊥
    impossible b e = absurd (cc)

some_answer : (u : TxnValue) (us : List TxnValue) → (length (u ∷ us) == 0) ≡ false
some_answer u us = grind (arith, nat_tests)

and_not : (b c : Bool) → (b && not c) ≡ false → b ≡ true → c ≡ true
and_not true true e f = refl
and_not true false e f = absurd (cc)
and_not false c e f = absurd (cc)

pub all_met_then : (met : List TxnValue) (ds : List WriterValue) (t : TxnValue) → list_all (λ w. is_unanswered met w.txn) ds ≡ true → (is_dependency ds t && not (is_unanswered met t)) ≡ false
all_met_then met [] t e = refl
all_met_then met (w ∷ ws) t e =
    let h = both_true (is_unanswered met w.txn) (list_all (λ v. is_unanswered met v.txn) ws) e in
    by_cases (is_same_txn w.txn t)
    (λ same. let m : is_unanswered met t ≡ true = subst (λ (u : TxnValue). is_unanswered met u ≡ true) (same_txn w.txn t same) h.0 in rw m (go (is_dependency (w ∷ ws) t)))
    (λ other. rw other (all_met_then met ws t h.1))
  where
    go : (b : Bool) → (b && false) ≡ false
    go true = refl
    go false = refl

none_unmet : (met : List TxnValue) (ds : List WriterValue) → ((t : TxnValue) → (is_dependency ds t && not (is_unanswered met t)) ≡ false) → list_all (λ w. is_unanswered met w.txn) ds ≡ true
none_unmet met [] f = refl
none_unmet met (w ∷ ws) f =
    let first : is_unanswered met w.txn ≡ true = and_not (is_dependency (w ∷ ws) w.txn) (is_unanswered met w.txn) (f w.txn) (ap (λ (b : Bool). b || is_dependency ws w.txn) (own_txn w.txn)) in
    rw first (none_unmet met ws (λ t. rest (is_same_txn w.txn t) (is_dependency ws t) (is_unanswered met t) (f t)))
  where
    rest : (s b c : Bool) → ((s || b) && not c) ≡ false → (b && not c) ≡ false
    rest true true c e = e
    rest true false c e = refl
    rest false b c e = e

-- all dependencies are met exactly where no answer is missing
pub met_if_none : (answers met : List TxnValue) (ds : List WriterValue) → ((t : TxnValue) → is_unanswered answers t ≡ (is_dependency ds t && not (is_unanswered met t)))
    → list_all (λ w. is_unanswered met w.txn) ds ≡ (length answers == 0)
met_if_none [] met ds f = none_unmet met ds (λ t. sym (f t))
met_if_none (u ∷ us) met ds f = by_cases (list_all (λ w. is_unanswered met w.txn) ds)
    (λ all. absurd (let e = sym (f u) ∙ ap (λ (b : Bool). b || is_unanswered us u) (own_txn u) in let g = all_met_then met ds u all in cc))
    (λ some. some ∙ sym (some_answer u us))

both_empty : (xs : List ℕ) (ys : List TxnValue) → ((length xs == 0) && (length ys == 0)) ≡ ((length xs + length ys) == 0)
both_empty [] ys = grind (arith, nat_tests)
both_empty (x ∷ xs) ys = grind (arith, nat_tests)

-- a ballot is ready exactly where nothing is missing of it
pub ready_if_none : (top : TopologyValue) (me : ℕ) (c : ShardState) (t : TxnValue) (r : Remote) → (kept_ballot_of r).txn ≡ t → StandsRemote top me (view_of t c) r
    → is_ready top me c (kept_ballot_of r) ≡ (missing_in r.ballot == 0)
ready_if_none top me c t r is h =
    ap (λ (u : TxnValue). all_voted top me r.cohorts c.notices u && all_met c.met u r.dependencies) is
    ∙ (ap (λ (b : Bool). b && all_met c.met t r.dependencies) (voted_left top me r.cohorts c.notices t ∙ ap (λ (ns : List ℕ). length ns == 0) (sym h.missing))
    ∙ (ap (λ (b : Bool). (length r.ballot.notices.missing == 0) && b) (met_all c.met t r.dependencies ∙ met_if_none r.ballot.answers (met_for c.met t) r.dependencies h.answers)
    ∙ both_empty r.ballot.notices.missing r.ballot.answers))

-- and then the view says so
pub ready_in_view : (top : TopologyValue) (me : ℕ) (c : ShardState) (r : KeptBallot) → is_ready top me c r ≡ is_ready_by top me (view_of r.txn c) r
ready_in_view top me c r =
    ap (λ (b : Bool). b && all_met c.met r.txn r.dependencies) (voted_near top me r.cohorts c.notices r.txn)
    ∙ ap (λ (b : Bool). list_all (λ n. is_among (nodes_for c.notices r.txn) n) (near_nodes top me r.cohorts) && b) (met_all c.met r.txn r.dependencies)

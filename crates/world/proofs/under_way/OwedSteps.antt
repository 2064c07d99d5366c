-- What a read that waits goes on waiting for: a step ends no wait for a transaction but for one that the message applies or excludes,
-- and what it waits for anew is asked.
use Rattle.std.proofs.Common.{◌≡◌, ℕ, Bool, true, cond, not, List, [], ◌∷◌, ◌++◌, map, ◌⊎◌, inl, inr, refl, sym, ap, ◌∙◌, subst, arith}
use Rattle.std.specs.Prelude.{nat_le, Contains}
use Rattle.std.proofs.lemmas.Bool.Decides.{nat_tests}
use Rattle.logical_time.specs.Stamps.{TxnValue, StampValue, WriterValue}
use Rattle.slice.specs.declared.read.Read.{Read}
use Rattle.messages.specs.declared.body.Body.{Body}
use Rattle.messages.specs.declared.body.Body.TheVariants.{Commit, At, NotBy}
use Rattle.messages.specs.declared.envelope.Envelope.{Envelope}
use Rattle.messages.specs.Topology.{TopologyValue, shard_of}
use Rattle.messages.specs.Words.{is_same_txn}
use Rattle.messages.specs.Shard.{ShardState, ShardStep, WaitingRead, Own, PreparedPart, BegunBallot, KeptBallot}
use Rattle.messages.specs.Reads.{without, lessened, is_free, let_go, check_of, waiting_read}
use Rattle.messages.specs.Commits.{applied_part, commits, stamp_for, announcements, dep_oks, decide, repl_parts, with_vote}
use Rattle.messages.specs.Replication.{ballot_of, dep_checks, with_ballot, sent_before, with_notice, with_met}
use Rattle.shard.proofs.steps.HandledCases.{IsTelling, Ignored, begun, replicated, the_ballot, a_notice, an_answer, ReadyStep, misses, alone, asks, StepOf, still, begin_decides, begin_holds, prepares, vote_decides, vote_counts, vote_early, applies, lets_go, tells_commit, tells_none, reads_now, reads_collected, reads_at, waits, readies, notice_early, keeps_part, prepares_replica, tells_decided, remembers}
use Rattle.world.proofs.lists.Members.{last_or_old, Contains-append_right, contains_map, mapped_from, filter_contains, find_none}
use Rattle.world.proofs.safety.Facts.{Sees}
use Rattle.world.proofs.safety.Ables.{absent}
use Rattle.world.proofs.safety.OneBatch.{applied_sees}
use Rattle.world.proofs.envelopes.About.{Kind, OfAt, OfNotBy, OfCheck, OfReadAt, kind_of}
use Rattle.world.proofs.under_way.Underway.{Waiting}
use Rattle.world.proofs.under_way.LiveSteps.{less_equal}
use Rattle.world.proofs.under_way.HandledWaits.{less_left}

-- the message ends the wait for this transaction of a read at this time
abbrev pub Frees : Kind → ℕ → TxnValue → Type 0
Frees (OfAt u) time t = u ≡ t
Frees (OfNotBy u bound) time t = (u ≡ t) × (bound ≡ time)
Frees other time t = ⊥

-- a read at this time waited for the transaction, and the message doesn't end that
pub record Awaited (a : ShardState) (k : Kind) (time : ℕ) (t : TxnValue) : Type 0 where
  pub read : WaitingRead
  pub among : Contains a.waiting read
  pub at : read.time ≡ time
  pub left : Contains read.left t
  pub bound : Frees k time t → ⊥

-- the transaction's coordinator is asked about this time
pub record Checked (me : ℕ) (sends : List Envelope) (time : ℕ) (t : TxnValue) : Type 0 where
  pub message : Envelope
  pub among : Contains sends message
  pub by : message.from ≡ me
  pub is : kind_of message.body ≡ OfCheck t time

-- what reads wait for after a step at a message of this kind
pub record WaitsOn (me : ℕ) (a : ShardState) (st : ShardStep) (k : Kind) : Type 0 where
  pub each : (y : WaitingRead) → Contains st.state.waiting y → (t : TxnValue) → Contains y.left t → Awaited a k y.time t ⊎ Checked me st.sends y.time t

-- the message ends no wait
abbrev pub FreesNone : Kind → Type 0
FreesNone k = (time : ℕ) (t : TxnValue) → Frees k time t → ⊥

-- ## The steps that many messages lead to

module _ (me : ℕ) (k : Kind) where
  -- the same reads wait
  pub calm_on : (a : ShardState) (st : ShardStep) → st.state.waiting ≡ a.waiting
      → ((y : WaitingRead) → Contains a.waiting y → (t : TxnValue) → Contains y.left t → Frees k y.time t → ⊥) → WaitsOn me a st k
  calm_on a st same none =
      record {
        each = λ y m t i.
            let was = subst (λ l. Contains l y) same m in
            inl (record { read = y; among = was; at = refl; left = i; bound = none y was t i });
      }

  -- an input is stored first
  stored_on : (a b : ShardState) (st : ShardStep) → b.waiting ≡ a.waiting → WaitsOn me b st k → WaitsOn me a st k
  stored_on a b st same on =
      record {
        each = λ y m t i. elim (on.each y m t i) [
          | inl z ↦ inl (record { read = z.read; among = subst (λ l. Contains l z.read) same z.among; at = z.at; left = z.left; bound = z.bound })
          | inr z ↦ inr z
        ];
      }

  -- more was sent before
  before_on : (a : ShardState) (sends : List Envelope) (st : ShardStep) → WaitsOn me a st k → WaitsOn me a (sent_before sends st) k
  before_on a sends st on =
      record {
        each = λ y m t i. elim (on.each y m t i) [
          | inl z ↦ inl z
          | inr z ↦ inr (record { message = z.message; among = Contains-append_right sends st.sends z.message z.among; by = z.by; is = z.is })
        ];
      }

  -- reads are let go
  let_go_on : (n : ℕ) (a b : ShardState) (u : TxnValue) (p : WaitingRead → Bool) (sends : List Envelope) → b.waiting ≡ a.waiting
      → ((z : WaitingRead) (t : TxnValue) → (p z ≡ true → t ≡ u → ⊥) → Frees k z.time t → ⊥) → WaitsOn me a (let_go me n b u p sends) k
  let_go_on n a b u p sends same free =
      record {
        each = λ y m t i.
            let q = filter_contains (λ x. not (is_free x)) (lessened u p b.waiting) y m in
            let r = mapped_from (λ x. cond (p x) (record x { left = without u x.left }) x) b.waiting y q.0 in
            let left = less_left u p r.0 t (subst (λ (z : WaitingRead). Contains z.left t) r.2 i) in
            let at = (less_equal u p r.0 y r.2).2 in
            inl (record {
              read = r.0;
              among = subst (λ l. Contains l r.0) same r.1;
              at = sym at;
              left = left.0;
              bound = λ f. free r.0 t left.1 (subst (λ time. Frees k time t) at f);
            });
      }

module _ (top : TopologyValue) (me n : ℕ) (k : Kind) (none : FreesNone k) where
  send_on : (a : ShardState) (st : ShardStep) → st.state.waiting ≡ a.waiting → WaitsOn me a st k
  send_on a st same = calm_on me k a st same (λ y m t i. none y.time t)

  decide_on : (a : ShardState) (b : BegunBallot) → WaitsOn me a (decide top me n a b) k
  decide_on a b =
      let_go_on me k n a
      (record a {
        decided = a.decided ++ record { txn = b.txn; commit = n; stamp = stamp_for me n b.stamp } ∷ [];
        applied = a.applied ++ applied_part b.txn (shard_of top me) b.rows n (stamp_for me n b.stamp) ∷ [];
      })
      b.txn (λ y. true)
      (commits top me n b.txn (stamp_for me n b.stamp) b.cohorts ++ announcements top me n b b.stamp ++ dep_oks me n b.txn a.askers) refl
      (λ z t not. none z.time t)

  ready_on : (a : ShardState) (r : KeptBallot) (st : ShardStep) → ReadyStep top me n a r st → WaitsOn me a st k
  ready_on a r st (misses is) = send_on a _ refl
  ready_on a r st (alone is empty) = decide_on a (ballot_of r)
  ready_on a r st (asks is c cs some) = send_on a _ refl

-- ## What is told of a transaction that is waited for

module _ (a : ShardState) (waiting : Waiting a) where
  -- what At tells of the shard's own part is applied
  abbrev pub OwnApplied : Body → Type 0
  OwnApplied m =
      (t : TxnValue) (commit : ℕ) (stamp : StampValue) → m ≡ At t commit stamp → (p : PreparedPart) → Contains a.prepared p → p.txn ≡ t → p.role ≡ Own
      → Sees a.applied t

  -- an At that is ignored is of nothing that is waited for
  at_ignored : (top : TopologyValue) (me from : ℕ) (u : TxnValue) (commit : ℕ) (stamp : StampValue) → OwnApplied (At u commit stamp)
      → Ignored top me a from (At u commit stamp) → (y : WaitingRead) → Contains a.waiting y → Contains y.left u → ⊥
  at_ignored top me from u commit stamp own (inl e) y m i =
      let p = ((waiting y m).1 u i).0 in
      absent (λ (p : PreparedPart). p.txn) u a.prepared (find_none (λ p. is_same_txn p.txn u) a.prepared e) p.0 p.1 p.2
  at_ignored top me from u commit stamp own (inr (p, has, is, inl r)) y m i = ((waiting y m).1 u i).1 (own u commit stamp refl p has is r)
  at_ignored top me from u commit stamp own (inr (p, has, is, inr e)) y m i =
      let v = applied_sees p.txn a e in ((waiting y m).1 u i).1 (v.0, v.1, v.2 ∙ is)

  ignored_free : (top : TopologyValue) (me from : ℕ) (m : Body) → OwnApplied m → Ignored top me a from m
      → (y : WaitingRead) → Contains a.waiting y → (t : TxnValue) → Contains y.left t → Frees (kind_of m) y.time t → ⊥
  ignored_free top me from (At u commit stamp) own e y m t i f =
      at_ignored top me from u commit stamp own e y m (subst (λ z. Contains y.left z) (sym f) i)
  ignored_free top me from (NotBy u bound) own e y m t i f = e
  ignored_free top me from _ own e y m t i f = f

-- ## Every case

-- what applies a part ends the wait for its transaction
applied_free : (m : Body) (t : TxnValue) (commit : ℕ) (stamp : StampValue) → IsTelling m t commit stamp → (u : TxnValue) → u ≡ t
    → (z : WaitingRead) (s : TxnValue) → (true ≡ true → s ≡ u → ⊥) → Frees (kind_of m) z.time s → ⊥
applied_free m t commit stamp (inl q) u is z s not f =
    let none : Frees (kind_of (Commit t commit stamp)) z.time s = subst (λ b. Frees (kind_of b) z.time s) q f in none
applied_free m t commit stamp (inr q) u is z s not f =
    let same : Frees (kind_of (At t commit stamp)) z.time s = subst (λ b. Frees (kind_of b) z.time s) q f in not refl (sym same ∙ sym is)

excluded_free : (u : TxnValue) (bound : ℕ) (z : WaitingRead) (s : TxnValue) → (nat_le z.time bound ≡ true → s ≡ u → ⊥)
    → Frees (OfNotBy u bound) z.time s → ⊥
excluded_free u bound z s not (same, at) = not le (sym same)
  where
    le : nat_le z.time bound ≡ true
    le = grind (arith, nat_tests)

module _ (top : TopologyValue) (me n : ℕ) (a : ShardState) (from : ℕ) (waiting : Waiting a) where
  -- what a read waits for from now on is asked
  new_on : (number time : ℕ) (read : Read) (w : WriterValue) (ws : List WriterValue)
      → WaitsOn me a
      (record {
        state = record a { clock = n; waiting = a.waiting ++ waiting_read from number time read (w ∷ ws) ∷ [] };
        sends = map (check_of top me n time) (w ∷ ws);
      })
      (OfReadAt number time)
  new_on number time read w ws =
      let new = waiting_read from number time read (w ∷ ws) in
      record {
        each = λ y m t i. elim (last_or_old y new a.waiting m) [
          | inl o ↦ inl (record { read = y; among = o; at = refl; left = i; bound = λ f. f })
          | inr q ↦
              let r = mapped_from (λ (v : WriterValue). v.txn) (w ∷ ws) t (subst (λ (z : WaitingRead). Contains z.left t) q i) in
              let at : time ≡ y.time = sym (ap (λ (z : WaitingRead). z.time) q) in
              inr (record {
                message = check_of top me n time r.0;
                among = contains_map (check_of top me n time) (w ∷ ws) r.0 r.1;
                by = refl;
                is = ap (λ u. OfCheck u time) (sym r.2) ∙ ap (λ u. OfCheck t u) at;
              })
        ];
      }

  pub step_on : (m : Body) (st : ShardStep) → OwnApplied a waiting m → StepOf top me n a from m st → WaitsOn me a st (kind_of m)
  step_on m st own (still e) = calm_on me _ a _ refl (ignored_free a waiting top me from m own e)
  step_on m st own (begin_decides t rows cohorts dependencies new all) = decide_on top me n _ (λ time t f. f) a (begun t rows cohorts dependencies)
  step_on m st own (begin_holds t rows cohorts dependencies new some) = send_on top me n _ (λ time t f. f) a _ refl
  step_on m st own (prepares t rows coordinator new) = send_on top me n _ (λ time t f. f) a _ refl
  step_on m st own (vote_decides t b is awaited all) =
      stored_on me _ a (with_vote a b.txn from) _ refl (decide_on top me n _ (λ time t f. f) (with_vote a b.txn from) b)
  step_on m st own (vote_counts t b is awaited some) = send_on top me n _ (λ time t f. f) a _ refl
  step_on m st own (vote_early t none new first) = send_on top me n _ (λ time t f. f) a _ refl
  step_on m st own (applies t commit stamp tells p has is theirs new) =
      let_go_on me _ n a (record a { applied = a.applied ++ applied_part p.txn p.coordinator p.rows commit stamp ∷ [] }) p.txn (λ y. true)
      (repl_parts p.role top me n p stamp) refl (applied_free m t commit stamp tells p.txn is)
  step_on m st own (lets_go t bound) = let_go_on me _ n a a t (λ y. nat_le y.time bound) [] refl (excluded_free t bound)
  step_on m st own (tells_commit t time d has is) = send_on top me n _ (λ time t f. f) a _ refl
  step_on m st own (tells_none t time is) = send_on top me n _ (λ time t f. f) a _ refl
  step_on m st own (reads_now number read) = send_on top me n _ (λ time t f. f) a _ refl
  step_on m st own (reads_collected number time read new below) = send_on top me n _ (λ time t f. f) a _ refl
  step_on m st own (reads_at number time read new above none) = send_on top me n _ (λ time t f. f) a _ refl
  step_on m st own (waits number time read new above w ws some) = new_on number time read w ws
  step_on m st own (readies (the_ballot t rows stamp cohorts dependencies new) step) =
      let r = replicated t rows stamp cohorts dependencies in
      before_on me _ a (dep_checks top me n r) _ (stored_on me _ a (with_ballot a r) _ refl (ready_on top me n _ (λ time t f. f) (with_ballot a r) r _ step))
  step_on m st own (readies (a_notice t r has is awaited unready) step) =
      before_on me _ a [] _ (stored_on me _ a (with_notice a r.txn from) _ refl (ready_on top me n _ (λ time t f. f) (with_notice a r.txn from) r _ step))
  step_on m st own (readies (an_answer dependency waiter commit r has is unmet unready) step) =
      before_on me _ a [] _ (stored_on me _ a (with_met a r.txn dependency) _ refl (ready_on top me n _ (λ time t f. f) (with_met a r.txn dependency) r _ step))
  step_on m st own (notice_early t none new first) = send_on top me n _ (λ time t f. f) a _ refl
  step_on m st own (keeps_part t rows stamp coordinator new) = send_on top me n _ (λ time t f. f) a _ refl
  step_on m st own (prepares_replica t p has is new) = send_on top me n _ (λ time t f. f) a _ refl
  step_on m st own (tells_decided dependency waiter d has is) = send_on top me n _ (λ time t f. f) a _ refl
  step_on m st own (remembers dependency waiter none new) = send_on top me n _ (λ time t f. f) a _ refl

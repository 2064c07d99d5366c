-- What waits goes on waiting, or is answered: the steps that many messages lead to, and each case of a message.
use Rattle.std.proofs.Common.{◌≡◌, ℕ, Bool, true, false, cond, not, List, [], ◌∷◌, ◌++◌, ◌⊎◌, inl, inr, refl, sym, ap, ◌∙◌, subst, ◌&&◌, map}
use Rattle.std.specs.Prelude.{filter, nat_le, nat_lt, Contains}
use Rattle.std.proofs.lemmas.Bool.{false≢true, and_parts, not-true}
use Rattle.std.specs.List.{list_any}
use Rattle.logical_time.specs.Stamps.{TxnValue, StampValue, WriterValue}
use Rattle.column_family.specs.declared.batch.Change.{Change}
use Rattle.slice.specs.declared.read.Read.{Read}
use Rattle.slice.specs.Rows.{row_of}
use Rattle.store.specs.declared.part.Applied.{Applied}
use Rattle.messages.specs.declared.envelope.Envelope.{Envelope}
use Rattle.messages.specs.Words.{is_same_txn}
use Rattle.messages.specs.Shard.{ShardState, ShardStep, WaitingRead, Role, Cohort, Replica, PreparedPart, BegunBallot, Vote, KeptBallot}
use Rattle.messages.specs.Reads.{part_at, without, lessened, is_nothing, is_free, let_go, marks_below, asked_below, waiting_read}
use Rattle.messages.specs.declared.body.Body.{Body}
use Rattle.messages.specs.Topology.{TopologyValue, shard_of}
use Rattle.messages.specs.Known.{is_applied}
use Rattle.messages.specs.Rows.{touches_row}
use Rattle.messages.specs.Commits.{applied_part, commits, stamp_for, announcements, dep_oks, decide, hold, prepare_part, repl_parts, apply_part, with_vote}
use Rattle.messages.specs.Replication.{ballot_of, dep_checks, with_ballot, sent_before, with_notice, with_met}
use Rattle.messages.specs.ShardEvents.{handled, collected}
use Rattle.messages.proofs.WritersInOrder.{writers_stay}
use Rattle.shard.proofs.steps.HandledCases.{begun, replicated, copied, with_early, with_asker, the_ballot, a_notice, an_answer, ReadyStep, misses, alone, asks, StepOf, still, begin_decides, begin_holds, prepares, vote_decides, vote_counts, vote_early, applies, lets_go, tells_commit, tells_none, reads_now, reads_collected, reads_at, waits, readies, notice_early, keeps_part, prepares_replica, tells_decided, remembers, handled_cases}
use Rattle.world.proofs.lists.Members.{contains_first, last_or_old, Contains-append_left, Contains-append_right, contains_map, mapped_from, contains_filter, filter_contains, any_false}
use Rattle.world.proofs.safety.Facts.{Sees}
use Rattle.world.proofs.envelopes.About.{Kind, OfReadAt, OfPartAt, Sent, kind_of}
use Rattle.world.proofs.under_way.Underway.{HasPrepared, HasWait, Waiting, WaitStep}
use Rattle.world.proofs.under_way.LivePlaces.{same_at}
use Rattle.world.proofs.under_way.LiveSteps.{less, less_from, less_equal}
use Rattle.world.proofs.keeping.AskedMarks.{writer_at}
use Rattle.world.proofs.under_way.LiveGrow.{sent_in}

abbrev pub WaitsOf : ℕ → ShardState → ShardStep → ℕ → Kind → Type 0
WaitsOf me a st from k = WaitStep me a st.state st.sends from k

-- ## Nothing is applied

-- the second waits for the same, and has applied the same
pub record Calm (a b : ShardState) : Type 0 where
  pub waiting : b.waiting ≡ a.waiting
  pub prepared : (t : TxnValue) → HasPrepared a t → HasPrepared b t
  pub applied : b.applied ≡ a.applied

waits_same : (a b : ShardState) → b.waiting ≡ a.waiting → (y : WaitingRead) → Contains a.waiting y → HasWait b y.session y.number y.time
waits_same a b e y m = (y, subst (λ l. Contains l y) (sym e) m, refl, refl, refl)

pub calm_wait : (me from : ℕ) (k : Kind) (a b : ShardState) (sends : List Envelope) → Calm a b → WaitStep me a b sends from k
calm_wait me from k a b sends c =
    record {
      waiting = λ f y m.
          let q = f y (subst (λ l. Contains l y) c.waiting m) in
          (q.0, λ t i. let r = q.1 t i in (c.prepared t r.0, λ v. r.1 (subst (λ l. Sees l t) c.applied v)));
      old = λ y m. inl (y, subst (λ l. Contains l y) c.waiting m, refl, refl, refl);
      kept = λ y m. inl (waits_same a b c.waiting y m);
    }

-- an input is stored first
pub input_wait : (me from : ℕ) (k : Kind) (a b : ShardState) (st : ShardStep) → Calm a b → WaitsOf me b st from k → WaitsOf me a st from k
input_wait me from k a b st c s =
    let first = calm_wait me from k a b [] c in
    record {
      waiting = λ f. s.waiting (first.waiting f);
      old = λ y m. elim (s.old y m) [ inl z ↦ inl (z.0, subst (λ l. Contains l z.0) c.waiting z.1, z.2, z.3, z.4) | inr z ↦ inr z ];
      kept = λ y m. s.kept y (subst (λ l. Contains l y) (sym c.waiting) m);
    }

-- ## A transaction is applied or excluded

nonempty : (ts : List TxnValue) → not (is_nothing ts) ≡ true → (t : TxnValue) × Contains ts t
nonempty [] e = absurd (false≢true e)
nonempty (t ∷ ts) e = (t, contains_first t ts)

pub less_left : (t : TxnValue) (p : WaitingRead → Bool) (y : WaitingRead) (u : TxnValue) → Contains (less t p y).left u → Contains y.left u × (p y ≡ true → u ≡ t → ⊥)
less_left t p y u = go (p y) refl
  where
    go : (b : Bool) → p y ≡ b → Contains (cond b (record y { left = without t y.left }) y).left u → Contains y.left u × (p y ≡ true → u ≡ t → ⊥)
    go true e m = let q = filter_contains (λ u. not (is_same_txn u t)) y.left u m in (q.0, λ z r. false≢true (sym (ap not (same_at u t r)) ∙ q.1))
    go false e m = (m, λ z r. false≢true (sym e ∙ z))

-- the shard that lets go waits as this one did, and has applied beside this one's only what is let go
pub record Loosed (a b : ShardState) (t : TxnValue) (p : WaitingRead → Bool) : Type 0 where
  pub waiting : b.waiting ≡ a.waiting
  pub prepared : (u : TxnValue) → HasPrepared a u → HasPrepared b u
  pub applied : (u : TxnValue) → Sees b.applied u → Sees a.applied u ⊎ ((u ≡ t) × ((y : WaitingRead) → p y ≡ true))

module _ (me n : ℕ) (a b : ShardState) (t : TxnValue) (p : WaitingRead → Bool) (sends : List Envelope) (from : ℕ) (k : Kind) (c : Loosed a b t p) where
  from_rest : (y : WaitingRead) → Contains (filter (λ x. not (is_free x)) (lessened t p b.waiting)) y → (z : WaitingRead) × Contains a.waiting z × (y ≡ less t p z) × (not (is_nothing y.left) ≡ true)
  from_rest y m =
      let q = filter_contains (λ x. not (is_free x)) (lessened t p b.waiting) y m in
      let r = mapped_from (λ x. cond (p x) (record x { left = without t x.left }) x) b.waiting y q.0 in
      (r.0, subst (λ l. Contains l r.0) c.waiting r.1, r.2, q.1)

  loosed_waiting : Waiting a → Waiting (let_go me n b t p sends).state
  loosed_waiting f y m =
      let q = from_rest y m in (
        nonempty y.left q.3,
        λ u i.
            let r = less_left t p q.0 u (subst (λ z. Contains z.left u) q.2 i) in
            let o = (f q.0 q.1).1 u r.0 in
            (c.prepared u o.0, λ v. elim (c.applied u v) [ inl z ↦ o.1 z | inr z ↦ r.1 (z.1 q.0) z.0 ]),
      )

  loosed_old : (y : WaitingRead) → Contains (filter (λ x. not (is_free x)) (lessened t p b.waiting)) y → HasWait a y.session y.number y.time ⊎ ((y.session ≡ from) × (k ≡ OfReadAt y.number y.time))
  loosed_old y m =
      let q = from_rest y m in
      let r = less_equal t p q.0 y q.2 in
      inl (q.0, q.1, sym r.0, sym r.1, sym r.2)

  loosed_kept : (y : WaitingRead) → Contains a.waiting y → HasWait (let_go me n b t p sends).state y.session y.number y.time ⊎ Sent (let_go me n b t p sends).sends me y.session (OfPartAt y.number y.time)
  loosed_kept y m = go (is_nothing (less t p y).left) refl
    where
      i : Contains (lessened t p b.waiting) (less t p y)
      i = contains_map (λ x. cond (p x) (record x { left = without t x.left }) x) b.waiting y (subst (λ l. Contains l y) (sym c.waiting) m)

      go : (e : Bool) → is_nothing (less t p y).left ≡ e → HasWait (let_go me n b t p sends).state y.session y.number y.time ⊎ Sent (let_go me n b t p sends).sends me y.session (OfPartAt y.number y.time)
      go true e =
          let r = less_from t p y in
          inr (record {
            message = part_at me n b (less t p y);
            among = Contains-append_right sends _ _ (contains_map (part_at me n b) (filter is_free (lessened t p b.waiting)) (less t p y) (contains_filter is_free (lessened t p b.waiting) (less t p y) i e));
            by = refl;
            for = r.0;
            is = λ j. OfPartAt (r.1 j) (r.2 j);
          })
      go false e =
          let r = less_from t p y in
          inl (less t p y, contains_filter (λ x. not (is_free x)) (lessened t p b.waiting) (less t p y) i (ap not e), r.0, r.1, r.2)

  pub let_go_wait : WaitsOf me a (let_go me n b t p sends) from k
  let_go_wait = record { waiting = loosed_waiting; old = loosed_old; kept = loosed_kept }

-- nothing was applied; one part was
pub loosed_same : (a : ShardState) (t : TxnValue) (p : WaitingRead → Bool) → Loosed a a t p
loosed_same a t p = record { waiting = refl; prepared = λ u k. k; applied = λ u v. inl v }

pub sees_more : (vs : List Applied) (v : Applied) (u : TxnValue) → Sees (vs ++ v ∷ []) u → Sees vs u ⊎ (u ≡ v.part.writer.txn)
sees_more vs v u k = elim (last_or_old k.0 v vs k.1) [ inl o ↦ inl (k.0, o, k.2) | inr q ↦ inr (sym k.2 ∙ ap (λ (z : Applied). z.part.writer.txn) q) ]

-- ## What many messages lead to

module _ (top : TopologyValue) (me n from : ℕ) (k : Kind) where
  send_wait : (a : ShardState) (sends : List Envelope) → WaitsOf me a (record { state = record a { clock = n }; sends = sends }) from k
  send_wait a sends = calm_wait me from k a (record a { clock = n }) sends (record { waiting = refl; prepared = λ t p. p; applied = refl })

  decide_wait : (a : ShardState) (b : BegunBallot) → WaitsOf me a (decide top me n a b) from k
  decide_wait a b =
      let v = applied_part b.txn (shard_of top me) b.rows n (stamp_for me n b.stamp) in
      let_go_wait me n a
      (record a { decided = a.decided ++ record { txn = b.txn; commit = n; stamp = stamp_for me n b.stamp } ∷ []; applied = a.applied ++ v ∷ [] })
      b.txn (λ y. true)
      (commits top me n b.txn (stamp_for me n b.stamp) b.cohorts ++ announcements top me n b b.stamp ++ dep_oks me n b.txn a.askers) from k
      (record { waiting = refl; prepared = λ u p. p; applied = λ u s. elim (sees_more a.applied v u s) [ inl o ↦ inl o | inr q ↦ inr (q, λ y. refl) ] })

  apply_wait : (a : ShardState) (p : PreparedPart) (commit : ℕ) (stamp : StampValue) → WaitsOf me a (apply_part top me n a p commit stamp) from k
  apply_wait a p commit stamp =
      let v = applied_part p.txn p.coordinator p.rows commit stamp in
      let_go_wait me n a (record a { applied = a.applied ++ v ∷ [] }) p.txn (λ y. true) (repl_parts p.role top me n p stamp) from k
      (record { waiting = refl; prepared = λ u h. h; applied = λ u s. elim (sees_more a.applied v u s) [ inl o ↦ inl o | inr q ↦ inr (q, λ y. refl) ] })

  hold_wait : (a : ShardState) (b : BegunBallot) (counted : List Vote) (sends : List Envelope) → WaitsOf me a (hold top me n a b counted sends) from k
  hold_wait a b counted sends =
      calm_wait me from k a (hold top me n a b counted sends).state sends
      (record { waiting = refl; prepared = λ t p. (p.0, Contains-append_left a.prepared _ p.0 p.1, p.2); applied = refl })

  part_wait : (a : ShardState) (t : TxnValue) (rows : List Change) (c : ℕ) (role : Role) → WaitsOf me a (prepare_part top me n a t rows c role) from k
  part_wait a t rows c role =
      calm_wait me from k a (prepare_part top me n a t rows c role).state _
      (record { waiting = refl; prepared = λ t p. (p.0, Contains-append_left a.prepared _ p.0 p.1, p.2); applied = refl })

  -- ## A replicated ballot

  ready_wait : (a : ShardState) (r : KeptBallot) (st : ShardStep) → ReadyStep top me n a r st → WaitsOf me a st from k
  ready_wait a r st (misses is) = send_wait a []
  ready_wait a r st (alone is none) = decide_wait a (ballot_of r)
  ready_wait a r st (asks is c cs some) = hold_wait a (ballot_of r) [] _

  -- more was sent before
  before_wait : (a : ShardState) (sends : List Envelope) (st : ShardStep) → WaitsOf me a st from k → WaitsOf me a (sent_before sends st) from k
  before_wait a sends st s =
      record {
        waiting = s.waiting;
        old = s.old;
        kept = λ y m. elim (s.kept y m) [ inl z ↦ inl z | inr z ↦ inr (sent_in (λ e i. Contains-append_right sends st.sends e i) z) ];
      }

-- ## A read at a time

-- what it asks for is prepared and not applied
pub asked_unapplied : (a : ShardState) (time : ℕ) (read : Read) (w : WriterValue) → Contains (asked_below a time read) w → HasPrepared a w.txn × (Sees a.applied w.txn → ⊥)
asked_unapplied a time read w m =
    let ws = map writer_at (marks_below a time read) in
    let q = mapped_from writer_at (marks_below a time read) w ((writers_stay ws w).0 m) in
    let touched = list_any (λ key. touches_row (row_of read key) q.0) read.keys in
    let f = filter_contains (λ p. list_any (λ key. touches_row (row_of read key) p) read.keys && not (is_applied p.txn a) && nat_lt p.time time) a.prepared q.0 q.1 in
    let p = and_parts (touched && not (is_applied q.0.txn a)) (nat_lt q.0.time time) f.1 in
    let none = not-true (is_applied q.0.txn a) (and_parts touched (not (is_applied q.0.txn a)) p.0).1 in
    let same : q.0.txn ≡ w.txn = ap (λ (z : WriterValue). z.txn) (sym q.2) in (
      (q.0, f.0, same),
      λ v. false≢true (sym (any_false (λ x. is_same_txn x.part.writer.txn q.0.txn) a.applied none v.0 v.1) ∙ same_at v.0.part.writer.txn q.0.txn (v.2 ∙ sym same)),
    )

module _ (top : TopologyValue) (me n : ℕ) (a : ShardState) (from : ℕ) where
  -- the read waits for what is prepared and not applied
  new_wait : (number time : ℕ) (read : Read) (w : WriterValue) (ws : List WriterValue)
      → ((u : WriterValue) → Contains (w ∷ ws) u → HasPrepared a u.txn × (Sees a.applied u.txn → ⊥)) → (sends : List Envelope)
      → WaitsOf me a (record { state = record a { clock = n; waiting = a.waiting ++ waiting_read from number time read (w ∷ ws) ∷ [] }; sends = sends }) from
      (OfReadAt number time)
  new_wait number time read w ws f sends =
      let new = waiting_read from number time read (w ∷ ws) in
      record {
        waiting = λ g y m. elim (last_or_old y new a.waiting m) [
          | inl o ↦ g y o
          | inr q ↦ (
            (w.txn, subst (λ (z : WaitingRead). Contains z.left w.txn) (sym q) (contains_first _ _)),
            λ u i.
                let r = mapped_from (λ v. v.txn) (w ∷ ws) u (subst (λ (z : WaitingRead). Contains z.left u) q i) in
                let o = f r.0 r.1 in
                ((o.0.0, o.0.1, o.0.2 ∙ sym r.2), λ v. o.1 (v.0, v.1, v.2 ∙ r.2)),
          )
        ];
        old = λ y m. elim (last_or_old y new a.waiting m) [
          | inl o ↦ inl (y, o, refl, refl, refl)
          | inr q ↦ inr (ap (λ (z : WaitingRead). z.session) q, sym (ap (λ (z : WaitingRead). OfReadAt z.number z.time) q))
        ];
        kept = λ y m. inl (y, Contains-append_left a.waiting (new ∷ []) y m, refl, refl, refl);
      }

  -- ## Every case

  -- an input that is stored is none of this
  stored : (b : ShardState) (st : ShardStep) (k : Kind) → b.waiting ≡ a.waiting → b.prepared ≡ a.prepared → b.applied ≡ a.applied → WaitsOf me b st from k
      → WaitsOf me a st from k
  stored b st k same marks parts s =
      input_wait me from k a b st (record { waiting = same; prepared = λ t p. (p.0, subst (λ l. Contains l p.0) (sym marks) p.1, p.2); applied = parts }) s

  step_wait : (m : Body) (st : ShardStep) → StepOf top me n a from m st → WaitsOf me a st from (kind_of m)
  step_wait m st (still none) = send_wait top me n from _ a []
  step_wait m st (begin_decides t rows cohorts dependencies new all) = decide_wait top me n from _ a (begun t rows cohorts dependencies)
  step_wait m st (begin_holds t rows cohorts dependencies new some) = hold_wait top me n from _ a (begun t rows cohorts dependencies) _ []
  step_wait m st (prepares t rows coordinator new) = part_wait top me n from _ a t rows coordinator Cohort
  step_wait m st (vote_decides t b is awaited all) =
      stored (with_vote a b.txn from) _ _ refl refl refl (decide_wait top me n from _ (with_vote a b.txn from) b)
  step_wait m st (vote_counts t b is awaited some) =
      stored (with_vote a b.txn from) _ _ refl refl refl (send_wait top me n from _ (with_vote a b.txn from) [])
  step_wait m st (vote_early t none new first) =
      stored (with_early a t from) _ _ refl refl refl (send_wait top me n from _ (with_early a t from) [])
  step_wait m st (applies t commit stamp tells p has is theirs new) = apply_wait top me n from _ a p commit stamp
  step_wait m st (lets_go t time) =
      let_go_wait me n a a t (λ y. nat_le y.time time) [] from _ (loosed_same a t (λ y. nat_le y.time time))
  step_wait m st (tells_commit t time d has is) = send_wait top me n from _ a _
  step_wait m st (tells_none t time is) = send_wait top me n from _ a _
  step_wait m st (reads_now number read) = send_wait top me n from _ a _
  step_wait m st (reads_collected number time read new below) = send_wait top me n from _ a _
  step_wait m st (reads_at number time read new above none) = send_wait top me n from _ a _
  step_wait m st (waits number time read new above w ws some) =
      new_wait number time read w ws (λ u i. asked_unapplied a time read u (subst (λ l. Contains l u) (sym some) i)) _
  step_wait m st (readies (the_ballot t rows stamp cohorts dependencies new) step) =
      let r = replicated t rows stamp cohorts dependencies in
      before_wait top me n from _ a (dep_checks top me n r) _
      (stored (with_ballot a r) _ _ refl refl refl (ready_wait top me n from _ (with_ballot a r) r _ step))
  step_wait m st (readies (a_notice t r has is awaited unready) step) =
      stored (with_notice a r.txn from) _ _ refl refl refl
      (ready_wait top me n from _ (with_notice a r.txn from) r _ step)
  step_wait m st (readies (an_answer dependency waiter commit r has is unmet unready) step) =
      stored (with_met a r.txn dependency) _ _ refl refl refl
      (ready_wait top me n from _ (with_met a r.txn dependency) r _ step)
  step_wait m st (notice_early t none new first) =
      stored (with_notice a t from) _ _ refl refl refl (send_wait top me n from _ (with_notice a t from) [])
  step_wait m st (keeps_part t rows stamp coordinator new) =
      stored (record a { kept_parts = a.kept_parts ++ copied t rows stamp coordinator ∷ [] }) _ _ refl refl refl
      (send_wait top me n from _ (record a { kept_parts = a.kept_parts ++ copied t rows stamp coordinator ∷ [] }) _)
  step_wait m st (prepares_replica t p has is new) = part_wait top me n from _ a p.txn p.rows p.coordinator Replica
  step_wait m st (tells_decided dependency waiter d has is) = send_wait top me n from _ a _
  step_wait m st (remembers dependency waiter none new) =
      stored (with_asker a dependency waiter from) _ _ refl refl refl
      (send_wait top me n from _ (with_asker a dependency waiter from) [])

pub handled_wait : (top : TopologyValue) (me n : ℕ) (a : ShardState) (from : ℕ) (b : Body) → WaitStep me a (handled top me n a from b).state (handled top me n a from b).sends from (kind_of b)
handled_wait top me n a from b = step_wait top me n a from b (handled top me n a from b) (handled_cases top me n a from b)

-- a collection lets nothing go
pub collected_wait : (me n from : ℕ) (k : Kind) (a : ShardState) (time : ℕ) → WaitStep me a (collected n a time).state (collected n a time).sends from k
collected_wait me n from k a time = calm_wait me from k a (collected n a time).state [] (record { waiting = refl; prepared = λ t p. p; applied = refl })

-- In every run a read that waits for a transaction is owed a message that wasn't handled: the Check that asks for it, or the answer.
use Rattle.std.proofs.Common.{◌≡◌, ℕ, ◌<◌, ◌≤◌, Bool, true, false, ◌&&◌, cond, List, [], ◌∷◌, ◌++◌, length, slice_get, Option, Some, None, Ok, ◌⊎◌, inl, inr, refl, sym, ap, ◌∙◌, subst, arith, eqb-true, eq-eqb}
use Rattle.std.specs.Prelude.{◌==◌, filter_map, Contains}
use Rattle.std.proofs.lemmas.Bool.{false≢true, and_parts, and_from}
use Rattle.std.proofs.lemmas.Option.{slice_get_within}
use Rattle.logical_time.specs.Stamps.{TxnValue}
use Rattle.planner.specs.Plan.{coordinator_of}
use Rattle.messages.specs.declared.body.Body.{Body}
use Rattle.messages.specs.declared.body.Body.TheVariants.{Check, At, NotBy}
use Rattle.messages.specs.declared.envelope.Envelope.{Envelope}
use Rattle.messages.specs.Topology.{TopologyValue, is_topology, is_shard, dc_of, shard_node}
use Rattle.messages.specs.Words.{is_same_txn, envelope}
use Rattle.messages.specs.Clock.{ticked}
use Rattle.messages.specs.Shard.{ShardState, ShardStep, Decision, WaitingRead, Own}
use Rattle.messages.specs.Session.{SessionStep}
use Rattle.messages.specs.Known.{decision_of}
use Rattle.messages.specs.Commits.{check_for}
use Rattle.messages.specs.ShardEvents.{handled, collected}
use Rattle.messages.specs.SessionEvents.{heard}
use Rattle.messages.specs.Submitting.{begun}
use Rattle.messages.proofs.Numbering.{shard_again}
use Rattle.shard.proofs.steps.HandledCases.{handled_cases}
use Rattle.shard.proofs.steps.Handles.{ticked_above}
use Rattle.world.specs.Run.{Run, RunEvent, Submit, Deliver, Submission, submission_by, opening, with_actor, after_shard, with_session, step, continued, run}
use Rattle.world.specs.Quiet.{number_delivered, handled as handled_in, WasHandled}
use Rattle.world.proofs.lists.Members.{none_in_empty, contains_first, contains_get, Contains-append_left, Contains-append_right, Contains-append_cases, same_txn, same_txn_self}
use Rattle.world.proofs.safety.Facts.{lead, RoleFits, Sees}
use Rattle.world.proofs.safety.Invariant.{Says, Inv}
use Rattle.world.proofs.safety.OneBatch.{written_at, batch_one}
use Rattle.world.proofs.safety.Runs.{opening_holds, step_kept}
use Rattle.world.proofs.steps.EventCases.{timed_cases}
use Rattle.world.proofs.steps.Moves.{session_no_shard}
use Rattle.world.proofs.steps.OwnSends.{AreOwn, handled_own}
use Rattle.world.proofs.steps.Ticks.{heard_own, begun_own}
use Rattle.world.proofs.fresh.HeardRuns.{changed_actor}
use Rattle.world.proofs.envelopes.About.{Kind, OfCheck, OfAt, OfNotBy, kind_of}
use Rattle.world.proofs.envelopes.Addresses.{Stands, stands, dc_shard, shard_dc}
use Rattle.world.proofs.envelopes.Stations.{Stations, handled_more, get_front, step_stations, opening_stations}
use Rattle.world.proofs.under_way.Underway.{Live}
use Rattle.world.proofs.under_way.LiveEvents.{step_live, opening_live}
use Rattle.world.proofs.under_way.OwedSteps.{Frees, OwnApplied, step_on}

-- ## What is owed

-- The message is of a wait of this shard, for this transaction, at this time: the Check that it sent, or what came of it.
pub data IsOwed (node time : ℕ) (t : TxnValue) (from to : ℕ) (k : Kind) : Type 0 where
  asks : from ≡ node → k ≡ OfCheck t time → IsOwed node time t from to k
  answers : to ≡ node → (k ≡ OfAt t) ⊎ (k ≡ OfNotBy t time) → IsOwed node time t from to k

pub record Owed (w : Run) (node time : ℕ) (t : TxnValue) : Type 0 where
  pub message : Envelope
  pub among : Contains w.sent message
  pub unhandled : WasHandled w message → ⊥
  pub is : IsOwed node time t message.from message.to (kind_of message.body)

pub record Owing (top : TopologyValue) (w : Run) : Type 0 where
  pub owed : (node : ℕ) (y : WaitingRead) → Contains (w.shards node).waiting y → (t : TxnValue) → Contains y.left t → Owed w node y.time t
  -- no message of a shard is later than its clock
  pub timed : (e : Envelope) → Contains w.sent e → is_shard top e.from ≡ true → e.time ≤ (w.shards e.from).clock

-- ## A test for it

abbrev owes : ℕ → ℕ → TxnValue → ℕ → ℕ → Kind → Bool
owes node time t from to (OfCheck u bound) = (from == node) && (is_same_txn u t && (bound == time))
owes node time t from to (OfAt u) = (to == node) && is_same_txn u t
owes node time t from to (OfNotBy u bound) = (to == node) && (is_same_txn u t && (bound == time))
owes node time t from to other = false

one_of : (K : TxnValue → ℕ → Kind) (u t : TxnValue) (bound time : ℕ) → (is_same_txn u t && (bound == time)) ≡ true → K u bound ≡ K t time
one_of K u t bound time e =
    let p = and_parts (is_same_txn u t) (bound == time) e in
    ap (λ z. K z bound) (same_txn u t p.0) ∙ ap (λ z. K t z) (eqb-true bound time p.1)

owes_is : (node time : ℕ) (t : TxnValue) (from to : ℕ) (k : Kind) → owes node time t from to k ≡ true → IsOwed node time t from to k
owes_is node time t from to (OfCheck u bound) e =
    let p = and_parts (from == node) (is_same_txn u t && (bound == time)) e in
    asks (eqb-true from node p.0) (one_of OfCheck u t bound time p.1)
owes_is node time t from to (OfAt u) e =
    let p = and_parts (to == node) (is_same_txn u t) e in
    answers (eqb-true to node p.0) (inl (ap OfAt (same_txn u t p.1)))
owes_is node time t from to (OfNotBy u bound) e =
    let p = and_parts (to == node) (is_same_txn u t && (bound == time)) e in
    answers (eqb-true to node p.0) (inr (one_of OfNotBy u t bound time p.1))
owes_is node time t from to _ e = absurd (false≢true e)

is_owes : (node time : ℕ) (t : TxnValue) (from to : ℕ) (k : Kind) → IsOwed node time t from to k → owes node time t from to k ≡ true
is_owes node time t from to k (asks p q) =
    subst (λ z. owes node time t from to z ≡ true) (sym q)
    (and_from (from == node) _ (eq-eqb from node p) (and_from (is_same_txn t t) (time == time) (same_txn_self t) (eq-eqb time time refl)))
is_owes node time t from to k (answers p (inl q)) =
    subst (λ z. owes node time t from to z ≡ true) (sym q) (and_from (to == node) _ (eq-eqb to node p) (same_txn_self t))
is_owes node time t from to k (answers p (inr q)) =
    subst (λ z. owes node time t from to z ≡ true) (sym q)
    (and_from (to == node) _ (eq-eqb to node p) (and_from (is_same_txn t t) (time == time) (same_txn_self t) (eq-eqb time time refl)))

-- ## A Check is answered

record AnsweredWith (st : ShardStep) (from time : ℕ) (t : TxnValue) : Type 0 where
  message : Envelope
  among : Contains st.sends message
  to : message.to ≡ from
  is : (kind_of message.body ≡ OfAt t) ⊎ (kind_of message.body ≡ OfNotBy t time)

check_answered : (top : TopologyValue) (me n : ℕ) (a : ShardState) (from time : ℕ) (t : TxnValue) (b : Body) → kind_of b ≡ OfCheck t time
    → AnsweredWith (handled top me n a from b) from time t
check_answered top me n a from time t (Check u bound) e = go (decision_of u a)
  where
    same : u ≡ t
    same = cc

    at : bound ≡ time
    at = cc

    go : (o : Option Decision) → AnsweredWith (check_for o me n a from u bound) from time t
    go (Some d) =
        record { message = envelope me from n (At u d.commit d.stamp); among = contains_first _ []; to = refl; is = inl (ap OfAt same) }
    go None =
        record {
          message = envelope me from n (NotBy u bound);
          among = contains_first _ [];
          to = refl;
          is = inr (ap (λ z. OfNotBy z bound) same ∙ ap (λ z. OfNotBy t z) at);
        }
check_answered top me n a from time t _ e = absurd (cc)

-- ## What one more event leaves

module _ (w x : Run) (ev : RunEvent) (sends : List Envelope) (events : x.events ≡ w.events ++ ev ∷ []) (sent : x.sent ≡ w.sent ++ sends)
    (below : (k : ℕ) → Contains (handled_in w) k → k < length w.sent) (known : (j : ℕ) → number_delivered ev ≡ Some j → j < length w.sent) where
  -- what was handled by now was handled before, or is delivered
  handled_before : (m : Envelope) → WasHandled x m → WasHandled w m ⊎ ((j : ℕ) × (number_delivered ev ≡ Some j) × (slice_get w.sent j ≡ Some m))
  handled_before m (j, i, e) =
      let here = subst (λ l. slice_get l j ≡ Some m) sent e in
      elim (handled_more w.events ev j (subst (λ l. Contains (filter_map number_delivered l) j) events i)) [
        | inl o ↦ inl (j, o, get_front w.sent sends j m (below j o) here)
        | inr d ↦ inr (j, d, get_front w.sent sends j m (known j d) here)
      ]

  -- what is owed stays so, until it is delivered
  stays : (node time : ℕ) (t : TxnValue) (o : Owed w node time t) → ((j : ℕ) → number_delivered ev ≡ Some j → slice_get w.sent j ≡ Some o.message → ⊥)
      → Owed x node time t
  stays node time t o not =
      record {
        message = o.message;
        among = subst (λ l. Contains l o.message) (sym sent) (Contains-append_left w.sent sends o.message o.among);
        unhandled = λ h. elim (handled_before o.message h) [ inl z ↦ o.unhandled z | inr z ↦ not z.0 z.1 z.2 ];
        is = o.is;
      }

  -- what is new isn't handled
  is_new : (node time : ℕ) (t : TxnValue) (m : Envelope) → Contains sends m → (Contains w.sent m → ⊥) → IsOwed node time t m.from m.to (kind_of m.body)
      → Owed x node time t
  is_new node time t m i new is =
      record {
        message = m;
        among = subst (λ l. Contains l m) (sym sent) (Contains-append_right w.sent sends m i);
        unhandled = λ h. elim (handled_before m h) [
          | inl z ↦ new (contains_get w.sent z.0 m z.2)
          | inr z ↦ new (contains_get w.sent z.0 m z.2)
        ];
        is = is;
      }

-- ## A shard's step

module _ (top : TopologyValue) (w : Run) (some : 0 < top.shards) (inv : Inv top w) (live : Live top w) (stations : Stations top w) (owing : Owing top w) where
  -- a shard decided what it tells, and its own part is applied with that
  own_applied : (from to time : ℕ) (b : Body) → Says top w from to time b → OwnApplied (w.shards to) (live.waiting to) b
  own_applied from to time b says t commit stamp q p m is own =
      let told : Says top w from to time (At t commit stamp) = subst (λ z. Says top w from to time z) q says in
      let d = told.0.decided in
      let ds = (inv.shards from).decided d.decision d.among in
      let ps = (inv.shards to).prepared p m in
      let same = batch_one inv.submitted (written_at is ps.written) (written_at d.txn ds.written) in
      let fits : RoleFits Own top ps.batch to = subst (λ r. RoleFits r top ps.batch to) own ps.role in
      let at : to ≡ from = sym (shard_again top to) ∙ ap (shard_node top (dc_of top to)) (fits ∙ ap (coordinator_of top.shards) same)
      ∙ ap (λ dc. lead top dc ds.batch) (sym told.1) ∙ sym ds.here in
      let v = ds.applied in
      subst (λ z. Sees (w.shards z).applied t) (sym at) (v.0, v.1, v.2 ∙ d.txn)

  -- a node with a read that waits is a shard
  waits_shard : (node : ℕ) (y : WaitingRead) → Contains (w.shards node).waiting y → is_shard top node ≡ true
  waits_shard node y m = go (is_shard top node) refl
    where
      go : (b : Bool) → is_shard top node ≡ b → is_shard top node ≡ true
      go true e = e
      go false e = absurd (none_in_empty y (subst (λ (a : ShardState). Contains a.waiting y) (stations.shards node e) m))

  module _ (k : ℕ) (e : Envelope) (n : ℕ) (found : slice_get w.sent k ≡ Some e) where
    known : (j : ℕ) → number_delivered (Deliver k) ≡ Some j → j < length w.sent
    known j q = let same : k ≡ j = cc in subst (λ z. z < length w.sent) same (slice_get_within w.sent k e found)

    -- what isn't owed isn't the message that is owed
    other : (node time : ℕ) (t : TxnValue) (o : Owed w node time t) → owes node time t e.from e.to (kind_of e.body) ≡ false
        → (j : ℕ) → number_delivered (Deliver k) ≡ Some j → slice_get w.sent j ≡ Some o.message → ⊥
    other node time t o f j q is =
        let same : k ≡ j = cc in
        let f0 : Some e ≡ Some o.message = sym found ∙ ap (slice_get w.sent) same ∙ is in
        let it : e ≡ o.message = cc in
        false≢true (sym f ∙ subst (λ (z : Envelope). owes node time t z.from z.to (kind_of z.body) ≡ true) (sym it)
        (is_owes node time t o.message.from o.message.to (kind_of o.message.body) o.is))

    module _ (to : is_shard top e.to ≡ true) (ticks : ticked (w.shards e.to).clock e.time ≡ Some n) where
      abbrev st : ShardStep
      st = handled top e.to n (w.shards e.to) e.from e.body

      abbrev x : Run
      x = after_shard (Ok st) w (Deliver k) e.to

      own : AreOwn e.to n st.sends
      own = (handled_own top e.to n (w.shards e.to) e.from e.body).1

      -- what the step sends wasn't sent before
      unsent : (m : Envelope) → Contains st.sends m → Contains w.sent m → ⊥
      unsent m i old =
          let o = own m i in
          let lt = (ticked_above (w.shards e.to).clock e.time n ticks).0 in
          let le : m.time ≤ (w.shards e.to).clock =
          subst (λ z. m.time ≤ (w.shards z).clock) o.0 (owing.timed m old (ap (is_shard top) o.0 ∙ to)) in
          let at = o.1 in
          omega (arith, lt, le, at)

      keeps : (node time : ℕ) (t : TxnValue) → Owed w node time t → owes node time t e.from e.to (kind_of e.body) ≡ false → Owed x node time t
      keeps node time t o f = stays w x (Deliver k) st.sends refl refl stations.handled known node time t o (other node time t o f)

      -- a Check is answered
      told : (node time : ℕ) (t : TxnValue) → e.from ≡ node → kind_of e.body ≡ OfCheck t time → Owed x node time t
      told node time t p q =
          let r = check_answered top e.to n (w.shards e.to) e.from time t e.body q in
          is_new w x (Deliver k) st.sends refl refl stations.handled known node time t r.message r.among (unsent r.message r.among) (answers (r.to ∙ p) r.is)

      -- a read that waits elsewhere
      owed_elsewhere : (node : ℕ) (y : WaitingRead) (t : TxnValue) → (node == e.to) ≡ false → Owed w node y.time t → Owed x node y.time t
      owed_elsewhere node y t away o = go (owes node y.time t e.from e.to (kind_of e.body)) refl
        where
          is : IsOwed node y.time t e.from e.to (kind_of e.body) → Owed x node y.time t
          is (asks p q) = told node y.time t p q
          is (answers p q) = absurd (false≢true (sym away ∙ eq-eqb node e.to (sym p)))

          go : (b : Bool) → owes node y.time t e.from e.to (kind_of e.body) ≡ b → Owed x node y.time t
          go false f = keeps node y.time t o f
          go true f = is (owes_is node y.time t e.from e.to (kind_of e.body) f)

      -- a read that waits here, for what this message doesn't end
      owed_still : (time : ℕ) (t : TxnValue) → (Frees (kind_of e.body) time t → ⊥) → Owed w e.to time t → Owed x e.to time t
      owed_still time t bound o = go (owes e.to time t e.from e.to (kind_of e.body)) refl
        where
          is : IsOwed e.to time t e.from e.to (kind_of e.body) → Owed x e.to time t
          is (asks p q) = told e.to time t p q
          is (answers p (inl q)) = absurd (bound (subst (λ z. Frees z time t) (sym q) refl))
          is (answers p (inr q)) = absurd (bound (subst (λ z. Frees z time t) (sym q) (refl, refl)))

          go : (b : Bool) → owes e.to time t e.from e.to (kind_of e.body) ≡ b → Owed x e.to time t
          go false f = keeps e.to time t o f
          go true f = is (owes_is e.to time t e.from e.to (kind_of e.body) f)

      owed_here : (y : WaitingRead) → Contains st.state.waiting y → (t : TxnValue) → Contains y.left t → Owed x e.to y.time t
      owed_here y m t i =
          let says = inv.sent e (contains_get w.sent k e found) in
          let on = step_on top e.to n (w.shards e.to) e.from (live.waiting e.to) e.body st (own_applied e.from e.to e.time e.body says)
          (handled_cases top e.to n (w.shards e.to) e.from e.body) in
          elim (on.each y m t i) [
            | inl z ↦ owed_still y.time t z.bound (subst (λ u. Owed w e.to u t) z.at (owing.owed e.to z.read z.among t z.left))
            | inr z ↦ is_new w x (Deliver k) st.sends refl refl stations.handled known e.to y.time t z.message z.among (unsent z.message z.among) (asks z.by z.is)
          ]

      owed_go : (node : ℕ) (b : Bool) → (node == e.to) ≡ b → (y : WaitingRead) → Contains (cond b st.state (w.shards node)).waiting y
          → (t : TxnValue) → Contains y.left t → Owed x node y.time t
      owed_go node false q y m t i = owed_elsewhere node y t q (owing.owed node y m t i)
      owed_go node true q y m t i = subst (λ z. Owed x z y.time t) (sym (eqb-true node e.to q)) (owed_here y m t i)

      pub handled_owing : Owing top x
      handled_owing = record { owed = λ node. owed_go node (node == e.to) refl; timed = times }
        where
          times : (m : Envelope) → Contains (w.sent ++ st.sends) m → is_shard top m.from ≡ true → m.time ≤ (with_actor w.shards e.to st.state m.from).clock
          times m i is =
              let lt = (ticked_above (w.shards e.to).clock e.time n ticks).0 in
              let clock = (handled_own top e.to n (w.shards e.to) e.from e.body).0 in
              elim (Contains-append_cases w.sent st.sends m i) [
                | inl old ↦
                    let le = owing.timed m old is in
                    changed_actor (λ (a : ShardState). m.time ≤ a.clock) w.shards e.to st.state m.from
                    (λ same. (let here : m.time ≤ (w.shards e.to).clock = subst (λ z. m.time ≤ (w.shards z).clock) same le in omega (arith, here, lt, clock)))
                    (λ away. le)
                | inr new ↦
                    let o = own m new in
                    changed_actor (λ (a : ShardState). m.time ≤ a.clock) w.shards e.to st.state m.from
                    (λ same. (let at = o.1 in omega (arith, at, clock)))
                    (λ away. absurd (false≢true (sym away ∙ eq-eqb m.from e.to o.0)))
              ]

  -- ## A session's step

  -- no message that is owed comes to a session
  not_to_session : (node : ℕ) (y : WaitingRead) (t : TxnValue) → Contains (w.shards node).waiting y → (from to time : ℕ) (b : Body)
      → Says top w from to time b → is_shard top to ≡ false → IsOwed node y.time t from to (kind_of b) → ⊥
  not_to_session node y t m from to time b says apart (answers p q) = false≢true (sym apart ∙ ap (is_shard top) p ∙ waits_shard node y m)
  not_to_session node y t m from to time (Check u bound) says apart (asks p q) =
      let is = ap (is_shard top) p ∙ waits_shard node y m in
      let lt = subst (λ d. d < top.dcs) says.1 (shard_dc top from some is) in
      false≢true (sym apart ∙ dc_shard top to some lt)
  not_to_session node y t m from to time _ says apart (asks p q) = absurd (cc)

  module _ (node : ℕ) (ev : RunEvent) (n : ℕ) (submitted : List Submission) (st : SessionStep) (apart : is_shard top node ≡ false) (own : AreOwn node n st.sends)
      (known : (j : ℕ) → number_delivered ev ≡ Some j → j < length w.sent)
      (not : (shard : ℕ) (y : WaitingRead) (t : TxnValue) → Contains (w.shards shard).waiting y → (o : Owed w shard y.time t)
      → (j : ℕ) → number_delivered ev ≡ Some j → slice_get w.sent j ≡ Some o.message → ⊥) where
    pub session_owing : Owing top (with_session w ev node submitted st)
    session_owing =
        record {
          owed = λ shard y m t i.
              let o = owing.owed shard y m t i in
              stays w (with_session w ev node submitted st) ev st.sends refl refl stations.handled known shard y.time t o (not shard y t m o);
          timed = λ m i is. elim (Contains-append_cases w.sent st.sends m i) [
            | inl old ↦ owing.timed m old is
            | inr new ↦ absurd (false≢true (sym apart ∙ ap (is_shard top) (sym (own m new).0) ∙ is))
          ];
        }

  heard_owing : (k : ℕ) (e : Envelope) (n : ℕ) → slice_get w.sent k ≡ Some e → is_shard top e.to ≡ false
      → Owing top (with_session w (Deliver k) e.to w.submitted (heard top e.to n (w.sessions e.to) e.from e.body))
  heard_owing k e n found apart =
      session_owing e.to (Deliver k) n w.submitted (heard top e.to n (w.sessions e.to) e.from e.body) apart
      (heard_own top e.to n (w.sessions e.to) e.from e.body).1 (known k e n found) not
    where
      not : (shard : ℕ) (y : WaitingRead) (t : TxnValue) → Contains (w.shards shard).waiting y → (o : Owed w shard y.time t)
          → (j : ℕ) → number_delivered (Deliver k) ≡ Some j → slice_get w.sent j ≡ Some o.message → ⊥
      not shard y t m o = other k e n found shard y.time t o (go (owes shard y.time t e.from e.to (kind_of e.body)) refl)
        where
          go : (b : Bool) → owes shard y.time t e.from e.to (kind_of e.body) ≡ b → owes shard y.time t e.from e.to (kind_of e.body) ≡ false
          go false f = f
          go true f =
              absurd (not_to_session shard y t m e.from e.to e.time e.body (inv.sent e (contains_get w.sent k e found)) apart
              (owes_is shard y.time t e.from e.to (kind_of e.body) f))

  -- ## A collection

  collected_owing : (node time n : ℕ) (ev : RunEvent) → ((j : ℕ) → number_delivered ev ≡ Some j → ⊥) → ticked (w.shards node).clock (w.shards node).clock ≡ Some n
      → Owing top (after_shard (Ok (collected n (w.shards node) time)) w ev node)
  collected_owing node time n ev none ticks = record { owed = λ shard. owed_go shard (shard == node) refl; timed = times }
    where
      x : Run
      x = after_shard (Ok (collected n (w.shards node) time)) w ev node

      on : (shard : ℕ) (y : WaitingRead) → Contains (w.shards shard).waiting y → (t : TxnValue) → Contains y.left t
          → Owed (after_shard (Ok (collected n (w.shards node) time)) w ev node) shard y.time t
      on shard y m t i =
          stays w (after_shard (Ok (collected n (w.shards node) time)) w ev node) ev [] refl refl stations.handled (λ j q. absurd (none j q)) shard y.time t
          (owing.owed shard y m t i) (λ j q is. none j q)

      owed_go : (shard : ℕ) (b : Bool) → (shard == node) ≡ b → (y : WaitingRead)
          → Contains (cond b (collected n (w.shards node) time).state (w.shards shard)).waiting y → (t : TxnValue) → Contains y.left t
          → Owed (after_shard (Ok (collected n (w.shards node) time)) w ev node) shard y.time t
      owed_go shard false q y m t i = on shard y m t i
      owed_go shard true q y m t i = on shard y (subst (λ z. Contains (w.shards z).waiting y) (sym (eqb-true shard node q)) m) t i

      times : (m : Envelope) → Contains (w.sent ++ []) m → is_shard top m.from ≡ true
          → m.time ≤ (with_actor w.shards node (collected n (w.shards node) time).state m.from).clock
      times m i is = elim (Contains-append_cases w.sent [] m i) [
        | inl old ↦
            let le = owing.timed m old is in
            let lt = (ticked_above (w.shards node).clock (w.shards node).clock n ticks).0 in
            changed_actor (λ (a : ShardState). m.time ≤ a.clock) w.shards node (collected n (w.shards node) time).state m.from
            (λ same. (let here : m.time ≤ (w.shards node).clock = subst (λ z. m.time ≤ (w.shards z).clock) same le in omega (arith, here, lt)))
            (λ away. le)
        | inr new ↦ absurd (none_in_empty m new)
      ]

  -- ## Every event

  pub step_owing : (ev : RunEvent) → Owing top (step top w ev)
  step_owing ev =
      timed_cases top w ev (Owing top)
      (record {
        nothing = owing;
        handled = λ k e n is found to ticks. subst (λ z. Owing top (after_shard (Ok (handled top e.to n (w.shards e.to) e.from e.body)) w z e.to)) (sym is)
            (handled_owing k e n found to ticks);
        heard = λ k e n is found apart to ticks. subst (λ z. Owing top (with_session w z e.to w.submitted (heard top e.to n (w.sessions e.to) e.from e.body))) (sym is)
            (heard_owing k e n found apart);
        begun = λ node o n is to ticks.
            session_owing node (Submit node o) n (w.submitted ++ submission_by w node o (begun top node n (w.sessions node) o) ∷ [])
            (begun top node n (w.sessions node) o) (session_no_shard top node to) (begun_own top node n (w.sessions node) o).1
            (λ j q. absurd (cc)) (λ shard y t m r j q. absurd (cc));
        collected = λ node time n is ticks. collected_owing node time n ev (λ j q. (let it = is in absurd (cc))) ticks;
      })

-- ## Every run

pub opening_owing : (top : TopologyValue) → Owing top (opening top)
opening_owing top = record { owed = λ node y m. absurd (none_in_empty y m); timed = λ e m. absurd (none_in_empty e m) }

continued_owing : (top : TopologyValue) → Stands top → (events : List RunEvent) (w : Run) → Inv top w → Live top w → Stations top w → Owing top w
    → Owing top (continued top w events)
continued_owing top ok [] w inv live stations owing = owing
continued_owing top ok (x ∷ xs) w inv live stations owing =
    continued_owing top ok xs (step top w x) (step_kept top w x ok.some inv) (step_live top ok w inv live stations x) (step_stations top w stations x)
    (step_owing top w ok.some inv live stations owing x)

pub run_owing : (top : TopologyValue) (events : List RunEvent) → is_topology top.dcs top.shards top.homes ≡ true → Owing top (run top events)
run_owing top events e =
    let ok = stands top e in
    continued_owing top ok events (opening top) (opening_holds top) (opening_live top ok) (opening_stations top) (opening_owing top)

-- Each event keeps causal order: a shard's step, a session's step, and a submission.
use Rattle.std.proofs.Common.{◌≡◌, ℕ, ◌<◌, ◌≤◌, Bool, true, false, cond, List, [], ◌∷◌, ◌++◌, Option, Some, None, Ok, ◌⊎◌, inl, inr, refl, sym, ap, ◌∙◌, subst, arith, eqb-true, le_refl, le_trans, le_of_lt}
use Rattle.std.specs.Prelude.{◌==◌, option_map, Contains}
use Rattle.std.proofs.lemmas.Bool.{false≢true}
use Rattle.logical_time.specs.Stamps.{TxnValue, WriterValue}
use Rattle.messages.specs.declared.rows_at.RowAt.{RowAt}
use Rattle.messages.specs.declared.op.Op.{Op}
use Rattle.messages.specs.declared.op.Op.TheVariants as op
use Rattle.messages.specs.declared.outcome.Outcome.{Outcome}
use Rattle.messages.specs.declared.outcome.Outcome.TheVariants as outcome
use Rattle.messages.specs.declared.envelope.Envelope.{Envelope}
use Rattle.messages.specs.Topology.{TopologyValue}
use Rattle.messages.specs.Words.{is_same_txn}
use Rattle.messages.specs.Shard.{ShardStep}
use Rattle.messages.specs.Session.{SessionState, SessionStep, Open, Finished, is_idle}
use Rattle.messages.specs.Rounds.{with_writers}
use Rattle.messages.specs.SessionEvents.{session_taken}
use Rattle.messages.specs.Actors.{home_after}
use Rattle.world.specs.Run.{Run, RunEvent, Submission, Completed, submission_of, completed_of, ended_by, with_ended, after_shard, after_session}
use Rattle.messages.proofs.WritersInOrder.{writers_stay}
use Rattle.world.specs.Committed.{time_of, IsNotBelow}
use Rattle.world.proofs.lists.Members.{none_in_empty, contains_first, contains_rest, last_or_old, Contains-append_left, Contains-append_right, found, same_txn}
use Rattle.world.specs.Promises.{Fits}
use Rattle.world.proofs.steps.EndCases.{end_cases}
use Rattle.world.proofs.growing.Growth.{ShardGrows, Grows}
use Rattle.world.proofs.safety.Facts.{txn_of, lead}
use Rattle.world.proofs.safety.Invariant.{IsOpen, AnsweredFrom, EndSound, Inv}
use Rattle.world.proofs.safety.LastingAll.{from_grows}
use Rattle.world.proofs.keeping.ShardSteps.{actor_same, shard_run_grows}
use Rattle.world.proofs.keeping.SessionSteps.{Stays, EndLeaves, Ends, SessionAble, session_run_grows}
use Rattle.world.proofs.steps.Transcripts.{ended_or_old, old_stays, ended_is_last, nothing_ended, ended_as_told}
use Rattle.world.proofs.histories.Entries.{submission_found}
use Rattle.world.proofs.steps.BegunCases.{its_submission, opened_state, opened_run}
use Rattle.world.proofs.causal.Causal.{txn_ended, Covered, direct, via, LaterCovered, writers_in, EndCausal, EndedOnce, NamedOnce, HomeBetween, HomeSince, Causal}

-- ## What is covered stays so

pub covered_grows : {w x : Run} {t : TxnValue} (deps : List WriterValue) → ((b : Submission) → Contains w.submitted b → Contains x.submitted b) → Covered w t deps → Covered x t deps
covered_grows deps f (direct l k m e) = direct l k m e
covered_grows deps f (via l k b m i e c) = via l k b m (f b i) e (covered_grows b.dependencies f c)

pub covered_more : {w : Run} {t : TxnValue} (deps more : List WriterValue) → ((k : WriterValue) → Contains deps k → Contains more k) → Covered w t deps → Covered w t more
covered_more deps more f (direct l k m e) = direct more k (f k m) e
covered_more deps more f (via l k b m i e c) = via more k b (f k m) i e c

end_grows : (o : Op) (e : Outcome) (top : TopologyValue) {w x : Run} (c : Completed) → Grows top w x → ((t : TxnValue) → LaterCovered w c.node c.number t → LaterCovered x c.node c.number t)
    → Fits o e → EndCausal o e top w c → EndCausal o e top x c
end_grows o e top {w} {x} c g f =
    end_cases (λ o e. EndCausal o e top w c → EndCausal o e top x c)
    (record {
      wrote = λ batch commit stamp k. f (txn_ended c) k;
      answered = λ read time answer k. (k.0, from_grows g k.1, λ u m. f u.txn (k.2 u m));
      given_up = λ read k. k;
      moved = λ dc floor k. k;
    }) o e

-- ## A shard's step

pub shard_causal : (top : TopologyValue) (w : Run) (node : ℕ) (st : ShardStep) (ev : RunEvent) → ShardGrows (w.shards node) st.state → Causal top w → Causal top (after_shard (Ok st) w ev node)
shard_causal top w node st ev g k =
    let x = after_shard (Ok st) w ev node in
    record {
      fits = k.fits;
      ended = λ c m. end_grows c.op c.outcome top c (shard_run_grows top w node st ev g)
          (λ t l. record {
            submitted = λ b i e lt. covered_grows {w = w} {x = x} b.dependencies (λ b i. i) (l.submitted b i e lt);
            next = covered_grows {w = w} {x = x} (w.sessions c.node).dependencies (λ b i. i) l.next;
          }) (k.fits c m) (k.ended c m);
      floor = k.floor;
      ordered = k.ordered;
      number = k.number;
      closed = k.closed;
      early = k.early;
      begun = k.begun;
      once = k.once;
      named = k.named;
      one = k.one;
    }

-- ## What a session newly completed

-- it is the operation that was open, with this outcome
pub record IsNew (w : Run) (node : ℕ) (what : Op) (came : Outcome) (c : Completed) : Type 0 where
  pub node_is : c.node ≡ node
  pub number : c.number ≡ (w.sessions node).count
  pub home : c.home ≡ (w.sessions node).home
  pub op : c.op ≡ what
  pub outcome : c.outcome ≡ came

found_new : (top : TopologyValue) (w : Run) (node : ℕ) (what : Op) (came : Outcome) → Inv top w → IsOpen w node (w.sessions node).count (w.sessions node).home what
    → (c : Completed) → completed_of w.submitted node (record { number = (w.sessions node).count; outcome = came }) ≡ Some c → IsNew w node what came c
found_new top w node what came inv opened c e = go (submission_of w.submitted t) refl e
  where
    t : TxnValue
    t = record { session = node; number = (w.sessions node).count }

    ended_as : Submission → Completed
    ended_as s = record { node = node; number = (w.sessions node).count; home = s.home; op = s.op; outcome = came }

    go : (f : Option Submission) → submission_of w.submitted t ≡ f → option_map ended_as f ≡ Some c → IsNew w node what came c
    go None q r = absurd (cc)
    go (Some s) q r =
        let is : ended_as s ≡ c = cc in
        let i = found (λ s. is_same_txn (record { session = s.session; number = s.number }) t) w.submitted s q in
        let same : s ≡ opened.submission =
        inv.submitted.one s opened.submission i.0 opened.among (same_txn (txn_of s) t i.1 ∙ λ j. record { session = sym opened.session j; number = sym opened.number j }) in
        record {
          node_is = ap (λ z. z.node) (sym is);
          number = ap (λ z. z.number) (sym is);
          home = ap (λ z. z.home) (sym is) ∙ ap (λ z. z.home) same ∙ opened.home;
          op = ap (λ z. z.op) (sym is) ∙ ap (λ z. z.op) same ∙ opened.op;
          outcome = ap (λ z. z.outcome) (sym is);
        }

-- ## The writers that a read adds

old_writers : (rows : List RowAt) (old : List WriterValue) (k : WriterValue) → Contains old k → Contains (with_writers old rows) k
old_writers rows old k m =
    (writers_stay (old ++ writers_in rows) k).1 (Contains-append_left old (writers_in rows) k m)

pub new_writers : (rows : List RowAt) (old : List WriterValue) (k : WriterValue) → Contains (writers_in rows) k → Contains (with_writers old rows) k
new_writers rows old k m =
    (writers_stay (old ++ writers_in rows) k).1 (Contains-append_right old (writers_in rows) k m)

-- ## A session's step

module _ (top : TopologyValue) (w : Run) (node : ℕ) (st : SessionStep) (ev : RunEvent) (inv : Inv top w) (able : SessionAble top w node st) (k : Causal top w) where
  abbrev x : Run
  x = after_session (Ok st) w ev node

  grows : Grows top w x
  grows = session_run_grows top w node st ev able.grows

  -- what its next operation depends on covers what it covered
  step_covers : (c : Completed) → Contains w.transcript c → c.node ≡ node → (t : TxnValue) → LaterCovered w c.node c.number t → Stays (w.sessions node) st.state ⊎ Ends top w node st.state → Covered w t st.state.dependencies
  step_covers c m is t l (inl s) = subst (λ d. Covered w t d) (ap (λ i. (w.sessions i).dependencies) is ∙ sym s.dependencies) l.next
  step_covers c m is t l (inr e) = go e.what e.came e.fits e.leaves
    where
      old : Covered w t (w.sessions node).dependencies
      old = subst (λ i. Covered w t (w.sessions i).dependencies) is l.next

      before : c.number < (w.sessions node).count
      before = subst (λ i. c.number < (w.sessions i).count) is (k.closed c m (ap (λ i. is_idle (w.sessions i).current) is ∙ e.busy))

      go : (o : Op) (out : Outcome) → Fits o out → EndLeaves o out top w node st.state.floor st.state.dependencies → Covered w t st.state.dependencies
      go =
          end_cases (λ o out. EndLeaves o out top w node st.state.floor st.state.dependencies → Covered w t st.state.dependencies)
          (record {
            wrote = λ batch commit stamp v.
                let s = e.opened in
                let own : WriterValue = record { txn = record { session = node; number = (w.sessions node).count }; shard = v.1.0 } in
                let number = s.number in
                let lt = before in
                subst (λ d. Covered w t d) (sym v.1.1)
                (via (own ∷ []) own s.submission (contains_first own []) s.among (λ j. record { session = s.session j; number = s.number j })
                (l.submitted s.submission s.among (s.session ∙ sym is) (omega arith)));
            answered = λ read time answer v.
                subst (λ d. Covered w t d) (sym v.1.2) (covered_more (w.sessions node).dependencies (with_writers (w.sessions node).dependencies v.1.0) (old_writers v.1.0 (w.sessions node).dependencies) old);
            given_up = λ read v. subst (λ d. Covered w t d) (sym v) old;
            moved = λ dc floor v. subst (λ d. Covered w t d) (sym v.1) old;
          })

  same_submitted : (b : Submission) → Contains w.submitted b → Contains x.submitted b
  same_submitted b m = m

  next_go : (c : Completed) → Contains w.transcript c → (t : TxnValue) → LaterCovered w c.node c.number t → (b : Bool) → (c.node == node) ≡ b → Covered w t (cond b (session_taken st.state) (w.sessions c.node)).dependencies
  next_go c m t l true e = step_covers c m (eqb-true c.node node e) t l able.turn
  next_go c m t l false e = l.next

  later_kept : (c : Completed) → Contains w.transcript c → (t : TxnValue) → LaterCovered w c.node c.number t → LaterCovered x c.node c.number t
  later_kept c m t l =
      record {
        submitted = λ b i e lt. covered_grows {w = w} {x = x} b.dependencies same_submitted (l.submitted b i e lt);
        next = covered_grows {w = w} {x = x} (x.sessions c.node).dependencies same_submitted (next_go c m t l (c.node == node) refl);
      }

  -- ## What is new

  abbrev added : Option Completed
  added = ended_by w.submitted node st

  abbrev told : Ends top w node st.state → Finished
  told e = record { number = (w.sessions node).count; outcome = e.came }

  added_new : (c : Completed) → added ≡ Some c → (e : Ends top w node st.state) × IsNew w node e.what e.came c
  added_new c m = go able.turn
    where
      go : Stays (w.sessions node) st.state ⊎ Ends top w node st.state → (e : Ends top w node st.state) × IsNew w node e.what e.came c
      go (inl s) = absurd (nothing_ended w.submitted node st c s.untaken m)
      go (inr e) = (e, found_new top w node e.what e.came inv e.opened c (sym (ended_as_told w.submitted node st (told e) e.untaken) ∙ m))

  no_later : (c : Completed) → (e : Ends top w node st.state) → IsNew w node e.what e.came c → (b : Submission) → Contains w.submitted b → b.session ≡ c.node → c.number < b.number → ⊥
  no_later c e n b i q lt =
      let le = inv.submitted.number b i in
      let number = n.number in
      let same = ap (λ z. (w.sessions z).count) (q ∙ n.node_is) in
      omega arith

  state_at : (c : Completed) → c.node ≡ node → x.sessions c.node ≡ session_taken st.state
  state_at c q = subst (λ i. x.sessions i ≡ session_taken st.state) (sym q) (actor_same w.sessions node (session_taken st.state))

  new_later : (c : Completed) (e : Ends top w node st.state) → IsNew w node e.what e.came c → (t : TxnValue) → Covered w t st.state.dependencies → LaterCovered x c.node c.number t
  new_later c e n t d =
      record {
        submitted = λ b i q lt. absurd (no_later c e n b i q lt);
        next = covered_grows {w = w} {x = x} (x.sessions c.node).dependencies same_submitted (subst (λ z. Covered w t z.dependencies) (sym (state_at c n.node_is)) d);
      }

  ended_new : (c : Completed) (e : Ends top w node st.state) → IsNew w node e.what e.came c → EndCausal c.op c.outcome top x c
  ended_new c e n =
      subst (λ o. EndCausal o c.outcome top x c) (sym n.op) (subst (λ r. EndCausal e.what r top x c) (sym n.outcome) (go e.what e.came e.fits e.leaves))
    where
      go : (o : Op) (r : Outcome) → Fits o r → EndLeaves o r top w node st.state.floor st.state.dependencies → EndCausal o r top x c
      go =
          end_cases (λ o r. EndLeaves o r top w node st.state.floor st.state.dependencies → EndCausal o r top x c)
          (record {
            wrote = λ batch commit stamp v.
                let own : WriterValue = record { txn = record { session = node; number = (w.sessions node).count }; shard = v.1.0 } in
                new_later c e n (txn_ended c) (subst (λ d. Covered w (txn_ended c) d) (sym v.1.1) (direct (own ∷ []) own (contains_first own []) (λ j. record { session = sym n.node_is j; number = sym n.number j })));
            answered = λ read time answer v. (
              v.1.0,
              subst (λ d. AnsweredFrom top x d read time v.1.0) (sym n.home) (from_grows grows v.1.1),
              λ u m. new_later c e n u.txn (subst (λ d. Covered w u.txn d) (sym v.1.2) (direct (with_writers (w.sessions node).dependencies v.1.0) u (new_writers v.1.0 (w.sessions node).dependencies u m) refl)),
            );
            given_up = λ read v. tt;
            moved = λ dc floor v. tt;
          })

  fits_go : (c : Completed) → Contains w.transcript c ⊎ (added ≡ Some c) → Fits c.op c.outcome
  fits_go c (inl m) = k.fits c m
  fits_go c (inr m) = let e = added_new c m in subst (λ o. Fits o c.outcome) (sym e.1.op) (subst (λ r. Fits e.0.what r) (sym e.1.outcome) e.0.fits)

  ended_go : (c : Completed) → Contains w.transcript c ⊎ (added ≡ Some c) → EndCausal c.op c.outcome top x c
  ended_go c (inl m) = end_grows c.op c.outcome top c grows (later_kept c m) (k.fits c m) (k.ended c m)
  ended_go c (inr m) = let e = added_new c m in ended_new c e.0 e.1

  -- ## Times

  time_new : (o : Op) (r : Outcome) → Fits o r → EndLeaves o r top w node st.state.floor st.state.dependencies → time_of r ≤ st.state.floor
  time_new =
      end_cases (λ o r. EndLeaves o r top w node st.state.floor st.state.dependencies → time_of r ≤ st.state.floor)
      (record { wrote = λ batch commit stamp v. v.0; answered = λ read time answer v. let q = v.0 in omega arith; given_up = λ read v. omega arith; moved = λ dc floor v. omega arith })

  still_there : (d : Completed) → Contains w.transcript d → Contains x.transcript d
  still_there d m = old_stays d w.transcript added m

  new_there : (d : Completed) → added ≡ Some d → Contains x.transcript d
  new_there d n = ended_is_last d w.transcript added n

  -- what it ends is an entry
  abbrev entry : Ends top w node st.state → Submission → Completed
  entry e s = record { node = node; number = (w.sessions node).count; home = s.home; op = s.op; outcome = e.came }

  adds_one : Ends top w node st.state → (d : Completed) × (added ≡ Some d)
  adds_one e =
      let is = submission_found top w e.opened.submission (record { session = node; number = (w.sessions node).count }) inv.submitted e.opened.among
      (λ j. record { session = e.opened.session j; number = e.opened.number j }) in
      (entry e e.opened.submission, ended_as_told w.submitted node st (told e) e.untaken ∙ ap (option_map (entry e)) is)

  -- an operation that ended before has a smaller number than the one that ends
  old_number : (c : Completed) → Contains w.transcript c → Ends top w node st.state → c.node ≡ node → c.number < (w.sessions node).count
  old_number c m e q = subst (λ i. c.number < (w.sessions i).count) q (k.closed c m (ap (λ i. is_idle (w.sessions i).current) q ∙ e.busy))

  -- where the session is still in the home of an entry, it left it at no end
  ends_at_home : (c : Completed) → Contains w.transcript c → c.node ≡ node → HomeSince x c → (e : Ends top w node st.state) → st.state.home ≡ (w.sessions node).home
  ends_at_home c m q h e =
      let new = adds_one e in
      let is = added_new new.0 new.1 in
      let number = is.1.number in
      let less = old_number c m e q in
      let here : new.0.home ≡ c.home = h.1 new.0 (new_there new.0 new.1) (is.1.node_is ∙ sym q) (omega arith) in
      ap (λ z. z.home) (sym (state_at c q)) ∙ h.0 ∙ sym here ∙ is.1.home

  -- so its home is as it was, and its floor isn't less
  home_turn : (c : Completed) → Contains w.transcript c → c.node ≡ node → HomeSince x c → Stays (w.sessions node) st.state ⊎ Ends top w node st.state
      → (st.state.home ≡ (w.sessions node).home) × ((w.sessions node).floor ≤ st.state.floor)
  home_turn c m q h (inl s) = (s.home, let same = s.floor in omega arith)
  home_turn c m q h (inr e) = let same = ends_at_home c m q h e in (same, e.floor same)

  home_go : (c : Completed) → Contains w.transcript c → HomeSince x c → (b : Bool) → (c.node == node) ≡ b
      → ((cond b (session_taken st.state) (w.sessions c.node)).home ≡ (w.sessions c.node).home)
      × ((w.sessions c.node).floor ≤ (cond b (session_taken st.state) (w.sessions c.node)).floor)
  home_go c m h true e =
      let q = eqb-true c.node node e in
      let k = home_turn c m q h able.turn in
      (k.0 ∙ ap (λ j. (w.sessions j).home) (sym q), subst (λ j. (w.sessions j).floor ≤ st.state.floor) (sym q) k.1)
  home_go c m h false e = (refl, le_refl (w.sessions c.node).floor)

  home_before : (c : Completed) → Contains w.transcript c → HomeSince x c → HomeSince w c
  home_before c m h = (sym (home_go c m h (c.node == node) refl).0 ∙ h.0, λ d i. h.1 d (still_there d i))

  floor_go : (c : Completed) → Contains w.transcript c ⊎ (added ≡ Some c) → HomeSince x c → time_of c.outcome ≤ (x.sessions c.node).floor
  floor_go c (inl m) h = le_trans (k.floor c m (home_before c m h)) (home_go c m h (c.node == node) refl).1
  floor_go c (inr m) h =
      let e = added_new c m in
      let le = time_new e.0.what e.0.came e.0.fits e.0.leaves in
      subst (λ z. time_of c.outcome ≤ z.floor) (sym (state_at c e.1.node_is)) (subst (λ r. time_of r ≤ st.state.floor) (sym e.1.outcome) le)

  early_go : (c : Completed) → Contains w.transcript c ⊎ (added ≡ Some c) → time_of c.outcome ≤ (x.sessions c.node).clock
  early_go c (inl m) = le_trans (k.early c m) (grows.sessions c.node).clock
  early_go c (inr m) =
      let e = added_new c m in
      let le = time_new e.0.what e.0.came e.0.fits e.0.leaves in
      subst (λ z. time_of c.outcome ≤ z.clock) (sym (state_at c e.1.node_is))
      (subst (λ r. time_of r ≤ st.state.clock) (sym e.1.outcome) (le_trans le able.session.floor))

  number_go : (c : Completed) → Contains w.transcript c ⊎ (added ≡ Some c) → c.number ≤ (x.sessions c.node).count
  number_go c (inl m) = le_trans (k.number c m) (grows.sessions c.node).count
  number_go c (inr m) =
      let e = added_new c m in
      let q = e.0.count in
      let r = e.1.number in
      subst (λ z. c.number ≤ z.count) (sym (state_at c e.1.node_is)) (omega arith)

  above_go : (c : Completed) → Contains w.transcript c → (e : Ends top w node st.state) → (d : Completed) → added ≡ Some d → IsNew w node e.what e.came d → c.node ≡ node → HomeSince w c
      → (o : Op) (r : Outcome) → Fits o r → e.what ≡ o → d.outcome ≡ r → EndLeaves o r top w node st.state.floor st.state.dependencies → IsNotBelow r (time_of c.outcome)
  above_go c m e d n is q home =
      end_cases (λ o r. e.what ≡ o → d.outcome ≡ r → EndLeaves o r top w node st.state.floor st.state.dependencies → IsNotBelow r (time_of c.outcome))
      (record {
        wrote = λ batch commit stamp t p v.
            let done : EndSound (op.Batch batch) (outcome.Wrote commit stamp) top w d.home (txn_ended d) =
            subst (λ z. EndSound z (outcome.Wrote commit stamp) top w d.home (txn_ended d)) (is.op ∙ t)
            (subst (λ z. EndSound d.op z top w d.home (txn_ended d)) p (able.completed d n).came) in
            let s = (inv.shards (lead top d.home batch)).decided done.decision done.among in
            let o = e.opened in
            let same : s.submission ≡ o.submission =
            inv.submitted.one s.submission o.submission s.written.among o.among (s.written.txn ∙ done.txn ∙ λ j. record { session = (is.node_is ∙ sym o.session) j; number = (is.number ∙ sym o.number) j }) in
            let lt = old_number c m e q in
            let number = o.number in
            let early = k.begun o.submission c o.among m (q ∙ sym o.session) (omega arith) in
            let late = s.begun in
            let time = ap (λ z. z.time) same in
            let commits = done.commit in
            omega arith;
        answered = λ read time answer t p v.
            let le = k.floor c m home in
            let f = ap (λ i. (w.sessions i).floor) q in
            let up = e.floor (e.home ∙ ap (home_after (w.sessions node).home) (sym is.outcome ∙ p)) in
            let same = v.0 in
            omega arith;
        given_up = λ read t p v. tt;
        moved = λ dc floor t p v. tt;
      })

  ordered_go : (c d : Completed) → Contains w.transcript c ⊎ (added ≡ Some c) → Contains w.transcript d ⊎ (added ≡ Some d) → c.node ≡ d.node → c.number < d.number → HomeBetween x c d
      → IsNotBelow d.outcome (time_of c.outcome)
  ordered_go c d (inl m) (inl n) q lt h = k.ordered c d m n q lt (λ e i. h e (still_there e i))
  ordered_go c d (inl m) (inr n) q lt h =
      let e = added_new d n in
      let here : c.node ≡ node = q ∙ e.1.node_is in
      let number = e.1.number in
      let home : HomeSince w c = (
        ap (λ i. (w.sessions i).home) here ∙ sym e.1.home ∙ h d (new_there d n) (sym q) (le_of_lt lt) (le_refl d.number),
        λ f i p le. let less = old_number f i e.0 (p ∙ here) in h f (still_there f i) p le (omega arith),
      ) in
      subst (λ r. IsNotBelow r (time_of c.outcome)) (sym e.1.outcome) (above_go c m e.0 d n e.1 here home e.0.what e.0.came e.0.fits refl e.1.outcome e.0.leaves)
  ordered_go c d (inr m) (inl n) q lt h =
      let e = added_new c m in
      let number = e.1.number in
      let le = k.number d n in
      let same = ap (λ i. (w.sessions i).count) (sym q ∙ e.1.node_is) in
      absurd (omega arith)
  ordered_go c d (inr m) (inr n) q lt h =
      let e = added_new c m in
      let f = added_new d n in
      let a = e.1.number in
      let b = f.1.number in
      absurd (omega arith)

  closed_turn : (c : Completed) → Contains w.transcript c → c.node ≡ node → is_idle st.state.current ≡ false → Stays (w.sessions node) st.state ⊎ Ends top w node st.state → c.number < st.state.count
  closed_turn c m q busy (inl s) =
      let lt = subst (λ i. c.number < (w.sessions i).count) q (k.closed c m (ap (λ i. is_idle (w.sessions i).current) q ∙ sym s.idle ∙ busy)) in
      let same = s.count in
      omega arith
  closed_turn c m q busy (inr e) = absurd (false≢true (sym busy ∙ e.idle))

  closed_old : (c : Completed) → Contains w.transcript c → (b : Bool) → (c.node == node) ≡ b → is_idle (cond b (session_taken st.state) (w.sessions c.node)).current ≡ false → c.number < (cond b (session_taken st.state) (w.sessions c.node)).count
  closed_old c m true e busy = closed_turn c m (eqb-true c.node node e) busy able.turn
  closed_old c m false e busy = k.closed c m busy

  closed_go : (c : Completed) → Contains w.transcript c ⊎ (added ≡ Some c) → is_idle (x.sessions c.node).current ≡ false → c.number < (x.sessions c.node).count
  closed_go c (inl m) busy = closed_old c m (c.node == node) refl busy
  closed_go c (inr m) busy =
      let e = added_new c m in
      absurd (false≢true (sym busy ∙ ap (λ z. is_idle z.current) (state_at c e.1.node_is) ∙ e.0.idle))

  begun_go : (b : Submission) (c : Completed) → Contains w.submitted b → Contains w.transcript c ⊎ (added ≡ Some c) → c.node ≡ b.session → c.number < b.number → time_of c.outcome ≤ b.time
  begun_go b c i (inl m) q lt = k.begun b c i m q lt
  begun_go b c i (inr m) q lt = let e = added_new c m in absurd (no_later c e.0 e.1 b i (sym q) lt)

  one_go : (c d : Completed) → Contains w.transcript c ⊎ (added ≡ Some c) → Contains w.transcript d ⊎ (added ≡ Some d) → txn_ended c ≡ txn_ended d → c ≡ d
  one_go c d (inl m) (inl n) q = k.one c d m n q
  one_go c d (inl m) (inr n) q =
      let e = added_new d n in
      let lt = old_number c m e.0 (ap (λ z. z.session) q ∙ e.1.node_is) in
      let number = ap (λ z. z.number) q ∙ e.1.number in
      absurd (omega arith)
  one_go c d (inr m) (inl n) q =
      let e = added_new c m in
      let lt = old_number d n e.0 (ap (λ z. z.session) (sym q) ∙ e.1.node_is) in
      let number = ap (λ z. z.number) (sym q) ∙ e.1.number in
      absurd (omega arith)
  one_go c d (inr m) (inr n) q = let same : Some c ≡ Some d = sym m ∙ n in cc

  -- nothing that ended before is of the operation that ends
  once_after : (cs : List Completed) → ((c : Completed) → Contains cs c → Contains w.transcript c) → EndedOnce cs → (d : Completed) → added ≡ Some d → EndedOnce (cs ++ d ∷ [])
  once_after [] f o d n = ((λ e m q. none_in_empty e m), tt)
  once_after (c ∷ cs) f o d n = (
    λ e m q. elim (last_or_old e d cs m) [
      | inl old ↦ o.0 e old q
      | inr new ↦
          let a = added_new e (n ∙ ap Some (sym new)) in
          let lt = old_number c (f c (contains_first c cs)) a.0 (ap (λ z. z.session) (sym q) ∙ a.1.node_is) in
          let same = ap (λ z. z.number) (sym q) ∙ a.1.number in
          omega arith
    ],
    once_after cs (λ e m. f e (contains_rest c e cs m)) o.1 d n,
  )

  once_go : (o : Option Completed) → added ≡ o → EndedOnce (with_ended w.transcript o)
  once_go None q = k.once
  once_go (Some d) q = once_after w.transcript (λ c m. m) k.once d q

  pub session_causal : Causal top x
  session_causal =
      record {
        fits = λ c m. fits_go c (ended_or_old c w.transcript added m);
        ended = λ c m. ended_go c (ended_or_old c w.transcript added m);
        floor = λ c m h. floor_go c (ended_or_old c w.transcript added m) h;
        ordered = λ c d m n q lt h. ordered_go c d (ended_or_old c w.transcript added m) (ended_or_old d w.transcript added n) q lt h;
        number = λ c m. number_go c (ended_or_old c w.transcript added m);
        closed = λ c m busy. closed_go c (ended_or_old c w.transcript added m) busy;
        early = λ c m. early_go c (ended_or_old c w.transcript added m);
        begun = λ b c i m q lt. begun_go b c i (ended_or_old c w.transcript added m) q lt;
        once = once_go added refl;
        named = k.named;
        one = λ c d m n q. one_go c d (ended_or_old c w.transcript added m) (ended_or_old d w.transcript added n) q;
      }

-- ## A submission

-- What a submission opens, in a run with these events
module _ (top : TopologyValue) (w : Run) (es : List RunEvent) (node n : ℕ) (o : Op) (inv : Inv top w) (lt : (w.sessions node).clock < n) (current : Open) (sends : List Envelope) (k : Causal top w) where
  abbrev state_then : SessionState
  state_then = opened_state w node n current

  abbrev then : Run
  then = opened_run es w node n o current sends

  abbrev its : Submission
  its = its_submission w node n o

  more_submitted : (b : Submission) → Contains w.submitted b → Contains then.submitted b
  more_submitted b m = Contains-append_left w.submitted (its ∷ []) b m

  -- what a session has but for its clock, count and what is open
  state_go : {X : Type 0} (f : SessionState → X) → f state_then ≡ f (w.sessions node) → (i : ℕ) (b : Bool) → (i == node) ≡ b → f (cond b state_then (w.sessions i)) ≡ f (w.sessions i)
  state_go f q i true e = q ∙ ap (λ j. f (w.sessions j)) (sym (eqb-true i node e))
  state_go f q i false e = refl

  count_go : (i : ℕ) (b : Bool) → (i == node) ≡ b → (w.sessions i).count ≤ (cond b state_then (w.sessions i)).count
  count_go i true e = let q = ap (λ j. (w.sessions j).count) (eqb-true i node e) in omega arith
  count_go i false e = le_refl (w.sessions i).count

  submitted_go : (c : Completed) → Contains w.transcript c → (t : TxnValue) → LaterCovered w c.node c.number t → (b : Submission) → Contains w.submitted b ⊎ (b ≡ its) → b.session ≡ c.node → c.number < b.number → Covered w t b.dependencies
  submitted_go c m t l b (inl i) e less = l.submitted b i e less
  submitted_go c m t l b (inr q) e less =
      subst (λ d. Covered w t d) (ap (λ j. (w.sessions j).dependencies) (sym e ∙ ap (λ z. z.session) q) ∙ sym (ap (λ z. z.dependencies) q)) l.next

  still_covered : (c : Completed) → Contains w.transcript c → (t : TxnValue) → LaterCovered w c.node c.number t → LaterCovered then c.node c.number t
  still_covered c m t l =
      record {
        submitted = λ b i e less. covered_grows {w = w} {x = then} b.dependencies more_submitted (submitted_go c m t l b (last_or_old b its w.submitted i) e less);
        next = subst (λ d. Covered then t d) (sym (state_go (λ s. s.dependencies) refl c.node (c.node == node) refl)) (covered_grows {w = w} {x = then} (w.sessions c.node).dependencies more_submitted l.next);
      }

  closed_then : (c : Completed) → Contains w.transcript c → (b : Bool) → (c.node == node) ≡ b → is_idle (cond b state_then (w.sessions c.node)).current ≡ false → c.number < (cond b state_then (w.sessions c.node)).count
  closed_then c m true e busy =
      let le = k.number c m in
      let q = ap (λ j. (w.sessions j).count) (eqb-true c.node node e) in
      omega arith
  closed_then c m false e busy = k.closed c m busy

  begun_then : (b : Submission) (c : Completed) → Contains w.submitted b ⊎ (b ≡ its) → Contains w.transcript c → c.node ≡ b.session → c.number < b.number → time_of c.outcome ≤ b.time
  begun_then b c (inl i) m q less = k.begun b c i m q less
  begun_then b c (inr p) m q less =
      let le = k.early c m in
      let at = ap (λ j. (w.sessions j).clock) (q ∙ ap (λ z. z.session) p) in
      let time = ap (λ z. z.time) p in
      omega arith

  named_after : (bs : List Submission) → ((b : Submission) → Contains bs b → Contains w.submitted b) → NamedOnce bs → NamedOnce (bs ++ its ∷ [])
  named_after [] f o = ((λ c m q. none_in_empty c m), tt)
  named_after (b ∷ bs) f o = (
    λ c m q. elim (last_or_old c its bs m) [
      | inl old ↦ o.0 c old q
      | inr new ↦ let le = inv.submitted.number b (f b (contains_first b bs)) in
          let number = ap (λ z. z.number) (sym q ∙ ap txn_of new) in
          let count = ap (λ z. (w.sessions z.session).count) (sym q ∙ ap txn_of new) in
          omega arith
    ],
    named_after bs (λ c m. f c (contains_rest b c bs m)) o.1,
  )

  pub submission_causal : Grows top w then → Causal top then
  submission_causal g =
      record {
        fits = k.fits;
        ended = λ c m. end_grows c.op c.outcome top c g (still_covered c m) (k.fits c m) (k.ended c m);
        floor = λ c m h.
            subst (λ f. time_of c.outcome ≤ f) (sym (state_go (λ s. s.floor) refl c.node (c.node == node) refl))
            (k.floor c m (sym (state_go (λ s. s.home) refl c.node (c.node == node) refl) ∙ h.0, h.1));
        ordered = k.ordered;
        number = λ c m. le_trans (k.number c m) (count_go c.node (c.node == node) refl);
        closed = λ c m busy. closed_then c m (c.node == node) refl busy;
        early = λ c m. le_trans (k.early c m) (g.sessions c.node).clock;
        begun = λ b c i m q less. begun_then b c (last_or_old b its w.submitted i) m q less;
        once = k.once;
        named = named_after w.submitted (λ b m. m) k.named;
        one = k.one;
      }

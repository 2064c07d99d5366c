-- The operations of a run are those of its journals, each numbered by its place there.
use Rattle.std.proofs.Common.{append-nil, ◌≡◌, ◌∙◌, ℕ, zero, suc, ◌+◌, sym, ap, refl, subst, arith, Bool, true, false, List, [], ◌∷◌, ◌++◌, length, Option, Some, None, slice_get, inl, inr, eqb-true, eq-eqb}
use Rattle.std.specs.Prelude.{◌==◌, if◌then◌else◌, option_map, Contains}
use Rattle.std.proofs.lemmas.Bool.{false≢true}
use Rattle.std.proofs.lemmas.List.{length-append}
use Rattle.std.proofs.lemmas.List.Elements.{filter_map-append}
use Rattle.logical_time.specs.Stamps.{TxnValue}
use Rattle.messages.specs.declared.op.Op.{Op}
use Rattle.messages.specs.Topology.{TopologyValue, is_shard, is_session}
use Rattle.messages.specs.declared.event.ActorEvent.{ActorEvent}
use Rattle.messages.specs.declared.event.ActorEvent.TheVariants.{Submit as SubmitHere, Handle, Collect as CollectHere}
use Rattle.messages.specs.Actors.{OfShard, OfSession, ActorStep}
use Rattle.world.specs.Run.{Run, Deliver, RunEvent, Submission, opening, step, continued, run, submission_of}
use Rattle.world.specs.Journals.{actor_in, journal_in}
use Rattle.world.specs.Threads.{op_in, op_numbered}
use Rattle.world.proofs.lists.Members.{none_in_empty, last_or_old, same_txn}
use Rattle.world.proofs.steps.Moves.{Moves, SubmittedBy, op_count, IsMove, each_is_move}
use Rattle.world.proofs.replays.JournalSteps.{apart_too, AreKnown, known_later, journal_here, journal_there}
use Rattle.world.proofs.steps.Counted.{ops_of, step_count}
use Rattle.world.proofs.replays.Places.{tests, find_onto, find_past, one_none, numbered_onto, numbered_end, numbered_more}

-- ## Runs

-- The operations of the run are those of the journals, each with its number.
pub record AreNumbered (top : TopologyValue) (w : Run) : Type 0 where
  pub known : AreKnown w
  pub counts : (m : ℕ) → op_count (actor_in top w m) ≡ length (ops_of (journal_in w m))
  pub ops : (t : TxnValue) → option_map (λ (b : Submission). b.op) (submission_of w.submitted t) ≡ op_numbered (journal_in w t.session) t.number
  pub quiet : (m : ℕ) → is_session top m ≡ false → ops_of (journal_in w m) ≡ []
  pub named : (b : Submission) → Contains w.submitted b → (is_session top b.session ≡ true) × (op_numbered (journal_in w b.session) b.number ≡ Some b.op)

module _ (top : TopologyValue) (w v : Run) (ev : RunEvent) (n : ℕ) (x : ActorEvent) (s : ActorStep) (f : Moves top w v ev n x s) (k : AreNumbered top w) where
  ops_here : ops_of (journal_in v n) ≡ ops_of (journal_in w n) ++ ops_of (x ∷ [])
  ops_here = ap ops_of (journal_here f k.known) ∙ filter_map-append op_in (journal_in w n) (x ∷ [])

  count_here : op_count (actor_in top v n) ≡ length (ops_of (journal_in v n))
  count_here =
      let a = step_count top n (actor_in top w n) x s f.takes in
      let b = k.counts n in
      let c : length (ops_of (journal_in v n)) ≡ length (ops_of (journal_in w n)) + length (ops_of (x ∷ [])) =
      ap (λ (l : List Op). length l) ops_here ∙ length-append (ops_of (journal_in w n)) (ops_of (x ∷ [])) in
      let d : op_count (actor_in top v n) ≡ op_count s.state = ap op_count f.here in
      omega arith

  -- no operation is added
  same_ops : v.submitted ≡ w.submitted → ops_of (x ∷ []) ≡ [] → (t : TxnValue) → (b : Bool) → (n == t.session) ≡ b
      → option_map (λ (b : Submission). b.op) (submission_of v.submitted t) ≡ op_numbered (journal_in v t.session) t.number
  same_ops subs none t b q = ap (λ l. option_map (λ (b : Submission). b.op) (submission_of l t)) subs ∙ k.ops t ∙ same t.number
    where
      list : (b : Bool) → (n == t.session) ≡ b → ops_of (journal_in v t.session) ≡ ops_of (journal_in w t.session)
      list true e =
          subst (λ m. ops_of (journal_in v m) ≡ ops_of (journal_in w m)) (eqb-true n t.session e)
          (ops_here ∙ ap (λ l. ops_of (journal_in w n) ++ l) none ∙ append-nil (ops_of (journal_in w n)))
      list false e = ap ops_of (journal_there f k.known t.session e)

      same : (i : ℕ) → op_numbered (journal_in w t.session) i ≡ op_numbered (journal_in v t.session) i
      same zero = refl
      same (suc i) = ap (λ l. slice_get l i) (sym (list b q))

  added_ops : (o : Op) → x ≡ SubmitHere o → SubmittedBy top w v n s (SubmitHere o) → (t : TxnValue) → (b : Bool) → (n == t.session) ≡ b
      → option_map (λ (b : Submission). b.op) (submission_of v.submitted t) ≡ op_numbered (journal_in v t.session) t.number
  added_ops o is added t true q =
      let b = added.0 in
      let same = eqb-true n t.session q in
      let count : op_count s.state ≡ op_count (actor_in top w n) + 1 = step_count top n (actor_in top w n) x s f.takes ∙ ap (λ z. op_count (actor_in top w n) + length (ops_of (z ∷ []))) is in
      let before = k.counts n in
      let number : b.number ≡ length (ops_of (journal_in w n)) + 1 = added.4 ∙ count ∙ ap (λ z. z + 1) before in
      ap (λ l. option_map (λ (b : Submission). b.op) (submission_of l t)) added.2
      ∙ numbered_more (ops_of (journal_in w n)) o t w.submitted b (journal_in w n) (added.3 ∙ same) number added.5 refl
      (k.ops t ∙ ap (λ m. op_numbered (journal_in w m) t.number) (sym same))
      ∙ ap (λ l. op_numbered l t.number) (ap (λ z. journal_in w n ++ z ∷ []) (sym is) ∙ sym (journal_here f k.known))
      ∙ ap (λ m. op_numbered (journal_in v m) t.number) same
  added_ops o is added t false q =
      ap (λ l. option_map (λ (b : Submission). b.op) (submission_of l t)) added.2 ∙ skips (submission_of w.submitted t) refl
      ∙ k.ops t ∙ ap (λ l. op_numbered l t.number) (sym (journal_there f k.known t.session q))
    where
      away : (h : Bool) → tests t added.0 ≡ h → tests t added.0 ≡ false
      away false e = e
      away true e =
          let same = ap (λ (u : TxnValue). u.session) (same_txn (record { session = (added.0).session; number = (added.0).number }) t e) in
          absurd (false≢true (sym q ∙ eq-eqb n t.session (sym added.3 ∙ same)))

      skips : (g : Option Submission) → submission_of w.submitted t ≡ g → option_map (λ (b : Submission). b.op) (submission_of (w.submitted ++ added.0 ∷ []) t) ≡ option_map (λ (b : Submission). b.op) (submission_of w.submitted t)
      skips (Some c) e = ap (option_map (λ (b : Submission). b.op)) (find_onto (tests t) w.submitted (added.0 ∷ []) c e ∙ sym e)
      skips None e =
          ap (option_map (λ (b : Submission). b.op)) (find_past (tests t) w.submitted (added.0 ∷ []) e ∙ one_none (tests t) added.0 (away (tests t added.0) refl) ∙ sym e)

  ops_later : (y : ActorEvent) → x ≡ y → SubmittedBy top w v n s y → (t : TxnValue)
      → option_map (λ (b : Submission). b.op) (submission_of v.submitted t) ≡ op_numbered (journal_in v t.session) t.number
  ops_later (SubmitHere o) is added t = added_ops o is added t (n == t.session) refl
  ops_later (Handle e) is same t = same_ops same (ap (λ z. ops_of (z ∷ [])) is) t (n == t.session) refl
  ops_later (CollectHere time) is same t = same_ops same (ap (λ z. ops_of (z ∷ [])) is) t (n == t.session) refl

  quiet_here : (y : ActorEvent) → x ≡ y → SubmittedBy top w v n s y → is_session top n ≡ false → ops_of (x ∷ []) ≡ []
  quiet_here (SubmitHere o) is added away = absurd (false≢true (sym away ∙ added.1))
  quiet_here (Handle e) is same away = ap (λ z. ops_of (z ∷ [])) is
  quiet_here (CollectHere time) is same away = ap (λ z. ops_of (z ∷ [])) is

  old_named : (b : Submission) → Contains w.submitted b → (is_session top b.session ≡ true) × (op_numbered (journal_in v b.session) b.number ≡ Some b.op)
  old_named b m = let h = k.named b m in (h.0, go (n == b.session) refl h.1)
    where
      go : (t : Bool) → (n == b.session) ≡ t → op_numbered (journal_in w b.session) b.number ≡ Some b.op → op_numbered (journal_in v b.session) b.number ≡ Some b.op
      go true q h =
          let same = eqb-true n b.session q in
          subst (λ z. op_numbered (journal_in w z) b.number ≡ Some b.op → op_numbered (journal_in v z) b.number ≡ Some b.op) same
          (λ g. ap (λ l. op_numbered l b.number) (journal_here f k.known) ∙ numbered_onto (journal_in w n) (x ∷ []) b.number b.op g) h
      go false q h = ap (λ l. op_numbered l b.number) (journal_there f k.known b.session q) ∙ h

  named_later : (y : ActorEvent) → x ≡ y → SubmittedBy top w v n s y → (b : Submission) → Contains v.submitted b
      → (is_session top b.session ≡ true) × (op_numbered (journal_in v b.session) b.number ≡ Some b.op)
  named_later (Handle e) is same b m = old_named b (subst (λ l. Contains l b) same m)
  named_later (CollectHere time) is same b m = old_named b (subst (λ l. Contains l b) same m)
  named_later (SubmitHere o) is added b m = elim (last_or_old b added.0 w.submitted (subst (λ l. Contains l b) added.2 m)) [
    | inl old ↦ old_named b old
    | inr new ↦ subst (λ (z : Submission). (is_session top z.session ≡ true) × (op_numbered (journal_in v z.session) z.number ≡ Some z.op)) (sym new) this
  ]
    where
      this : (is_session top (added.0).session ≡ true) × (op_numbered (journal_in v (added.0).session) (added.0).number ≡ Some (added.0).op)
      this =
          let count : op_count s.state ≡ op_count (actor_in top w n) + 1 = step_count top n (actor_in top w n) x s f.takes ∙ ap (λ z. op_count (actor_in top w n) + length (ops_of (z ∷ []))) is in
          let before = k.counts n in
          let number : (added.0).number ≡ suc (length (ops_of (journal_in w n))) = added.4 ∙ omega arith in (
            ap (is_session top) added.3 ∙ added.1,
            ap (λ z. op_numbered (journal_in v z) (added.0).number) added.3
                ∙ ap (λ l. op_numbered l (added.0).number) (journal_here f k.known ∙ ap (λ z. journal_in w n ++ z ∷ []) is)
                ∙ numbered_end (journal_in w n) o (added.0).number number
                ∙ ap Some (sym added.5),
          )

  pub numbered_on : AreNumbered top v
  numbered_on =
      record {
        known = known_later f k.known;
        counts = λ m. by m (n == m) refl;
        ops = ops_later x refl f.submitted;
        quiet = λ m away. still m away (n == m) refl;
        named = named_later x refl f.submitted;
      }
    where
      by : (m : ℕ) → (b : Bool) → (n == m) ≡ b → op_count (actor_in top v m) ≡ length (ops_of (journal_in v m))
      by m true q = subst (λ z. op_count (actor_in top v z) ≡ length (ops_of (journal_in v z))) (eqb-true n m q) count_here
      by m false q =
          ap op_count (f.others m (apart_too n m q)) ∙ k.counts m ∙ ap (λ l. length (ops_of l)) (sym (journal_there f k.known m q))

      still : (m : ℕ) → is_session top m ≡ false → (b : Bool) → (n == m) ≡ b → ops_of (journal_in v m) ≡ []
      still m away true q =
          let same = eqb-true n m q in
          let away' : is_session top n ≡ false = ap (is_session top) same ∙ away in
          subst (λ z. ops_of (journal_in v z) ≡ []) same
          (ops_here ∙ ap (λ l. l ++ ops_of (x ∷ [])) (k.quiet n away') ∙ quiet_here x refl f.submitted away')
      still m away false q = ap ops_of (journal_there f k.known m q) ∙ k.quiet m away

numbered_step : (top : TopologyValue) (w : Run) (ev : RunEvent) → AreNumbered top w → AreNumbered top (step top w ev)
numbered_step top w ev k = go (each_is_move top w ev)
  where
    go : IsMove top w ev (step top w ev) → AreNumbered top (step top w ev)
    go (inl same) = subst (λ v. AreNumbered top v) (sym same) k
    go (inr (n, x, s, f)) = numbered_on top w (step top w ev) ev n x s f k

numbered_continued : (top : TopologyValue) (w : Run) (events : List RunEvent) → AreNumbered top w → AreNumbered top (continued top w events)
numbered_continued top w [] k = k
numbered_continued top w (ev ∷ events) k = numbered_continued top (step top w ev) events (numbered_step top w ev k)

pub run_numbered : (top : TopologyValue) (events : List RunEvent) → AreNumbered top (run top events)
run_numbered top events =
    numbered_continued top (opening top) events
    (record { known = λ k m. absurd (none_in_empty (Deliver k) m); counts = λ m. none m (is_shard top m); ops = λ t. nothing t t.number; quiet = λ m away. refl; named = λ b m. absurd (none_in_empty b m) })
  where
    none : (m : ℕ) (b : Bool) → op_count (if b then OfShard ((opening top).shards m) else OfSession ((opening top).sessions m)) ≡ 0
    none m true = refl
    none m false = refl

    nothing : (t : TxnValue) (k : ℕ) → None ≡ op_numbered [] k
    nothing t zero = refl
    nothing t (suc k) = refl

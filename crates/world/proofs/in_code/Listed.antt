-- What a step finishes has its entry in the transcript after it.
use Rattle.std.proofs.Common.{◌≡◌, ◌∙◌, ℕ, ◌<◌, refl, sym, ap, subst, le_of_lt, Bool, true, false, List, [], ◌∷◌, ◌++◌, map, Option, Some, None, Result, Ok, Err, ◌⊎◌, inl, inr}
use Rattle.std.specs.Prelude.{if◌then◌else◌, option_map, option_and_then, Contains}
use Rattle.std.specs.List.{cons_option}
use Rattle.logical_time.specs.declared.fault.Fault.{Fault}
use Rattle.logical_time.specs.Stamps.{TxnValue}
use Rattle.messages.specs.declared.op.Op.{Op}
use Rattle.messages.specs.declared.envelope.Envelope.{Envelope}
use Rattle.messages.specs.declared.event.ActorEvent.{ActorEvent}
use Rattle.messages.specs.declared.event.ActorEvent.TheVariants.{Submit as SubmitHere, Handle, Collect as CollectHere}
use Rattle.messages.specs.Topology.{TopologyValue, is_shard}
use Rattle.messages.specs.Words.{is_same_txn}
use Rattle.messages.specs.Clock.{ticked, on_clock}
use Rattle.messages.specs.Shard.{ShardStep}
use Rattle.messages.specs.Session.{SessionStep, Finished}
use Rattle.messages.specs.ShardEvents.{shard_handle, shard_collect}
use Rattle.messages.specs.SessionEvents.{heard}
use Rattle.messages.specs.Submitting.{begun, submit_fault, submit_if as submitted_if}
use Rattle.messages.specs.Actors.{ActorState, OfShard, OfSession, ActorStep, of_shard, of_session, actor_step}
use Rattle.world.specs.Run.{Run, RunEvent, Submission, Completed, submission_of, completed_of, with_ended}
use Rattle.world.specs.Journals.{actor_in, finished_as}
use Rattle.world.proofs.lists.Members.{none_in_empty, contains_one, same_txn_self}
use Rattle.world.proofs.safety.Facts.{txn_of}
use Rattle.world.proofs.safety.Invariant.{Inv, Hears}
use Rattle.shard.proofs.steps.Handles.{ticked_above}
use Rattle.world.proofs.keeping.SessionSteps.{Stays, Ends, SessionAble}
use Rattle.world.proofs.keeping.SessionsKept.{heard_able}
use Rattle.world.proofs.histories.Entries.{submission_found}
use Rattle.world.proofs.steps.Begun.{begins}
use Rattle.world.proofs.safety.Numbers.{found_last, number_is_new}
use Rattle.world.proofs.steps.Moves.{SubmittedBy, Moves, op_count, session_in, session_no_shard, shard_took, session_took}
use Rattle.world.proofs.shards.RightAnswers.{hears}

-- ## Optional elements

pub the_element : {X : Type 0} (o : Option X) (x : X) → Contains (cons_option o []) x → o ≡ Some x
the_element None x m = absurd (none_in_empty x m)
the_element (Some y) x m = ap Some (sym (contains_one y x m))

pub map_element : {X Y : Type 0} (f : X → Y) (o : Option X) → map f (cons_option o []) ≡ cons_option (option_map f o) []
map_element f None = refl
map_element f (Some x) = refl

-- ## A session

-- the outcome has an entry, of this session
abbrev pub Found : List Submission → ℕ → Finished → Type 0
Found submitted n f = (c : Completed) × (completed_of submitted n f ≡ Some c) × (c.node ≡ n) × (finished_as c ≡ f)

pub told_is_found : (top : TopologyValue) (w : Run) (n : ℕ) (st : SessionStep) → Inv top w → SessionAble top w n st → (f : Finished) → st.state.untaken ≡ Some f
    → Found w.submitted n f
told_is_found top w n st inv able f tells = go able.turn
  where
    go : Stays (w.sessions n) st.state ⊎ Ends top w n st.state → Found w.submitted n f
    go (inl s) = let none = s.untaken in absurd (cc)
    go (inr e) =
        let s = e.opened.submission in
        let t : TxnValue = record { session = n; number = (w.sessions n).count } in
        let own : Finished = record { number = (w.sessions n).count; outcome = e.came } in
        let c : Completed = record { node = n; number = (w.sessions n).count; home = s.home; op = s.op; outcome = e.came } in
        let txn : txn_of s ≡ t = λ j. record { session = e.opened.session j; number = e.opened.number j } in
        let found = submission_found top w s t inv.submitted e.opened.among txn in
        let is : completed_of w.submitted n own ≡ Some c =
        ap (option_map (λ (z : Submission). let r : Completed = record { node = n; number = (w.sessions n).count; home = z.home; op = z.op; outcome = e.came } in r)) found in
        let both : Some own ≡ Some f = sym e.untaken ∙ tells in
        let same : own ≡ f = cc in
        (c, ap (completed_of w.submitted n) (sym same) ∙ is, refl, same)

-- ## An actor's step

shard_finishes_none : (r : Result ShardStep Fault) (s : ActorStep) → of_shard r ≡ Some s → s.finishes ≡ None
shard_finishes_none (Err fault) s q = absurd (cc)
shard_finishes_none (Ok st) s q = let is : shard_took st ≡ s = cc in sym (ap (λ (z : ActorStep). z.finishes) is)

collection_finishes_none : (top : TopologyValue) (n : ℕ) (a : ActorState) (time : ℕ) (s : ActorStep) → actor_step top n a (CollectHere time) ≡ Some s → s.finishes ≡ None
collection_finishes_none top n (OfShard a) time s q = shard_finishes_none (shard_collect a time) s q
collection_finishes_none top n (OfSession a) time s q = absurd (cc)

-- what a submission ends at once is its own operation, the last of these submissions
pub submission_is_found : (top : TopologyValue) (w : Run) (n : ℕ) (o : Op) (s : ActorStep) (b : Submission) → Inv top w
    → actor_step top n (OfSession (w.sessions n)) (SubmitHere o) ≡ Some s → b.session ≡ n → b.number ≡ op_count s.state
    → (f : Finished) → s.finishes ≡ Some f → Found (w.submitted ++ b ∷ []) n f
submission_is_found top w n o s b inv takes of number f finishes = go (submit_fault top (w.sessions n) o) takes
  where
    by : (t : Option ℕ) → of_session (on_clock t (λ k. begun top n k (w.sessions n) o)) ≡ Some s → Found (w.submitted ++ b ∷ []) n f
    by None h = absurd (cc)
    by (Some k) h =
        let st = begun top n k (w.sessions n) o in
        let g = begins top n k (w.sessions n) o in
        let is : session_took st ≡ s = cc in
        let told : st.state.untaken ≡ Some f = ap (λ (z : ActorStep). z.finishes) is ∙ finishes in
        let own : b.number ≡ st.state.count = number ∙ sym (ap (λ (z : ActorStep). op_count z.state) is) in
        let last : f.number ≡ st.state.count = g.number f told ∙ sym g.count in
        let t : TxnValue = record { session = n; number = st.state.count } in
        let txn : record { session = b.session; number = b.number } ≡ t = λ j. record { session = of j; number = own j } in
        let found : submission_of (w.submitted ++ b ∷ []) t ≡ Some b =
        found_last (λ (z : Submission). is_same_txn (record { session = z.session; number = z.number }) t) w.submitted b
        (ap (λ z. is_same_txn z t) txn ∙ same_txn_self t) (number_is_new top w n k o inv) in
        let c : Completed = record { node = n; number = f.number; home = b.home; op = b.op; outcome = f.outcome } in (
          c,
          ap (option_map (λ (z : Submission). let r : Completed = record { node = n; number = f.number; home = z.home; op = z.op; outcome = f.outcome } in r))
              (ap (λ z. submission_of (w.submitted ++ b ∷ []) (record { session = n; number = z })) last ∙ found),
          refl,
          refl,
        )

    go : (e : Option Fault) → of_session (submitted_if e top n (w.sessions n) o) ≡ Some s → Found (w.submitted ++ b ∷ []) n f
    go (Some fault) h = absurd (cc)
    go None h = by (ticked (w.sessions n).clock (w.sessions n).clock) h

module _ (top : TopologyValue) (w : Run) (n : ℕ) (some : 0 < top.shards) (inv : Inv top w) where
  heard_is_found : (e : Envelope) → Hears top w e.from n e.time e.body → (t : Option ℕ) → ticked (w.sessions n).clock e.time ≡ t → (s : ActorStep)
      → of_session (on_clock t (λ k. heard top n k (w.sessions n) e.from e.body)) ≡ Some s → (f : Finished) → s.finishes ≡ Some f → Found w.submitted n f
  heard_is_found e says None q s h f finishes = absurd (cc)
  heard_is_found e says (Some k) q s h f finishes =
      let above = ticked_above (w.sessions n).clock e.time k q in
      let st = heard top n k (w.sessions n) e.from e.body in
      let is : session_took st ≡ s = cc in
      told_is_found top w n st inv (heard_able top w n k some inv (le_of_lt above.0) e.from e.time e.body (le_of_lt above.1) says) f
      (ap (λ (z : ActorStep). z.finishes) is ∙ finishes)

  handled_is_found : (e : Envelope) → Hears top w e.from n e.time e.body → (a : ActorState) → actor_in top w n ≡ a → (s : ActorStep) → actor_step top n a (Handle e) ≡ Some s
      → (f : Finished) → s.finishes ≡ Some f → Found w.submitted n f
  handled_is_found e says (OfShard a) is s q f finishes = let none = shard_finishes_none (shard_handle top n a e) s q in absurd (cc)
  handled_is_found e says (OfSession a) is s q f finishes =
      heard_is_found e says (ticked (w.sessions n).clock e.time) refl s
      (subst (λ z. actor_step top n (OfSession z) (Handle e) ≡ Some s) (session_is (is_shard top n) is) q) f finishes
    where
      session_is : (b : Bool) → (if b then OfShard (w.shards n) else OfSession (w.sessions n)) ≡ OfSession a → a ≡ w.sessions n
      session_is true h = absurd (cc)
      session_is false h = cc

-- what a step adds to the transcript: the entry of what it finishes
pub record IsListed (w v : Run) (n : ℕ) (s : ActorStep) : Type 0 where
  pub entry : Option Completed
  pub transcript : v.transcript ≡ with_ended w.transcript entry
  pub same : option_map finished_as entry ≡ s.finishes
  pub mine : (c : Completed) → entry ≡ Some c → c.node ≡ n

module _ (top : TopologyValue) (w v : Run) (ev : RunEvent) (n : ℕ) (x : ActorEvent) (s : ActorStep) (f : Moves top w v ev n x s)
    (some : 0 < top.shards) (inv : Inv top w) where
  found_by : (y : ActorEvent) → x ≡ y → actor_step top n (actor_in top w n) y ≡ Some s → SubmittedBy top w v n s y → (g : Finished) → s.finishes ≡ Some g
      → Found v.submitted n g
  found_by (SubmitHere o) is takes same g q =
      subst (λ l. Found l n g) (sym same.2)
      (submission_is_found top w n o s same.0 inv
      (subst (λ z. actor_step top n z (SubmitHere o) ≡ Some s) (session_in top w n (session_no_shard top n same.1)) takes) same.3 same.4 g q)
  found_by (CollectHere time) is takes same g q = let none = collection_finishes_none top n (actor_in top w n) time s takes in absurd (cc)
  found_by (Handle e) is takes same g q =
      let r = f.received e is in
      let says = subst (λ z. Hears top w e.from z e.time e.body) r.0 (hears top w inv e r.1) in
      subst (λ l. Found l n g) (sym same) (handled_is_found top w n some inv e says (actor_in top w n) refl s takes g q)

  pub step_is_listed : IsListed w v n s
  step_is_listed = go s.finishes refl
    where
      go : (o : Option Finished) → s.finishes ≡ o → IsListed w v n s
      go None q =
          record {
            entry = None;
            transcript = f.completed ∙ ap (λ z. with_ended w.transcript (option_and_then (completed_of v.submitted n) z)) q;
            same = sym q;
            mine = λ c e. absurd (cc);
          }
      go (Some g) q =
          let r = found_by x refl f.takes f.submitted g q in
          record {
            entry = Some r.0;
            transcript =
                f.completed ∙ ap (λ z. with_ended w.transcript (option_and_then (completed_of v.submitted n) z)) q ∙ ap (with_ended w.transcript) r.1;
            same = ap Some r.3 ∙ sym q;
            mine = λ c e. let is : r.0 ≡ c = cc in ap (λ (z : Completed). z.node) (sym is) ∙ r.2;
          }

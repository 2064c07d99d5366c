-- Which actors have anything: what isn't a shard keeps nothing, what isn't a session submits nothing; and what was handled
-- was sent.
use Rattle.std.proofs.Common.{◌≡◌, ℕ, zero, suc, ◌<◌, ◌≤◌, Bool, true, false, cond, List, [], ◌∷◌, ◌++◌, length, slice_get, Option, Some, None, Result, Ok, Err, ◌⊎◌, inl, inr, refl, sym, ap, ◌∙◌, subst, arith, eqb-true}
use Rattle.std.specs.Prelude.{◌==◌, filter_map, Contains}
use Rattle.std.proofs.lemmas.Bool.{false≢true}
use Rattle.std.proofs.lemmas.List.{length-append}
use Rattle.std.proofs.lemmas.List.Elements.{filter_map-append}
use Rattle.std.proofs.lemmas.Option.{slice_get_within}
use Rattle.logical_time.specs.declared.fault.Fault.{Fault}
use Rattle.messages.specs.declared.op.Op.{Op}
use Rattle.messages.specs.declared.envelope.Envelope.{Envelope}
use Rattle.messages.specs.Topology.{TopologyValue, is_shard, is_session}
use Rattle.messages.specs.Shard.{ShardStep, new_shard}
use Rattle.messages.specs.Session.{SessionState, SessionStep, Idle}
use Rattle.messages.specs.Submitting.{session_submit}
use Rattle.messages.specs.ShardEvents.{shard_handle, shard_collect}
use Rattle.messages.specs.SessionEvents.{session_handle, session_taken}
use Rattle.world.specs.Run.{Run, RunEvent, Submit, Deliver, Collect, Submission, opening, after_shard, after_session, after_submission, submit_if, deliver_if, deliver_for, collect_if, step}
use Rattle.world.specs.Quiet.{number_delivered, handled}
use Rattle.world.proofs.lists.Members.{none_in_empty, contains_one, last_or_old, Contains-append_cases}

pub record Stations (top : TopologyValue) (w : Run) : Type 0 where
  pub handled : (k : ℕ) → Contains (handled w) k → k < length w.sent
  pub shards : (node : ℕ) → is_shard top node ≡ false → w.shards node ≡ new_shard
  pub sessions : (node : ℕ) → is_session top node ≡ false → (w.sessions node).current ≡ Idle
  pub submitted : (b : Submission) → Contains w.submitted b → is_session top b.session ≡ true

-- ## What was handled

one_number : (x : RunEvent) (k : ℕ) (o : Option ℕ) → number_delivered x ≡ o → Contains (filter_map number_delivered (x ∷ [])) k
    → number_delivered x ≡ Some k
one_number (Submit session o) k n e m = absurd (none_in_empty k m)
one_number (Deliver j) k n e m = ap Some (sym (contains_one j k m))
one_number (Collect shard time) k n e m = absurd (none_in_empty k m)

-- after one more event: what was handled before, and what it delivers
pub handled_more : (events : List RunEvent) (x : RunEvent) (k : ℕ) → Contains (filter_map number_delivered (events ++ x ∷ [])) k
    → Contains (filter_map number_delivered events) k ⊎ (number_delivered x ≡ Some k)
handled_more events x k m =
    elim (Contains-append_cases (filter_map number_delivered events) (filter_map number_delivered (x ∷ [])) k (subst (λ l. Contains l k) (filter_map-append number_delivered events (x ∷ [])) m)) [
      | inl o ↦ inl o
      | inr n ↦ inr (one_number x k _ refl n)
    ]

pub more_sent : (xs ys : List Envelope) → length xs ≤ length (xs ++ ys)
more_sent xs ys = let e = length-append xs ys in omega arith

-- an element of the front stays where it was
pub get_front : {X : Type 0} (xs ys : List X) (k : ℕ) (x : X) → k < length xs → slice_get (xs ++ ys) k ≡ Some x → slice_get xs k ≡ Some x
get_front [] ys k x lt e = absurd (omega arith)
get_front (z ∷ xs) ys zero x lt e = e
get_front (z ∷ xs) ys (suc k) x lt e = get_front xs ys k x (omega arith) e

handled_go : (w : Run) (x : RunEvent) (sends : List Envelope) → ((k : ℕ) → Contains (handled w) k → k < length w.sent)
    → ((k : ℕ) → number_delivered x ≡ Some k → k < length w.sent)
    → (k : ℕ) → Contains (filter_map number_delivered (w.events ++ x ∷ [])) k → k < length (w.sent ++ sends)
handled_go w x sends old new k m =
    let le = more_sent w.sent sends in
    elim (handled_more w.events x k m) [
      | inl o ↦ let lt = old k o in omega arith
      | inr e ↦ let lt = new k e in omega arith
    ]

-- ## Steps

module _ (top : TopologyValue) (w : Run) (k : Stations top w) where
  shard_stations : (s : Result ShardStep Fault) (x : RunEvent) (node : ℕ) → is_shard top node ≡ true
      → ((j : ℕ) → number_delivered x ≡ Some j → j < length w.sent) → Stations top (after_shard s w x node)
  shard_stations (Err e) x node is sent = k
  shard_stations (Ok s) x node is sent =
      record {
        handled = handled_go w x s.sends k.handled sent;
        shards = λ m e. go m (m == node) refl e;
        sessions = k.sessions;
        submitted = k.submitted;
      }
    where
      go : (m : ℕ) (b : Bool) → (m == node) ≡ b → is_shard top m ≡ false → cond b s.state (w.shards m) ≡ new_shard
      go m false q e = k.shards m e
      go m true q e = absurd (false≢true (sym e ∙ ap (is_shard top) (eqb-true m node q) ∙ is))

  session_go : (a : SessionState) (node m : ℕ) → is_session top node ≡ true → (b : Bool) → (m == node) ≡ b → is_session top m ≡ false
      → (cond b a (w.sessions m)).current ≡ Idle
  session_go a node m is false q e = k.sessions m e
  session_go a node m is true q e = absurd (false≢true (sym e ∙ ap (is_session top) (eqb-true m node q) ∙ is))

  session_stations : (s : Result SessionStep Fault) (x : RunEvent) (node : ℕ) → is_session top node ≡ true
      → ((j : ℕ) → number_delivered x ≡ Some j → j < length w.sent) → Stations top (after_session s w x node)
  session_stations (Err e) x node is sent = k
  session_stations (Ok s) x node is sent =
      record {
        handled = handled_go w x s.sends k.handled sent;
        shards = k.shards;
        sessions = λ m e. session_go (session_taken s.state) node m is (m == node) refl e;
        submitted = k.submitted;
      }

  submission_stations : (s : Result SessionStep Fault) (node : ℕ) (o : Op) → is_session top node ≡ true → Stations top (after_submission s w node o)
  submission_stations (Err e) node o is = k
  submission_stations (Ok s) node o is =
      record {
        handled = handled_go w (Submit node o) s.sends k.handled (λ j e. absurd (cc));
        shards = k.shards;
        sessions = λ m e. session_go (session_taken s.state) node m is (m == node) refl e;
        submitted = λ b m. elim (last_or_old b _ w.submitted m) [ inl i ↦ k.submitted b i | inr q ↦ ap (λ z. is_session top z.session) q ∙ is ];
      }

  deliver_stations : (shard session : Bool) (j : ℕ) (e : Envelope) → is_shard top e.to ≡ shard → is_session top e.to ≡ session
      → slice_get w.sent j ≡ Some e → Stations top (deliver_if shard session top w (Deliver j) e)
  deliver_stations false false j e q r is = k
  deliver_stations false true j e q r is =
      session_stations (session_handle top e.to (w.sessions e.to) e) (Deliver j) e.to r
      (λ i h. let same : j ≡ i = cc in subst (λ z. z < length w.sent) same (slice_get_within w.sent j e is))
  deliver_stations true session j e q r is =
      shard_stations (shard_handle top e.to (w.shards e.to) e) (Deliver j) e.to q
      (λ i h. let same : j ≡ i = cc in subst (λ z. z < length w.sent) same (slice_get_within w.sent j e is))

  message_stations : (j : ℕ) (o : Option Envelope) → slice_get w.sent j ≡ o → Stations top (deliver_for o top w (Deliver j))
  message_stations j None e = k
  message_stations j (Some e) is = deliver_stations (is_shard top e.to) (is_session top e.to) j e refl refl is

  collect_stations : (b : Bool) (node time : ℕ) → is_shard top node ≡ b → Stations top (collect_if b w node time)
  collect_stations false node time is = k
  collect_stations true node time is = shard_stations (shard_collect (w.shards node) time) (Collect node time) node is (λ j e. absurd (cc))

  submit_stations : (b : Bool) (node : ℕ) (o : Op) → is_session top node ≡ b → Stations top (submit_if b top w node o)
  submit_stations false node o is = k
  submit_stations true node o is = submission_stations (session_submit top node (w.sessions node) o) node o is

  pub step_stations : (x : RunEvent) → Stations top (step top w x)
  step_stations (Submit node o) = submit_stations (is_session top node) node o refl
  step_stations (Deliver j) = message_stations j (slice_get w.sent j) refl
  step_stations (Collect node time) = collect_stations (is_shard top node) node time refl

pub opening_stations : (top : TopologyValue) → Stations top (opening top)
opening_stations top =
    record {
      handled = λ k m. absurd (none_in_empty k m);
      shards = λ node e. refl;
      sessions = λ node e. refl;
      submitted = λ b m. absurd (none_in_empty b m);
    }

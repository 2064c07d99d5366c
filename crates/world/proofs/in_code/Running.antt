-- What a world keeps goes on to stand for its run, with each step of an actor.
use Rattle.std.proofs.Common.{◌≡◌, ◌∙◌, ℕ, zero, suc, ◌+◌, ◌<◌, Bool, true, false, cond, List, [], ◌∷◌, ◌++◌, length, slice_get, Option, Some, None, Ok, refl, sym, ap, subst, arith, eqb-true, eq-eqb}
use Rattle.std.specs.Prelude.{◌==◌, find, slice_set, option_map, option_and_then}
use Rattle.std.proofs.lemmas.Bool.{false≢true}
use Rattle.logical_time.specs.Stamps.{WriterValue}
use Rattle.messages.specs.declared.op.Op.{Op}
use Rattle.messages.specs.declared.outcome.Outcome.{Outcome}
use Rattle.messages.specs.declared.body.Body.{Body}
use Rattle.messages.specs.declared.envelope.Envelope.{Envelope}
use Rattle.messages.specs.Topology.{TopologyValue, shard_count}
use Rattle.messages.specs.Words.{is_same_txn}
use Rattle.messages.specs.Shard.{ShardState, ShardStep}
use Rattle.messages.specs.Session.{SessionState, SessionStep, Finished, Open, ended, is_idle}
use Rattle.messages.specs.SessionEvents.{heard, session_taken}
use Rattle.messages.specs.Actors.{home_after}
use Rattle.shard.specs.declared.kept.ShardKept.{ShardKept}
use Rattle.shard.specs.Kept as shard
use Rattle.client.specs.Represents as session
use Rattle.world.specs.declared.actors.Actors.{Actors}
use Rattle.world.specs.declared.station.Station.{Station}
use Rattle.world.specs.Run.{Run, RunEvent, Submission, submission_of, completed_of, ended_by, with_ended, with_actor, with_session, after_shard, after_session}
use Rattle.world.specs.Holds.{AreShards, AreStations, Sits, IsOpOf, IsRunning, ended_as, kept_after}
use Rattle.world.specs.Steps.{DidSession}
use Rattle.world.proofs.safety.Invariant.{Inv}
use Rattle.world.proofs.steps.HeardCases.{heard_kinds}
use Rattle.world.proofs.keeping.ShardSteps.{actor_same}

-- ## Lists

pub get_set : {X : Type 0} (xs : List X) (k : ℕ) (x : X) → k < length xs → slice_get (slice_set xs k x) k ≡ Some x
get_set [] k x lt = absurd (omega arith)
get_set (y ∷ xs) zero x lt = refl
get_set (y ∷ xs) (suc k) x lt = get_set xs k x (omega arith)

pub get_other : {X : Type 0} (xs : List X) (k j : ℕ) (x : X) → (j ≡ k → ⊥) → slice_get (slice_set xs k x) j ≡ slice_get xs j
get_other [] zero j x other = refl
get_other [] (suc k) j x other = refl
get_other (y ∷ xs) zero zero x other = absurd (other refl)
get_other (y ∷ xs) zero (suc j) x other = refl
get_other (y ∷ xs) (suc k) zero x other = refl
get_other (y ∷ xs) (suc k) (suc j) x other = get_other xs k j x (λ same. other (ap suc same))

pub length_set : {X : Type 0} (xs : List X) (k : ℕ) (x : X) → length (slice_set xs k x) ≡ length xs
length_set [] zero x = refl
length_set [] (suc k) x = refl
length_set (y ∷ xs) zero x = refl
length_set (y ∷ xs) (suc k) x = ap suc (length_set xs k x)

pub actor_other : {X : Type 0} (f : ℕ → X) (node other : ℕ) (b : X) → (other ≡ node → ⊥) → with_actor f node b other ≡ f other
actor_other f node other b apart = go (other == node) refl
  where
    go : (t : Bool) → (other == node) ≡ t → with_actor f node b other ≡ f other
    go true e = absurd (apart (eqb-true other node e))
    go false e = ap (λ t. cond t b (f other)) e

-- a place of a list is the one that changed, or another
pub by_place : {X : Type 0} (xs : List X) (k : ℕ) (x : X) (P : ℕ → X → Type 0) → k < length xs → P k x
    → ((j : ℕ) (y : X) → (j ≡ k → ⊥) → slice_get xs j ≡ Some y → P j y) → (j : ℕ) (y : X) → slice_get (slice_set xs k x) j ≡ Some y → P j y
by_place xs k x P lt here there j y at = go (j == k) refl
  where
    go : (t : Bool) → (j == k) ≡ t → P j y
    go true e =
        let q : Some x ≡ Some y = sym (get_set xs k x lt) ∙ ap (slice_get (slice_set xs k x)) (sym (eqb-true j k e)) ∙ at in
        let same : x ≡ y = cc in
        subst (λ z. P j z) same (subst (λ i. P i x) (sym (eqb-true j k e)) here)
    go false e =
        let apart : j ≡ k → ⊥ = λ same. false≢true (sym e ∙ eq-eqb j k same) in
        there j y apart (sym (get_other xs k j x apart) ∙ at)

-- ## Shards

pub shards_go_on : (top : TopologyValue) (states : ℕ → ShardState) (xs : List ShardKept) (node : ℕ) (k : ShardKept) (b : ShardState) → AreShards top states xs
    → node < length xs → shard.Represents top node k b → AreShards top (with_actor states node b) (slice_set xs node k)
shards_go_on top states xs node k b are lt here =
    record {
      len = length_set xs node k ∙ are.len;
      each =
          by_place xs node k (λ i l. shard.Represents top i l (with_actor states node b i)) lt
          (subst (λ a. shard.Represents top node k a) (sym (actor_same states node b)) here)
          (λ i l apart at. subst (λ a. shard.Represents top i l a) (sym (actor_other states node i b apart)) (are.each i l at));
    }

pub after_shard_step : (top : TopologyValue) (w : Run) (x : RunEvent) (node : ℕ) (s : ShardStep) (a b : Actors) → IsRunning top w a
    → AreShards top (with_actor w.shards node s.state) b.shards.items → b.network.sent ≡ a.network.sent ++ s.sends
    → b.topology ≡ a.topology → b.stations.items ≡ a.stations.items → b.transcript.items ≡ a.transcript.items → IsRunning top (after_shard (Ok s) w x node) b
after_shard_step top w x node s a b r are sends topology stations told =
    record {
      topology = topology ∙ r.topology;
      sound = r.sound;
      shards = are;
      stations =
          record {
            len = ap (λ (l : List Station). length l) stations ∙ r.stations.len;
            each = λ i k at.
                let t = r.stations.each i k (ap (λ (l : List Station). slice_get l i) (sym stations) ∙ at) in
                record { stands = t.stands; same = t.same; node = t.node; op = λ busy. let o = t.op busy in record { submission = o.submission; found = o.found; op = o.op; home = o.home } };
          };
      sent = ap (λ l. l ++ s.sends) r.sent ∙ sym sends;
      transcript = r.transcript ∙ sym told;
    }

-- ## What a session hears

-- what ended is the open operation, and none opens
record Hears (a : SessionState) (st : SessionStep) : Type 0 where
  count : st.state.count ≡ a.count
  open_before : is_idle st.state.current ≡ false → is_idle a.current ≡ false
  home : is_idle st.state.current ≡ false → st.state.home ≡ a.home
  still : is_idle st.state.current ≡ false → st.state.untaken ≡ None
  ended : (f : Finished) → st.state.untaken ≡ Some f → (f.number ≡ a.count) × (is_idle a.current ≡ false)

none_ended : (a : SessionState) → a.untaken ≡ None → (f : Finished) → a.untaken ≡ Some f → (f.number ≡ a.count) × (is_idle a.current ≡ false)
none_ended a taken f e = let no : None ≡ Some f = sym taken ∙ e in absurd (cc)

keeps_on : (a : SessionState) (n : ℕ) (current : Open) (sends : List Envelope) → a.untaken ≡ None → is_idle a.current ≡ false
    → Hears a (record { state = record a { clock = n; current = current }; sends = sends })
keeps_on a n current sends taken busy =
    record { count = refl; open_before = λ e. busy; home = λ e. refl; still = λ e. taken; ended = λ f e. absurd (let no : None ≡ Some f = sym taken ∙ e in cc) }

ends_now : (a : SessionState) (n home floor : ℕ) (dependencies : List WriterValue) (o : Outcome) → is_idle a.current ≡ false
    → Hears a (ended n (record a { home = home }) floor dependencies o)
ends_now a n home floor dependencies o busy =
    record {
      count = refl;
      open_before = λ e. busy;
      home = λ e. absurd (false≢true (sym e));
      still = λ e. absurd (false≢true (sym e));
      ended = λ f e. let same : record { number = a.count; outcome = o } ≡ f = cc in (ap (λ (z : Finished). z.number) (sym same), busy);
    }

hears : (top : TopologyValue) (me n : ℕ) (a : SessionState) (from : ℕ) (m : Body) → a.untaken ≡ None → Hears a (heard top me n a from m)
hears top me n a from m taken =
    heard_kinds top me n a from m (Hears a)
    (record {
      still = record { count = refl; open_before = λ e. e; home = λ e. refl; still = λ e. taken; ended = none_ended a taken };
      goes_on = λ o sends busy open_still. keeps_on a n o sends taken busy;
      over = λ floor dependencies o busy. ends_now a n (home_after a.home o) floor dependencies o busy;
    })

-- ## A session's step

-- an entry is the same by the submission of its number and by the operation and the home that are kept
pub ended_alike : (submitted : List Submission) (node dc : ℕ) (f : Finished) (b : Submission) (o : Option Op)
    → submission_of submitted (record { session = node; number = f.number }) ≡ Some b → b.home ≡ dc → o ≡ Some b.op
    → completed_of submitted node f ≡ ended_as node dc o (Some f)
ended_alike submitted node dc f b o found at kept =
    ap (option_map (λ (s : Submission). record { node = node; number = f.number; home = s.home; op = s.op; outcome = f.outcome })) found
    ∙ ap (λ h. Some (record { node = node; number = f.number; home = h; op = b.op; outcome = f.outcome })) at
    ∙ sym (ap (option_map (λ (op : Op). record { node = node; number = f.number; home = dc; op = op; outcome = f.outcome })) kept)

-- what is told of what ended is the same by the operation that is kept and by the submissions
told_alike : (top : TopologyValue) (w : Run) (node : ℕ) (o : Option Op) (untaken : Option Finished)
    → ((f : Finished) → untaken ≡ Some f → (f.number ≡ (w.sessions node).count) × (is_idle (w.sessions node).current ≡ false))
    → (is_idle (w.sessions node).current ≡ false → IsOpOf w node o)
    → option_and_then (completed_of w.submitted node) untaken ≡ ended_as node (w.sessions node).home o untaken
told_alike top w node o None ended kept = refl
told_alike top w node o (Some f) ended kept =
    let p = ended f refl in
    let k = kept p.1 in
    ended_alike w.submitted node (w.sessions node).home f k.submission o
    (ap (λ m. submission_of w.submitted (record { session = node; number = m })) p.0 ∙ k.found) k.home k.op

not_finished : (o : Option Op) (untaken : Option Finished) → untaken ≡ None → kept_after o untaken ≡ o
not_finished o None e = refl
not_finished o (Some f) e = absurd (cc)

-- A session did this step, with these operations accepted by then: what is told of its end is the same by the operation that was
-- kept, and what isn't ended is kept on. So the actors stand for the run with it.
pub session_goes_on : (top : TopologyValue) (w : Run) (x : RunEvent) (submitted : List Submission) (i node : ℕ) (st : SessionStep) (a b : Actors) (s t : Station) (o : Option Op)
    → IsRunning top w a → node ≡ shard_count top + i
    → slice_get a.stations.items i ≡ Some s → i < length a.stations.items → b.stations.items ≡ slice_set a.stations.items i t
    → DidSession top st (record s { op = o }) t a.network.sent b.network.sent a.transcript.items b.transcript.items
    → b.topology ≡ a.topology → b.shards.items ≡ a.shards.items
    → option_and_then (completed_of submitted node) st.state.untaken ≡ ended_as node (w.sessions node).home o st.state.untaken
    → (is_idle st.state.current ≡ false → (st.state.untaken ≡ None) × IsOpOf (with_session w x node submitted st) node o)
    → ((p : Submission → Bool) (z : Submission) → find p w.submitted ≡ Some z → find p submitted ≡ Some z)
    → IsRunning top (with_session w x node submitted st) b
session_goes_on top w x submitted i node st a b s t o r is at lt set did topology shards alike busy_on longer =
    record {
      topology = topology ∙ r.topology;
      sound = r.sound;
      shards = subst (AreShards top w.shards) (sym shards) r.shards;
      stations =
          subst (AreStations v top) (sym set)
          (record { len = length_set a.stations.items i t ∙ r.stations.len; each = by_place a.stations.items i t (λ j k. Sits v top (shard_count top + j) k) lt here there });
      sent = ap (λ l. l ++ st.sends) r.sent ∙ sym did.sends;
      transcript =
          ap (λ l. with_ended l (ended_by submitted node st)) r.transcript
          ∙ ap (with_ended a.transcript.items) alike
          ∙ ap (λ z. with_ended a.transcript.items (ended_as z (w.sessions node).home o st.state.untaken)) (sym old.node)
          ∙ ap (λ (z : SessionState). with_ended a.transcript.items (ended_as s.node z.home o st.state.untaken)) old.stands.state
          ∙ sym did.ended;
    }
  where
    v : Run
    v = with_session w x node submitted st

    old : Sits w top node s
    old = subst (λ z. Sits w top z s) (sym is) (r.stations.each i s at)

    now_is : v.sessions node ≡ session_taken st.state
    now_is = actor_same w.sessions node (session_taken st.state)

    here_op : is_idle st.state.current ≡ false → IsOpOf v node t.op
    here_op busy = let q = busy_on busy in subst (IsOpOf v node) (sym (did.op ∙ not_finished o st.state.untaken q.0)) q.1

    here : Sits v top (shard_count top + i) t
    here =
        subst (λ z. Sits v top z t) is
        (record {
          stands = subst (λ z. session.Represents t.session top z) (sym now_is) did.stands;
          same = did.same ∙ old.same;
          node = did.node ∙ old.node;
          op = λ busy. here_op (sym (ap (λ (z : SessionState). is_idle z.current) now_is) ∙ busy);
        })

    there : (j : ℕ) (y : Station) → (j ≡ i → ⊥) → slice_get a.stations.items j ≡ Some y → Sits v top (shard_count top + j) y
    there j y apart at =
        let u = r.stations.each j y at in
        let same : v.sessions (shard_count top + j) ≡ w.sessions (shard_count top + j) =
        actor_other w.sessions node (shard_count top + j) (session_taken st.state) (λ e. apart (omega arith)) in
        record {
          stands = subst (λ z. session.Represents y.session top z) (sym same) u.stands;
          same = u.same;
          node = u.node;
          op = λ busy.
              let o' = u.op (sym (ap (λ (z : SessionState). is_idle z.current) same) ∙ busy) in
              record {
                submission = o'.submission;
                found =
                    ap (λ (z : SessionState). submission_of submitted (record { session = shard_count top + j; number = z.count })) same
                    ∙ longer (λ (s : Submission). is_same_txn (record { session = s.session; number = s.number }) (record { session = shard_count top + j; number = (w.sessions (shard_count top + j)).count }))
                    o'.submission o'.found;
                op = o'.op;
                home = o'.home ∙ sym (ap (λ (z : SessionState). z.home) same);
              };
        }

pub after_session_step : (top : TopologyValue) (w : Run) (x : RunEvent) (i node n from : ℕ) (m : Body) (a b : Actors) (s t : Station) → Inv top w → IsRunning top w a → node ≡ shard_count top + i
    → slice_get a.stations.items i ≡ Some s → i < length a.stations.items → b.stations.items ≡ slice_set a.stations.items i t
    → DidSession top (heard top node n (w.sessions node) from m) s t a.network.sent b.network.sent a.transcript.items b.transcript.items
    → b.topology ≡ a.topology → b.shards.items ≡ a.shards.items
    → IsRunning top (after_session (Ok (heard top node n (w.sessions node) from m)) w x node) b
after_session_step top w x i node n from m a b s t inv r is at lt set did topology shards =
    session_goes_on top w x w.submitted i node st a b s t s.op r is at lt set did topology shards
    (told_alike top w node s.op st.state.untaken k.ended old.op)
    (λ busy.
    let o = old.op (k.open_before busy) in (
      k.still busy,
      record {
        submission = o.submission;
        found = ap (λ (z : SessionState). submission_of w.submitted (record { session = node; number = z.count })) now_is
            ∙ ap (λ c. submission_of w.submitted (record { session = node; number = c })) k.count ∙ o.found;
        op = o.op;
        home = o.home ∙ sym (k.home busy) ∙ sym (ap (λ (z : SessionState). z.home) now_is);
      },
    ))
    (λ p z e. e)
  where
    st : SessionStep
    st = heard top node n (w.sessions node) from m

    old : Sits w top node s
    old = subst (λ z. Sits w top z s) (sym is) (r.stations.each i s at)

    k : Hears (w.sessions node) (heard top node n (w.sessions node) from m)
    k = hears top node n (w.sessions node) from m (inv.sessions node).taken

    now_is : with_actor w.sessions node (session_taken st.state) node ≡ session_taken st.state
    now_is = actor_same w.sessions node (session_taken st.state)

-- An event that an actor takes is taken by the run.
use Rattle.std.proofs.Common.{append-nil, ◌≡◌, ◌∙◌, ℕ, ◌+◌, ◌-◌, ◌<◌, ◌≤◌, true, false, List, [], ◌++◌, length, slice_get, Option, Some, None, Result, Ok, Err, refl, sym, ap, subst, arith}
use Rattle.std.specs.Prelude.{slice_set, if◌then◌else◌}
use Rattle.std.proofs.lemmas.Bool.Decides.{nat_tests}
use Rattle.logical_time.specs.declared.fault.Fault.{Fault}
use Rattle.store.specs.Keeps.{AreApart}
use Rattle.messages.specs.declared.envelope.Envelope.{Envelope}
use Rattle.messages.specs.Topology.{TopologyValue, is_shard, is_session, shard_count}
use Rattle.messages.specs.Clock.{ticked, on_clock}
use Rattle.messages.specs.Shard.{ShardState, ShardStep}
use Rattle.messages.specs.Session.{SessionState, SessionStep}
use Rattle.messages.specs.ShardEvents.{shard_handle, shard_collect}
use Rattle.messages.specs.SessionEvents.{heard, session_handle}
use Rattle.shard.specs.declared.kept.ShardKept.{ShardKept}
use Rattle.shard.specs.Kept as shard
use Rattle.client.specs.Represents as session
use Rattle.world.specs.declared.actors.Actors.{Actors}
use Rattle.world.specs.declared.station.Station.{Station}
use Rattle.world.specs.Run.{Run, RunEvent, Deliver, Collect, after_shard, after_session, deliver_if, deliver_for, collect_if, step, run}
use Rattle.world.specs.Refusals.{Refusal, Refused, NoSuchActor, refused_by, refusal_of, refusal_of_message}
use Rattle.world.specs.Holds.{AreShards, AreStations, IsRunning, HasTaken}
use Rattle.world.specs.World.{IsRefusedAs}
use Rattle.world.specs.Steps.{StaysApart, DidShard, DidSessionOf}
use Rattle.world.proofs.keeping.ShardSteps.{actor_same}
use Rattle.world.proofs.safety.Runs.{every_run, step_kept}
use Rattle.world.proofs.envelopes.Addresses.{stands}
use Rattle.world.proofs.in_code.Running.{after_shard_step, after_session_step}
use Rattle.world.proofs.shards.RightAnswers.{parts_apart}

-- ## What the definitions make of a message to an actor

pub shard_step : (top : TopologyValue) (w : Run) (k : ℕ) (e : Envelope) → slice_get w.sent k ≡ Some e → is_shard top e.to ≡ true
    → step top w (Deliver k) ≡ after_shard (shard_handle top e.to (w.shards e.to) e) w (Deliver k) e.to
shard_step top w k e sent to = ap (λ o. deliver_for o top w (Deliver k)) sent ∙ ap (λ b. deliver_if b (is_session top e.to) top w (Deliver k) e) to

pub shard_refusal : (top : TopologyValue) (w : Run) (k : ℕ) (e : Envelope) → slice_get w.sent k ≡ Some e → is_shard top e.to ≡ true
    → refusal_of top w (Deliver k) ≡ refused_by (shard_handle top e.to (w.shards e.to) e)
shard_refusal top w k e sent to =
    ap (refusal_of_message top w) sent
    ∙ ap
    (λ b. if b then refused_by (shard_handle top e.to (w.shards e.to) e)
    else if is_session top e.to then refused_by (session_handle top e.to (w.sessions e.to) e) else Some NoSuchActor)
    to

pub session_step : (top : TopologyValue) (w : Run) (k : ℕ) (e : Envelope) → slice_get w.sent k ≡ Some e → is_shard top e.to ≡ false → is_session top e.to ≡ true
    → step top w (Deliver k) ≡ after_session (session_handle top e.to (w.sessions e.to) e) w (Deliver k) e.to
session_step top w k e sent other to =
    ap (λ o. deliver_for o top w (Deliver k)) sent ∙ ap (λ b. deliver_if b (is_session top e.to) top w (Deliver k) e) other
    ∙ ap (λ b. deliver_if false b top w (Deliver k) e) to

pub session_refusal : (top : TopologyValue) (w : Run) (k : ℕ) (e : Envelope) → slice_get w.sent k ≡ Some e → is_shard top e.to ≡ false → is_session top e.to ≡ true
    → refusal_of top w (Deliver k) ≡ refused_by (session_handle top e.to (w.sessions e.to) e)
session_refusal top w k e sent other to =
    ap (refusal_of_message top w) sent
    ∙ ap
    (λ b. if b then refused_by (shard_handle top e.to (w.shards e.to) e)
    else if is_session top e.to then refused_by (session_handle top e.to (w.sessions e.to) e) else Some NoSuchActor)
    other
    ∙ ap (λ b. if b then refused_by (session_handle top e.to (w.sessions e.to) e) else Some NoSuchActor) to

-- ## Shards

pub below_count : (top : TopologyValue) (xs : List ShardKept) (node : ℕ) → length xs ≡ shard_count top → node < length xs → is_shard top node ≡ true
below_count top xs node len lt = grind (arith, nat_tests)

module _ (top : TopologyValue) (events : List RunEvent) where
  -- a shard's step that the run does is allowed, and the actors go on
  shard_took : (x : RunEvent) (node : ℕ) (r : Result ShardStep Fault) (a b : Actors) → IsRunning top (run top events) a
      → step top (run top events) x ≡ after_shard r (run top events) x node
      → refusal_of top (run top events) x ≡ refused_by r
      → (StaysApart r → DidShard top (run top events).shards node r b.shards.items a.network.sent b.network.sent)
      → b.topology ≡ a.topology → b.stations.items ≡ a.stations.items → b.transcript.items ≡ a.transcript.items → HasTaken top events x b
  shard_took x node (Err f) a b is steps refuses did topology stations told = absurd (did tt)
  shard_took x node (Ok s) a b is steps refuses did topology stations told =
      let some = (stands top is.sound).some in
      let inv = step_kept top (run top events) x some (every_run top events some) in
      let apart : AreApart s.state.applied =
      subst (λ (z : ShardState). AreApart z.applied) (ap (λ (v : Run). v.shards node) steps ∙ actor_same (run top events).shards node s.state) (parts_apart top (step top (run top events) x) inv node) in
      let d = did apart in
      record {
        allowed = refuses;
        running = subst (λ v. IsRunning top v b) (sym steps) (after_shard_step top (run top events) x node s a b is d.0 d.1 topology stations told);
      }

  -- a refusal is the run's
  pub refused_so : (o : Option Refusal) (r : Result ShardStep Fault) (f : Fault) → o ≡ refused_by r → shard.IsRefusalOf r f → IsRefusedAs o f
  refused_so o (Ok s) f same is = subst (λ z. IsRefusedAs z f) (sym same) is
  refused_so o (Err e) f same is = subst (λ z. IsRefusedAs z f) (sym same) (ap Refused (sym is))

  pub refused_session : (o : Option Refusal) (r : Result SessionStep Fault) (f : Fault) → o ≡ refused_by r → session.IsRefusalOf r f → IsRefusedAs o f
  refused_session o (Ok s) f same is = subst (λ z. IsRefusedAs z f) (sym same) is
  refused_session o (Err e) f same is = subst (λ z. IsRefusedAs z f) (sym same) (ap Refused (sym is))

-- ## For the code

pub shard_takes : (top : TopologyValue) (events : List RunEvent) (k place : ℕ) (e : Envelope) (a b : Actors) → IsRunning top (run top events) a
    → slice_get a.network.sent k ≡ Some e → e.to ≡ place → place < length a.shards.items
    → ((top' : TopologyValue) (states : ℕ → ShardState) → AreShards top' states a.shards.items → StaysApart (shard_handle top' place (states place) e)
    → DidShard top' states place (shard_handle top' place (states place) e) b.shards.items a.network.sent b.network.sent)
    → b.topology ≡ a.topology → b.stations.items ≡ a.stations.items → b.transcript.items ≡ a.transcript.items → HasTaken top events (Deliver k) b
shard_takes top events k place e a b is sent to lt did topology stations told =
    let w = run top events in
    let there : slice_get w.sent k ≡ Some e = ap (λ l. slice_get l k) is.sent ∙ sent in
    let near : is_shard top e.to ≡ true = subst (λ z. is_shard top z ≡ true) (sym to) (below_count top a.shards.items place is.shards.len lt) in
    shard_took top events (Deliver k) e.to (shard_handle top e.to (w.shards e.to) e) a b is (shard_step top w k e there near) (shard_refusal top w k e there near)
    (subst (λ z. StaysApart (shard_handle top z (w.shards z) e) → DidShard top w.shards z (shard_handle top z (w.shards z) e) b.shards.items a.network.sent b.network.sent) (sym to) (did top w.shards is.shards))
    topology stations told

pub shard_refuses : (top : TopologyValue) (events : List RunEvent) (k place : ℕ) (e : Envelope) (a : Actors) (f : Fault) → IsRunning top (run top events) a
    → slice_get a.network.sent k ≡ Some e → e.to ≡ place → place < length a.shards.items
    → ((top' : TopologyValue) (states : ℕ → ShardState) → AreShards top' states a.shards.items → shard.IsRefusalOf (shard_handle top' place (states place) e) f)
    → IsRefusedAs (refusal_of top (run top events) (Deliver k)) f
shard_refuses top events k place e a f is sent to lt refused =
    let w = run top events in
    let there : slice_get w.sent k ≡ Some e = ap (λ l. slice_get l k) is.sent ∙ sent in
    let near : is_shard top e.to ≡ true = subst (λ z. is_shard top z ≡ true) (sym to) (below_count top a.shards.items place is.shards.len lt) in
    refused_so top events (refusal_of top w (Deliver k)) (shard_handle top e.to (w.shards e.to) e) f (shard_refusal top w k e there near)
    (subst (λ z. shard.IsRefusalOf (shard_handle top z (w.shards z) e) f) (sym to) (refused top w.shards is.shards))

pub shards_still : (top : TopologyValue) (events : List RunEvent) (a b : Actors) → IsRunning top (run top events) a
    → ((top' : TopologyValue) (states : ℕ → ShardState) → AreShards top' states a.shards.items → AreShards top' states b.shards.items)
    → b.topology ≡ a.topology → b.stations.items ≡ a.stations.items → b.network.sent ≡ a.network.sent → b.transcript.items ≡ a.transcript.items
    → IsRunning top (run top events) b
shards_still top events a b is still topology stations sent told =
    record {
      topology = topology ∙ is.topology;
      sound = is.sound;
      shards = still top (run top events).shards is.shards;
      stations = subst (λ (l : List Station). AreStations (run top events) top l) (sym stations) is.stations;
      sent = is.sent ∙ sym sent;
      transcript = is.transcript ∙ sym told;
    }

pub shard_collects : (top : TopologyValue) (events : List RunEvent) (place time : ℕ) (a b : Actors) → IsRunning top (run top events) a → place < length a.shards.items
    → ((top' : TopologyValue) (states : ℕ → ShardState) → AreShards top' states a.shards.items → StaysApart (shard_collect (states place) time)
    → DidShard top' states place (shard_collect (states place) time) b.shards.items [] [])
    → b.topology ≡ a.topology → b.stations.items ≡ a.stations.items → b.network.sent ≡ a.network.sent → b.transcript.items ≡ a.transcript.items → HasTaken top events (Collect place time) b
shard_collects top events place time a b is lt did topology stations sent told =
    let w = run top events in
    let near : is_shard top place ≡ true = below_count top a.shards.items place is.shards.len lt in
    shard_took top events (Collect place time) place (shard_collect (w.shards place) time) a b is
    (ap (λ z. collect_if z w place time) near) (ap (λ z. if z then refused_by (shard_collect (w.shards place) time) else Some NoSuchActor) near)
    (λ apart. quietly (shard_collect (w.shards place) time) (did top w.shards is.shards apart)) topology stations told
  where
    quietly : (r : Result ShardStep Fault) → DidShard top (run top events).shards place r b.shards.items [] [] → DidShard top (run top events).shards place r b.shards.items a.network.sent b.network.sent
    quietly (Err f) d = d
    quietly (Ok s) d = (d.0, sent ∙ sym (append-nil a.network.sent) ∙ ap (λ l. a.network.sent ++ l) d.1)

pub collect_refuses : (top : TopologyValue) (events : List RunEvent) (place time : ℕ) (a : Actors) (f : Fault) → IsRunning top (run top events) a → place < length a.shards.items
    → ((top' : TopologyValue) (states : ℕ → ShardState) → AreShards top' states a.shards.items → shard.IsRefusalOf (shard_collect (states place) time) f)
    → IsRefusedAs (refusal_of top (run top events) (Collect place time)) f
collect_refuses top events place time a f is lt refused =
    let w = run top events in
    refused_so top events (refusal_of top w (Collect place time)) (shard_collect (w.shards place) time) f
    (ap (λ z. if z then refused_by (shard_collect (w.shards place) time) else Some NoSuchActor) (below_count top a.shards.items place is.shards.len lt))
    (refused top w.shards is.shards)

-- ## Sessions

pub session_at : (top : TopologyValue) (node i : ℕ) → node ≡ shard_count top + i → i < length top.homes → (is_shard top node ≡ false) × (is_session top node ≡ true)
session_at top node i is lt = (grind (arith, nat_tests), grind (arith, nat_tests))

station_took : (top : TopologyValue) (events : List RunEvent) (k i : ℕ) (e : Envelope) (a b : Actors) (s t : Station) (o : Option ℕ) → IsRunning top (run top events) a
    → slice_get a.network.sent k ≡ Some e → e.to ≡ shard_count top + i → slice_get a.stations.items i ≡ Some s → i < length a.stations.items
    → b.stations.items ≡ slice_set a.stations.items i t
    → ticked ((run top events).sessions e.to).clock e.time ≡ o
    → DidSessionOf top (on_clock o (λ m. heard top e.to m ((run top events).sessions e.to) e.from e.body)) s t a.network.sent b.network.sent a.transcript.items b.transcript.items
    → b.topology ≡ a.topology → b.shards.items ≡ a.shards.items → HasTaken top events (Deliver k) b
station_took top events k i e a b s t None is sent to at lt set clock did topology shards = absurd did
station_took top events k i e a b s t (Some m) is sent to at lt set clock did topology shards =
    let w = run top events in
    let some = (stands top is.sound).some in
    let there : slice_get w.sent k ≡ Some e = ap (λ l. slice_get l k) is.sent ∙ sent in
    let kind = session_at top e.to i to (subst (λ z. i < z) is.stations.len lt) in
    let r : session_handle top e.to (w.sessions e.to) e ≡ Ok (heard top e.to m (w.sessions e.to) e.from e.body) =
    ap (λ z. on_clock z (λ q. heard top e.to q (w.sessions e.to) e.from e.body)) clock in
    record {
      allowed = session_refusal top w k e there kind.0 kind.1 ∙ ap refused_by r;
      running =
          subst (λ v. IsRunning top v b) (sym (session_step top w k e there kind.0 kind.1 ∙ ap (λ z. after_session z w (Deliver k) e.to) r))
          (after_session_step top w (Deliver k) i e.to m e.from e.body a b s t (every_run top events some) is to at lt set did topology shards);
    }

-- the session of a place has its node
pub at_node : (top : TopologyValue) (events : List RunEvent) (i : ℕ) (a : Actors) (s : Station) (node : ℕ) → IsRunning top (run top events) a → slice_get a.stations.items i ≡ Some s
    → node ≡ length a.shards.items + i → (node ≡ shard_count top + i) × (s.session.node ≡ node) × session.Represents s.session top ((run top events).sessions node)
at_node top events i a s node is at to =
    let q : node ≡ shard_count top + i = to ∙ ap (λ z. z + i) is.shards.len in
    let t = is.stations.each i s at in
    (q, t.same ∙ sym q, subst (λ z. session.Represents s.session top ((run top events).sessions z)) (sym q) t.stands)

pub station_takes : (top : TopologyValue) (events : List RunEvent) (k i : ℕ) (e : Envelope) (a b : Actors) (s t : Station) → IsRunning top (run top events) a
    → slice_get a.network.sent k ≡ Some e → e.to ≡ length a.shards.items + i → slice_get a.stations.items i ≡ Some s → i < length a.stations.items
    → b.stations.items ≡ slice_set a.stations.items i t
    → ((top' : TopologyValue) (z : SessionState) → session.Represents s.session top' z
    → DidSessionOf top' (session_handle top' s.session.node z e) s t a.network.sent b.network.sent a.transcript.items b.transcript.items)
    → b.topology ≡ a.topology → b.shards.items ≡ a.shards.items → HasTaken top events (Deliver k) b
station_takes top events k i e a b s t is sent to at lt set did topology shards =
    let w = run top events in
    let n = at_node top events i a s e.to is at to in
    station_took top events k i e a b s t (ticked (w.sessions e.to).clock e.time) is sent n.0 at lt set refl
    (subst (λ z. DidSessionOf top (session_handle top z (w.sessions e.to) e) s t a.network.sent b.network.sent a.transcript.items b.transcript.items) n.1 (did top (w.sessions e.to) n.2))
    topology shards

pub station_refuses : (top : TopologyValue) (events : List RunEvent) (k i : ℕ) (e : Envelope) (a : Actors) (s : Station) (f : Fault) → IsRunning top (run top events) a
    → slice_get a.network.sent k ≡ Some e → e.to ≡ length a.shards.items + i → slice_get a.stations.items i ≡ Some s → i < length a.stations.items
    → ((top' : TopologyValue) (z : SessionState) → session.Represents s.session top' z → session.IsRefusalOf (session_handle top' s.session.node z e) f)
    → IsRefusedAs (refusal_of top (run top events) (Deliver k)) f
station_refuses top events k i e a s f is sent to at lt refused =
    let w = run top events in
    let there : slice_get w.sent k ≡ Some e = ap (λ l. slice_get l k) is.sent ∙ sent in
    let n = at_node top events i a s e.to is at to in
    let kind = session_at top e.to i n.0 (subst (λ z. i < z) is.stations.len lt) in
    refused_session top events (refusal_of top w (Deliver k)) (session_handle top e.to (w.sessions e.to) e) f (session_refusal top w k e there kind.0 kind.1)
    (subst (λ z. session.IsRefusalOf (session_handle top z (w.sessions e.to) e) f) n.1 (refused top (w.sessions e.to) n.2))

-- a shard's node and its place are one number
pub below_named : (node place n : ℕ) → place ≡ node → node < n → place < n
below_named node place n e lt = subst (λ z. z < n) (sym e) lt

pub collect_named : (top : TopologyValue) (events : List RunEvent) (node place time : ℕ) (b : Actors) → place ≡ node → HasTaken top events (Collect place time) b
    → HasTaken top events (Collect node time) b
collect_named top events node place time b e taken = subst (λ z. HasTaken top events (Collect z time) b) e taken

pub refused_named : (top : TopologyValue) (events : List RunEvent) (node place time : ℕ) (f : Fault) → place ≡ node
    → IsRefusedAs (refusal_of top (run top events) (Collect place time)) f → IsRefusedAs (refusal_of top (run top events) (Collect node time)) f
refused_named top events node place time f e is = subst (λ z. IsRefusedAs (refusal_of top (run top events) (Collect z time)) f) e is

-- a session's node is its place after the shards
pub place_of : (node from len n : ℕ) → from ≡ node → len ≡ n → n ≤ node → node ≡ n + (from - len)
place_of node from len n same is le = omega arith

pub place_below : (node place n m : ℕ) → node ≡ n + place → node < n + m → place < m
place_below node place n m to lt = omega arith

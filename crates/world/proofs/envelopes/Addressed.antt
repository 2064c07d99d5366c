-- Each message of a run is for an actor that there is.
use Rattle.std.proofs.Common.{◌≡◌, ℕ, ◌<◌, true, ◌⊎◌, inl, inr, List, [], ◌∷◌, ◌++◌, refl, ap, ◌∙◌, subst, append-nil}
use Rattle.std.specs.Prelude.{Contains}
use Rattle.messages.specs.declared.body.Body.{Body}
use Rattle.messages.specs.declared.body.Body.TheVariants.{Begin, Prepare, Yes, Commit, At, NotBy, Check, Read as ReadNow, ReadAt, ReplBegin, ReplPart, Notify, PrepareRemote, DepCheck, DepOk, Done, PartNow, PartAt}
use Rattle.messages.specs.declared.envelope.Envelope.{Envelope}
use Rattle.messages.specs.Topology.{TopologyValue, is_topology, dc_of, is_shard, is_session}
use Rattle.messages.specs.Shard.{ShardState, WaitingRead}
use Rattle.messages.specs.ShardEvents.{handled}
use Rattle.shard.proofs.lists.Lists.{each_contained}
use Rattle.shard.proofs.steps.Sending.{Gives, handled_gives}
use Rattle.world.specs.Run.{Run, RunEvent, opening, step, continued, run}
use Rattle.world.specs.Lookups.{MessagesAreForActors}
use Rattle.world.proofs.lists.Members.{none_in_empty, Contains-append_cases, contains_get}
use Rattle.world.proofs.safety.Invariant.{Says, Inv}
use Rattle.world.proofs.envelopes.Near.{lead_dc}
use Rattle.world.proofs.steps.EventCases.{event_cases}
use Rattle.world.proofs.fresh.HeardRuns.{changed_actor}
use Rattle.world.proofs.steps.SessionSends.{IsOfSession, AreOfSession, heard_sends, begun_sends}
use Rattle.world.proofs.envelopes.About.{kind_of}
use Rattle.world.proofs.under_way.Underway.{SaysLive, Live}
use Rattle.world.proofs.envelopes.Stations.{Stations, opening_stations, step_stations}
use Rattle.world.proofs.envelopes.Addresses.{dc_shard, shard_dc, known_shard, to_shard, who_waits, done_session, stands}
use Rattle.world.proofs.safety.Runs.{every_run}
use Rattle.world.proofs.under_way.LiveEvents.{run_live}

-- ## Who sends what

-- sessions send what begins or asks, shards send what checks, and answers to reads go to sessions
abbrev Fits : TopologyValue → ℕ → ℕ → Body → Type 0
Fits top from to (Begin t rows cohorts dependencies) = is_session top from ≡ true
Fits top from to (Prepare t rows coordinator) = is_session top from ≡ true
Fits top from to (ReadNow number read) = is_session top from ≡ true
Fits top from to (ReadAt number time read) = is_session top from ≡ true
Fits top from to (NotBy t time) = is_shard top from ≡ true
Fits top from to (Check t time) = is_shard top from ≡ true
Fits top from to (PartNow number rows) = is_session top to ≡ true
Fits top from to (PartAt number time answer) = is_session top to ≡ true
Fits top from to other = Unit {0}

record Addressed (top : TopologyValue) (w : Run) : Type 0 where
  sent : (e : Envelope) → Contains w.sent e → Fits top e.from e.to e.body
  waiting : (node : ℕ) (y : WaitingRead) → Contains (w.shards node).waiting y → is_session top y.session ≡ true

of_session : (top : TopologyValue) (from to : ℕ) (b : Body) → IsOfSession b → is_session top from ≡ true → Fits top from to b
of_session top from to (Begin t rows cohorts dependencies) i q = q
of_session top from to (Prepare t rows coordinator) i q = q
of_session top from to (ReadNow number read) i q = q
of_session top from to (ReadAt number time read) i q = q
of_session top from to (DepCheck dependency waiter) i q = tt
of_session top from to _ i q = absurd i

module _ (top : TopologyValue) (w : Run) (k : Addressed top w) where
  -- what a session sends
  session_sends : (me : ℕ) (es : List Envelope) → is_session top me ≡ true → AreOfSession me es
      → (e : Envelope) → Contains (w.sent ++ es) e → Fits top e.from e.to e.body
  session_sends me es is own e m = elim (Contains-append_cases w.sent es e m) [
    | inl old ↦ k.sent e old
    | inr new ↦ (let o = own e new in of_session top e.from e.to e.body o.1 (ap (is_session top) o.0 ∙ is))
  ]

  module _ (f : Envelope) (n : ℕ) (m : Contains w.sent f) (here : is_shard top f.to ≡ true) where
    reader : (b : Body) → f.body ≡ b → Fits top f.from f.to b
    reader b is = subst (Fits top f.from f.to) is (k.sent f m)

    given : Gives n (w.shards f.to).low (λ z. Fits top z.from z.to z.body) (λ y. is_session top y.session ≡ true) (handled top f.to n (w.shards f.to) f.from f.body)
    given =
        handled_gives top f.to n (w.shards f.to) f.from f.body (λ z. Fits top z.from z.to z.body) (λ y. is_session top y.session ≡ true)
        (record {
          plain =
              record {
                yes = λ s t. tt;
                commit = λ s t stamp. tt;
                done = λ t stamp. tt;
                repl_begin = λ dc t rows stamp cohorts dependencies. tt;
                notify = λ s t. tt;
                prepare_remote = λ s t. tt;
                dep_check = λ s dependency waiter. tt;
                dep_ok = λ to dependency waiter commit. tt;
                check = λ s t time. here;
              };
          less = λ y left h. h;
          old = λ y has. k.waiting f.to y has;
          asked = λ number time read left is new. reader (ReadAt number time read) is;
          answers = λ y h. h;
          now = λ number read is. reader (ReadNow number read) is;
          at = λ t time commit stamp is. tt;
          not_by = λ t time is. here;
          repl_part = λ dc t rows commit stamp coordinator told. tt;
        })

  step_addressed : (x : RunEvent) → Addressed top (step top w x)
  step_addressed x =
      event_cases top w x (Addressed top)
      (record {
        nothing = k;
        handled =
            λ j f n is there here.
            let g = given f n (contains_get w.sent j f there) here in
            record {
              sent = λ e m. elim (Contains-append_cases w.sent (handled top f.to n (w.shards f.to) f.from f.body).sends e m) [
                | inl old ↦ k.sent e old
                | inr new ↦ each_contained (λ (z : Envelope). Fits top z.from z.to z.body) (handled top f.to n (w.shards f.to) f.from f.body).sends g.sends e
                    new
              ];
              waiting =
                  λ node.
                  changed_actor (λ (a : ShardState). (y : WaitingRead) → Contains a.waiting y → is_session top y.session ≡ true) w.shards f.to _ node
                  (λ same y m. g.waiting y m) (λ other. k.waiting node);
            };
        heard =
            λ j f n is there other here.
            record { sent = session_sends f.to _ here (heard_sends top f.to n (w.sessions f.to) f.from f.body); waiting = k.waiting };
        begun =
            λ node o n is here.
            record { sent = session_sends node _ here (begun_sends top node n (w.sessions node) o); waiting = k.waiting };
        collected =
            λ node time n is.
            record {
              sent = λ e m. k.sent e (subst (λ (l : List Envelope). Contains l e) (append-nil w.sent) m);
              waiting =
                  λ other.
                  changed_actor (λ (a : ShardState). (y : WaitingRead) → Contains a.waiting y → is_session top y.session ≡ true) w.shards node _ other
                  (λ same. k.waiting node) (λ apart. k.waiting other);
            };
      })

record Placed (top : TopologyValue) (w : Run) : Type 0 where
  addressed : Addressed top w
  stations : Stations top w

placed_later : (top : TopologyValue) (w : Run) (xs : List RunEvent) → Placed top w → Placed top (continued top w xs)
placed_later top w [] k = k
placed_later top w (x ∷ xs) k =
    placed_later top (step top w x) xs (record { addressed = step_addressed top w k.addressed x; stations = step_stations top w k.stations x })

-- ## For whom each message is

module _ (top : TopologyValue) (w : Run) (some : 0 < top.shards) (inv : Inv top w) (live : Live top w) (k : Placed top w) where
  -- a shard of the same data centre as a shard
  beside : (from to : ℕ) → is_shard top from ≡ true → dc_of top from ≡ dc_of top to → is_shard top to ≡ true
  beside from to is same =
      dc_shard top to some (subst (λ d. d < top.dcs) same (shard_dc top from some is))

  for_actor : (from to time : ℕ) (b : Body) → Says top w from to time b → SaysLive top w from to (kind_of b) → Fits top from to b
      → (is_shard top to ≡ true) ⊎ (is_session top to ≡ true)
  for_actor from to time (At t commit stamp) s l f =
      let d = s.0.decided in inl (beside from to (known_shard top w some inv live k.stations from t (inr (d.decision, d.among, d.txn))) s.1)
  for_actor from to time (NotBy t bound) s l f =
      let is = s.1 in inl (beside from to f (ap (dc_of top) is.here ∙ lead_dc top (dc_of top to) is.batch some))
  for_actor from to time (Check t bound) s l f = inl (beside from to f s.1)
  for_actor from to time (Done t commit stamp) s l f = inr (done_session top w some inv live k.stations from to time t commit stamp s l)
  for_actor from to time (PartNow number rows) s l f = inr f
  for_actor from to time (PartAt number bound answer) s l f = inr f
  for_actor from to time (Begin t rows cohorts dependencies) s l f =
      inl (to_shard top w some inv live k.stations from to time (Begin t rows cohorts dependencies) s l refl)
  for_actor from to time (Prepare t rows coordinator) s l f = inl (to_shard top w some inv live k.stations from to time (Prepare t rows coordinator) s l refl)
  for_actor from to time (Yes t) s l f = inl (to_shard top w some inv live k.stations from to time (Yes t) s l refl)
  for_actor from to time (Commit t commit stamp) s l f = inl (to_shard top w some inv live k.stations from to time (Commit t commit stamp) s l refl)
  for_actor from to time (ReadNow number read) s l f = inl (to_shard top w some inv live k.stations from to time (ReadNow number read) s l refl)
  for_actor from to time (ReadAt number bound read) s l f = inl (to_shard top w some inv live k.stations from to time (ReadAt number bound read) s l refl)
  for_actor from to time (ReplBegin cohorts t rows stamp dependencies) s l f =
      inl (to_shard top w some inv live k.stations from to time (ReplBegin cohorts t rows stamp dependencies) s l refl)
  for_actor from to time (ReplPart t rows stamp coordinator) s l f =
      inl (to_shard top w some inv live k.stations from to time (ReplPart t rows stamp coordinator) s l refl)
  for_actor from to time (Notify t) s l f = inl (to_shard top w some inv live k.stations from to time (Notify t) s l refl)
  for_actor from to time (PrepareRemote t) s l f = inl (to_shard top w some inv live k.stations from to time (PrepareRemote t) s l refl)
  for_actor from to time (DepCheck dependency waiter) s l f = inl (to_shard top w some inv live k.stations from to time (DepCheck dependency waiter) s l refl)
  for_actor from to time (DepOk dependency waiter commit) s l f =
      who_waits top w some inv live k.stations (dc_of top from) to waiter dependency l

pub messages_are_for_actors : (top : TopologyValue) (events : List RunEvent) → is_topology top.dcs top.shards top.homes ≡ true
    → MessagesAreForActors top (run top events)
messages_are_for_actors top events ok e has =
    let w = run top events in
    let m = has in
    let k = placed_later top (opening top) events (record { addressed = record { sent = λ e m. absurd (none_in_empty e m); waiting = λ node y m. absurd (none_in_empty y m) }; stations = opening_stations top }) in
    let some = (stands top ok).some in
    for_actor top w some (every_run top events some) (run_live top events ok) k e.from e.to e.time e.body ((every_run top events some).sent e m)
    ((run_live top events ok).sent e m) (k.addressed.sent e m)

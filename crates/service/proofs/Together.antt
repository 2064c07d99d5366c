-- The steps of many sessions, as moments of their world.
use Rattle.std.proofs.Common.{◌≡◌, ◌∙◌, true, ℕ, zero, suc, ◌<◌, ◌≤◌, List, [], ◌∷◌, ◌++◌, Option, Result, Ok, Err, IfOk, refl, ap, sym, subst, length, ◌⊎◌, inl, inr, arith}
use Rattle.logical_time.specs.declared.fault.Fault.{Fault}
use Rattle.messages.specs.declared.op.Op.{Op}
use Rattle.messages.specs.Topology.{TopologyValue, is_topology, session_node}
use Rattle.wire.specs.Replies.{Reply}
use Rattle.readiness.specs.declared.connection.Connection.{Connection}
use Rattle.readiness.specs.declared.run.Gone.{Gone}
use Rattle.readiness.specs.declared.run.Run.{Run}
use Rattle.readiness.specs.Lines.{ReadyValue}
use Rattle.readiness.specs.Exchanges.{Entry, LogChain}
use Rattle.readiness.specs.Places.{Turns, SettledFirst}
use Rattle.readiness.specs.Runs.{RanFor}
use Rattle.readiness.proofs.Positions.{log-then}
use Rattle.world.specs.declared.run_event.RunEvent.{RunEvent}
use Rattle.world.specs.Run.{Run as WorldRun, run}
use Rattle.world.specs.Journals.{IsBeginning}
use Rattle.world.specs.World.{WorldValue, run_of}
use Rattle.world.proofs.envelopes.Addresses.{stands}
use Rattle.service.specs.declared.sessions.WorldSessions.{WorldSessions}
use Rattle.service.specs.Port.{Asks}
use Rattle.service.specs.Meaning.{Replies}
use Rattle.service.specs.Sessions.{SessionsValue, IsSessionStep, SessionReplies, AreAnswered}
use Rattle.service.proofs.Meant.{begins_so, begins_at, answer_begins, answer_means}

below : (a b : ℕ) → (a < b) ⊎ (b ≤ a)
below zero zero = inr (omega arith)
below zero (suc b) = inl (omega arith)
below (suc a) zero = inr (omega arith)
below (suc a) (suc b) =
    elim (below a b) [
      | inl h ↦ inl (omega arith)
      | inr h ↦ inr (omega arith)
    ]

-- the port is of the same world
pub record IsSameWorld (p q : SessionsValue) : Type 0 where
  pub world : q.name ≡ p.name
  pub topology : q.world.top ≡ p.world.top

pub log_same : (p : SessionsValue) (log : List Entry) (q : SessionsValue) → LogChain IsSessionStep p log q → IsSameWorld p q
log_same p [] q c = subst (IsSameWorld p) c (record { world = refl; topology = refl })
log_same p (e ∷ log) q c =
    let more = log_same c.0 log q c.2 in
    record { world = more.world ∙ c.1.same_world; topology = more.topology ∙ c.1.topology }

step_begins : (place : ℕ) (p : SessionsValue) (o : Op) (a : Reply) (q : SessionsValue) → IsSessionStep place p o a q → IsBeginning p.world.events q.world.events
step_begins place p o a q s =
    elim (below place (length p.world.top.homes)) [
      | inl lt ↦ answer_begins p.world.top (session_node p.world.top place) p.world.events o a q.world.events (s.asks lt)
      | inr le ↦ subst (λ (w : WorldValue). IsBeginning p.world.events w.events) (sym (s.otherwise le).1) (begins_at p.world.events)
    ]

log_begins : (p : SessionsValue) (log : List Entry) (q : SessionsValue) → LogChain IsSessionStep p log q → IsBeginning p.world.events q.world.events
log_begins p [] q c = subst (λ (z : SessionsValue). IsBeginning p.world.events z.world.events) c (begins_at p.world.events)
log_begins p (e ∷ log) q c =
    begins_so p.world.events c.0.world.events q.world.events (step_begins e.place p e.exchange.asked e.exchange.told c.0 c.1) (log_begins c.0 log q c.2)

module _ (top : TopologyValue) (some : 0 < top.shards) (left : List RunEvent) where
  step_means : (place : ℕ) (p : SessionsValue) (o : Op) (a : Reply) (q : SessionsValue) → p.world.top ≡ top → IsSessionStep place p o a q → IsBeginning q.world.events left
      → SessionReplies top (run top left) place p.world.events o a q.world.events
  step_means place p o a q t s begins =
      record {
        replies = λ lt.
            let asks = subst (λ (z : TopologyValue). Asks z (session_node z place) p.world.events o a q.world.events) t (s.asks (subst (λ (z : TopologyValue). place < length z.homes) (sym t) lt)) in
            answer_means top (session_node top place) some p.world.events o a q.world.events left asks begins;
        otherwise = λ le.
            let none = s.otherwise (subst (λ (z : TopologyValue). length z.homes ≤ place) (sym t) le) in
            (none.0, ap (λ (w : WorldValue). w.events) none.1);
      }

  log_until : (p : SessionsValue) (log : List Entry) (q : SessionsValue) → p.world.top ≡ top → LogChain IsSessionStep p log q → IsBeginning q.world.events left
      → LogChain (SessionReplies top (run top left)) p.world.events log q.world.events
  log_until p [] q t c begins = ap (λ (z : SessionsValue). z.world.events) c
  log_until p (e ∷ log) q t c begins = (
    c.0.world.events,
    step_means e.place p e.exchange.asked e.exchange.told c.0 t c.1 (begins_so c.0.world.events q.world.events left (log_begins c.0 log q c.2) begins),
    log_until c.0 log q (c.1.topology ∙ t) c.2 begins,
  )

-- each answer means its request in what all leave behind
pub log_means : (p : SessionsValue) (log : List Entry) (q : SessionsValue) → 0 < p.world.top.shards → LogChain IsSessionStep p log q
    → LogChain (SessionReplies p.world.top (run q.world.top q.world.events)) p.world.events log q.world.events
log_means p log q some c =
    subst (λ (z : TopologyValue). LogChain (SessionReplies p.world.top (run z q.world.events)) p.world.events log q.world.events) (sym (log_same p log q c).topology)
    (log_until p.world.top some q.world.events p log q refl c (begins_at q.world.events))

-- ## What was answered stays answered

replies_ask : (top : TopologyValue) (session : ℕ) (w : WorldRun) (before : List RunEvent) (o : Op) (a : Reply) (after : List RunEvent) → Replies top session w before o a after → Asks top session before o a after
replies_ask top session w before o (Ok result) after r = r.answered
replies_ask top session w before o (Err f) after r = r

module _ (top : TopologyValue) (w : WorldRun) where
  replied_begins : (place : ℕ) (before : List RunEvent) (o : Op) (a : Reply) (after : List RunEvent) → SessionReplies top w place before o a after → IsBeginning before after
  replied_begins place before o a after s =
      elim (below place (length top.homes)) [
        | inl lt ↦ answer_begins top (session_node top place) before o a after (replies_ask top (session_node top place) w before o a after (s.replies lt))
        | inr le ↦ subst (λ (z : List RunEvent). IsBeginning before z) (sym (s.otherwise le).1) (begins_at before)
      ]

  answered_begins : (p : List RunEvent) (log : List Entry) (q : List RunEvent) → LogChain (SessionReplies top w) p log q → IsBeginning p q
  answered_begins p [] q c = subst (λ (z : List RunEvent). IsBeginning p z) c (begins_at p)
  answered_begins p (e ∷ log) q c = begins_so p c.0 q (replied_begins e.place p e.exchange.asked e.exchange.told c.0 c.1) (answered_begins c.0 log q c.2)

  module _ (some : 0 < top.shards) (left : List RunEvent) where
    replied_later : (place : ℕ) (before : List RunEvent) (o : Op) (a : Reply) (after : List RunEvent) → SessionReplies top w place before o a after → IsBeginning after left
        → SessionReplies top (run top left) place before o a after
    replied_later place before o a after s begins = record {
      replies = λ lt. answer_means top (session_node top place) some before o a after left (replies_ask top (session_node top place) w before o a after (s.replies lt)) begins;
      otherwise = s.otherwise;
    }

    pub answered_later : (p : List RunEvent) (log : List Entry) (q : List RunEvent) → LogChain (SessionReplies top w) p log q → IsBeginning q left → LogChain (SessionReplies top (run top left)) p log q
    answered_later p [] q c begins = c
    answered_later p (e ∷ log) q c begins = (
      c.0,
      replied_later e.place p e.exchange.asked e.exchange.told c.0 c.1 (begins_so c.0 q left (answered_begins c.0 log q c.2) begins),
      answered_later c.0 log q c.2 begins,
    )

-- nothing happened
pub answered_none : (a : WorldValue) → AreAnswered a a
answered_none a = ([], refl)

-- and then more is answered
pub answered_then : (a b c : WorldValue) → is_topology a.top.dcs a.top.shards a.top.homes ≡ true → b.top ≡ a.top → c.top ≡ a.top → AreAnswered a b → AreAnswered b c → AreAnswered a c
answered_then a b c limits t u h k =
    let some = (stands a.top limits).some in
    let next : LogChain (SessionReplies a.top (run_of c)) b.events k.0 c.events = subst (λ (z : TopologyValue). LogChain (SessionReplies z (run_of c)) b.events k.0 c.events) t k.1 in
    let first : LogChain (SessionReplies a.top (run a.top c.events)) a.events h.0 b.events =
    answered_later a.top (run_of b) some c.events a.events h.0 b.events h.1 (answered_begins a.top (run_of c) b.events k.0 c.events next) in
    let then : LogChain (SessionReplies a.top (run_of c)) a.events h.0 b.events = subst (λ (z : TopologyValue). LogChain (SessionReplies a.top (run z c.events)) a.events h.0 b.events) (sym u) first in
    (h.0 ++ k.0, log-then (SessionReplies a.top (run_of c)) a.events h.0 b.events k.0 c.events then next)

-- ## Turns and runs

pub turns_mean : {L : Type 0} (line : L → ReadyValue) (x y : List (Option (Connection L))) (p q : SessionsValue) → 0 < p.world.top.shards → ((log : List Entry) × Turns line IsSessionStep log x p y q)
    → (log : List Entry) × Turns line (SessionReplies p.world.top (run q.world.top q.world.events)) log x p.world.events y q.world.events
turns_mean line x y p q some h = (h.0, record { chain = log_means p h.0 q some h.1.chain; places = h.1.places })

pub turns_same : {L : Type 0} (line : L → ReadyValue) (x y : List (Option (Connection L))) (p q : SessionsValue) → ((log : List Entry) × Turns line IsSessionStep log x p y q) → IsSameWorld p q
turns_same line x y p q h = log_same p h.0 q h.1.chain

run_means : {L : Type 0} (line : L → ReadyValue) (lines : List L) (gone : List (Gone L)) (places : List (Option (Connection L))) (p q : SessionsValue) → 0 < p.world.top.shards → RanFor line IsSessionStep lines gone p places q
    → RanFor line (SessionReplies p.world.top (run q.world.top q.world.events)) lines gone p.world.events places q.world.events
run_means line lines gone places p q some h = (h.0, h.1, h.2, record { chain = log_means p h.2 q some h.3.chain; lives = h.3.lives })

-- all that the port was asked is answered
pub chain_means : (p q : SessionsValue) → 0 < p.world.top.shards → ((log : List Entry) × LogChain IsSessionStep p log q) → AreAnswered p.world q.world
chain_means p q some h = (h.0, log_means p h.0 q some h.1)

pub chain_same : (p q : SessionsValue) → ((log : List Entry) × LogChain IsSessionStep p log q) → IsSameWorld p q
chain_same p q h = log_same p h.0 q h.1

pub ran_means : {L E : Type 0} (line : L → ReadyValue) (lines : List L) (p q : SessionsValue) → 0 < p.world.top.shards → (r : Result (Run L) E) → IfOk r (λ x. RanFor line IsSessionStep lines x.gone.items p x.places.places.items q)
    → IfOk r (λ x. RanFor line (SessionReplies p.world.top (run q.world.top q.world.events)) lines x.gone.items p.world.events x.places.places.items q.world.events)
ran_means line lines p q some (Ok x) h = run_means line lines x.gone.items x.places.places.items p q some h
ran_means line lines p q some (Err e) h = tt

-- turns of the port of a host, which settled first as the host does
pub turns_settled : {W L K T : Type 0} (line : L → ReadyValue) (kept : W → K) (settles : W → Result (Unit {0}) Fault → W → Type 0) (x : List (Option (Connection L))) (p : WorldSessions W) (y : List (Option (Connection L))) (q : WorldSessions W) (r : Result T Fault)
    → SettledFirst line (λ (s : WorldSessions W). kept s.world.now) (λ (s : WorldSessions W) (went : Result (Unit {0}) Fault) (t : WorldSessions W). settles s.world.now went t.world.now) x p y q r
    → SettledFirst line kept settles x p.world.now y q.world.now r
turns_settled line kept settles x p y q r h = (h.0.world.now, h.1, h.2)

-- What a round makes of a world, by what it makes of the port of its sessions; and that all of it still holds later.
use Rattle.std.proofs.Common.{◌≡◌, ◌∙◌, true, ℕ, zero, suc, ◌<◌, List, [], ◌∷◌, Option, Result, Ok, Err, OnOk, ◌⊎◌, inl, inr, ap, sym, subst, append-nil}
use Rattle.logical_time.specs.declared.fault.Fault.{Fault}
use Rattle.messages.specs.declared.op.Op.{Op}
use Rattle.messages.specs.Topology.{TopologyValue, is_topology}
use Rattle.wire.specs.Replies.{Reply}
use Rattle.readiness.specs.declared.connection.Connection.{Connection}
use Rattle.readiness.specs.Lines.{ReadyValue}
use Rattle.readiness.specs.Exchanges.{Entry, LogChain}
use Rattle.readiness.specs.Places.{AreSilent}
use Rattle.world.specs.declared.run_event.RunEvent.{RunEvent}
use Rattle.world.specs.declared.run_event.RunEvent.TheVariants.{Collect}
use Rattle.world.specs.Run.{run}
use Rattle.world.specs.Journals.{IsBeginning}
use Rattle.world.specs.World.{WorldValue, run_of}
use Rattle.world.proofs.envelopes.Addresses.{stands}
use Rattle.present.specs.AtRest.{AreTidied}
use Rattle.service.specs.Sessions.{SessionReplies}
use Rattle.service.proofs.Meant.{begins_so}
use Rattle.service.specs.declared.sessions.WorldSessions.{WorldSessions}
use Rattle.service.proofs.Together.{answered_later, turns_settled}
use Rattle.doors.specs.declared.listening.Doors.{Doors}
use Rattle.doors.specs.Rounds.{Round, RoundSettled}
use Rattle.doors.specs.Spans.{Spans}
use Rattle.server.specs.Serving.{HasRested}

-- where it was refused nothing is claimed, so what follows from what is claimed may be claimed
pub on_ok : {T E P Q : Type 0} (r : Result T E) → (P → Q) → OnOk r P → OnOk r Q
on_ok (Ok x) f h = f h
on_ok (Err e) f h = tt

-- ## Another way to see a port

module _ {L D : Type 0} (seen : L → ReadyValue) (gives : D → Option L → D → Type 0) {P Q : Type 0} (asks : ℕ → P → Op → Reply → P → Type 0) (tells : ℕ → Q → Op → Reply → Q → Type 0) where
  pub spans_by : (idle : Option ℕ) (d e : D) (old new : List (Option (Connection L))) (p q : P) (u v : Q) → (s : Spans seen asks gives idle d old p e new q) → LogChain tells u s.log v → Spans seen tells gives idle d old u e new v
  spans_by idle d e old new p q u v s chain = record {
    log = s.log;
    chain = chain;
    admitted = s.admitted;
    left = s.left;
    calls = s.calls;
    door = s.door;
    given = s.given;
    ended = s.ended;
    lives = s.lives;
  }

module _ {L D : Type 0} (limit : ℕ) (seen : L → ReadyValue) (nobody announces : D → Type 0) {P Q : Type 0} (asks : ℕ → P → Op → Reply → P → Type 0) (tells : ℕ → Q → Op → Reply → Q → Type 0) where
  pub round_by : (now : ℕ) (log : List Entry) (old new : Doors L D) (p q : P) (u v : Q) → Round limit seen asks nobody announces now log old p new q → LogChain tells u log v
      → Round limit seen tells nobody announces now log old u new v
  round_by now log old new p q u v r chain = record {
    turned = r.turned;
    closed = r.closed;
    left = r.left;
    over = r.over;
    turns = record { chain = chain; places = r.turns.places };
    rests = r.rests;
    leaves = r.leaves;
    away = r.away;
    marked = r.marked;
    room = r.room;
    comes = r.comes;
    fresh = r.fresh;
  }

-- ## Collections at rest only add events

tidied_begins : (top : TopologyValue) (n : ℕ) (before after : List RunEvent) → AreTidied top n before after → IsBeginning before after
tidied_begins top zero before after t = ([], t ∙ sym (append-nil before))
tidied_begins top (suc n) before after (between, t, is) = begins_so before between after (tidied_begins top n before between t) (Collect n ((run top between).shards n).clock ∷ [], is)

pub rested_begins : (top : TopologyValue) (before after : List RunEvent) → HasRested top before after → IsBeginning before after
rested_begins top before after (inl same) = ([], same ∙ sym (append-nil before))
rested_begins top before after (inr (quiet, n, t)) = tidied_begins top n before after t

-- ## What was answered, later

-- what each reply means, it means in the later world too
pub chain_later : (old mid new : WorldValue) (log : List Entry) → 0 < old.top.shards → new.top ≡ old.top → IsBeginning mid.events new.events → LogChain (SessionReplies old.top (run_of mid)) old.events log mid.events
    → LogChain (SessionReplies old.top (run_of new)) old.events log mid.events
chain_later old mid new log some same begins chain =
    subst (λ (z : TopologyValue). LogChain (SessionReplies old.top (run z new.events)) old.events log mid.events) (sym same)
    (answered_later old.top (run_of mid) some new.events old.events log mid.events chain begins)

-- shards rested in this world's topology
pub rested_in : (old mid new : WorldValue) → mid.top ≡ old.top → HasRested mid.top mid.events new.events → HasRested old.top mid.events new.events
rested_in old mid new same rested = subst (λ (z : TopologyValue). HasRested z mid.events new.events) same rested

-- the topology has a shard
pub has_shard : (old new : WorldValue) → new.top ≡ old.top → is_topology new.top.dcs new.top.shards new.top.homes ≡ true → 0 < old.top.shards
has_shard old new same limits = subst (λ (z : TopologyValue). 0 < z.shards) same (stands new.top limits).some

-- a round of the port of a host, which settled first as the host does
pub round_settled : {W L K T : Type 0} (line : L → ReadyValue) (kept : W → K) (settles : W → Result (Unit {0}) Fault → W → Type 0) (x : List (Option (Connection L))) (p : WorldSessions W) (y : List (Option (Connection L))) (q : WorldSessions W) (r : Result T Fault)
    → RoundSettled line (λ (s : WorldSessions W). kept s.world.now) (λ (s : WorldSessions W) (went : Result (Unit {0}) Fault) (t : WorldSessions W). settles s.world.now went t.world.now) x p y q r
    → RoundSettled line kept settles x p.world.now y q.world.now r
round_settled {W = W} line kept settles x p y q r (inl h) = inl (h.0, ap (λ (s : WorldSessions W). s.world.now) h.1)
round_settled line kept settles x p y q r (inr h) = inr (turns_settled line kept settles x p y q r h)

-- what was settled before a round lasts
pub lasts_round : {W L K T : Type 0} (line : L → ReadyValue) (kept : W → K) (settles : W → Result (Unit {0}) Fault → W → Type 0) (lasts : K → K → Type 0) → ((k : K) → lasts k k) → ((a : W) (went : Result (Unit {0}) Fault) (b : W) → settles a went b → lasts (kept a) (kept b))
    → (x : List (Option (Connection L))) (p : W) (y : List (Option (Connection L))) (q : W) (r : Result T Fault) → RoundSettled line kept settles x p y q r → (w : W) → kept w ≡ kept q → lasts (kept p) (kept w)
lasts_round {W = W} {K = K} line kept settles lasts same settled x p y q r (inl h) w is = subst (λ (k : K). lasts (kept p) k) (sym (is ∙ ap kept h.1)) (same (kept p))
lasts_round {W = W} {K = K} line kept settles lasts same settled x p y q r (inr h) w is =
    subst (λ (k : K). lasts (kept p) k) (sym is) (subst (λ (k : K). lasts k (kept q)) h.1 (settled_either h.2))
  where
    settled_either : (settles h.0 (Ok tt) q ⊎ ((f : Fault) × settles h.0 (Err f) q × AreSilent line x y × (r ≡ Err f))) → lasts (kept h.0) (kept q)
    settled_either (inl s) = settled h.0 (Ok tt) q s
    settled_either (inr s) = settled h.0 (Err s.0) q s.1

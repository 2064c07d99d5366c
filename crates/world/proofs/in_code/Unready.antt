-- Why an event is refused where there is no memory for it: as the run refuses it, and else for want of memory.
use Rattle.std.proofs.Common.{◌≡◌, ◌∙◌, ℕ, ◌+◌, ◌^◌, ◌<◌, ◌≤◌, ◌-◌, max, Bool, true, false, List, length, slice_get, Option, Some, None, Result, Ok, Err, refl, sym, ap, subst, arith}
use Rattle.std.specs.Prelude.{nat_lt, if◌then◌else◌, IsOk}
use Rattle.std.proofs.lemmas.Bool.Decides.{nat_tests}
use Rattle.std.proofs.lemmas.Bool.{false≢true}
use Rattle.logical_time.specs.declared.fault.Fault.{Fault}
use Rattle.logical_time.specs.declared.fault.Fault.TheVariants.{ClockSpent, Memory}
use Rattle.messages.specs.declared.envelope.Envelope.{Envelope}
use Rattle.messages.specs.declared.op.Op.{Op}
use Rattle.messages.specs.Clock.{ticked, on_clock}
use Rattle.messages.specs.Topology.{TopologyValue, is_shard, shard_count}
use Rattle.messages.specs.Session.{SessionState, SessionStep}
use Rattle.messages.specs.Submitting.{session_submit}
use Rattle.messages.specs.SessionEvents.{heard}
use Rattle.messages.specs.ShardEvents.{handled, collected}
use Rattle.shard.specs.declared.kept.ShardKept.{ShardKept}
use Rattle.shard.specs.Kept.{IsSpentOrMemory}
use Rattle.client.specs.Represents as session
use Rattle.world.specs.declared.actors.Actors.{Actors}
use Rattle.world.specs.declared.station.Station.{Station}
use Rattle.world.specs.Run.{Run, RunEvent, Submit, Deliver, Collect, run}
use Rattle.world.specs.Refusals.{Refused, NoSuchActor, refused_by, refusal_of, clock_at}
use Rattle.world.specs.Holds.{IsRunning}
use Rattle.world.specs.World.{IsRefusedAs}
use Rattle.world.proofs.in_code.Opened.{submit_refuses}
use Rattle.world.proofs.in_code.Taking.{at_node, below_count, session_at, shard_refusal, session_refusal}

-- ## Clocks

pub spent : (clock time : ℕ) (e : Fault) → e ≡ ClockSpent → 2 ^ 48 ≤ max clock time + 1 → IsSpentOrMemory (ticked clock time) e
spent clock time e is le = go (nat_lt (max clock time + 1) (2 ^ 48)) (grind (arith, nat_tests))
  where
    go : (b : Bool) → b ≡ false → IsSpentOrMemory (if b then Some (max clock time + 1) else None) e
    go false h = is
    go true h = absurd (cc)

pub unspent : (clock time : ℕ) → max clock time + 1 < 2 ^ 48 → IsSpentOrMemory (ticked clock time) Memory
unspent clock time lt = go (nat_lt (max clock time + 1) (2 ^ 48)) (grind (arith, nat_tests))
  where
    go : (b : Bool) → b ≡ true → IsSpentOrMemory (if b then Some (max clock time + 1) else None) Memory
    go true h = refl
    go false h = absurd (cc)

-- an actor's step at a clock is refused for its clock alone
on_time : {S : Type 0} (t : Option ℕ) (step : ℕ → S) (e : Fault) → IsSpentOrMemory t e → IsRefusedAs (refused_by (on_clock t step)) e
on_time None step e is = ap Refused (sym is)
on_time (Some n) step e is = is

module _ (top : TopologyValue) (events : List RunEvent) (a : Actors) (is : IsRunning top (run top events) a) where
  pub shard_clock : (node place : ℕ) (k : ShardKept) → place ≡ node → place < length a.shards.items → slice_get a.shards.items place ≡ Some k
      → clock_at top (run top events) node ≡ k.clock
  shard_clock node place k to lt at =
      let near : is_shard top node ≡ true = subst (λ z. is_shard top z ≡ true) to (below_count top a.shards.items place is.shards.len lt) in
      ap (λ b. if b then ((run top events).shards node).clock else ((run top events).sessions node).clock) near
      ∙ ap (λ z. ((run top events).shards z).clock) (sym to) ∙ (is.shards.each place k at).clock

  pub station_clock : (node i : ℕ) (s : Station) → node ≡ length a.shards.items + i → i < length a.stations.items → slice_get a.stations.items i ≡ Some s
      → clock_at top (run top events) node ≡ s.session.clock
  station_clock node i s to lt at =
      let n = at_node top events i a s node is at to in
      let kind = session_at top node i n.0 (subst (λ z. i < z) is.stations.len lt) in
      ap (λ b. if b then ((run top events).shards node).clock else ((run top events).sessions node).clock) kind.0 ∙ ap (λ (z : SessionState). z.clock) n.2.state

  -- ## Events

  pub delivery_unready : (k clock : ℕ) (e : Envelope) (f : Fault) → slice_get a.network.sent k ≡ Some e → e.to < length a.shards.items + length a.stations.items
      → clock_at top (run top events) e.to ≡ clock → IsSpentOrMemory (ticked clock e.time) f → IsRefusedAs (refusal_of top (run top events) (Deliver k)) f
  delivery_unready k clock e f sent within at spent = go (is_shard top e.to) refl
    where
      w : Run
      w = run top events

      there : slice_get w.sent k ≡ Some e
      there = ap (λ l. slice_get l k) is.sent ∙ sent

      here : IsSpentOrMemory (ticked (clock_at top w e.to) e.time) f
      here = subst (λ c. IsSpentOrMemory (ticked c e.time) f) (sym at) spent

      other : (n s : ℕ) → e.to < n + s → n ≤ e.to → e.to - n < s
      other n s lt le = omega arith

      back : (n : ℕ) → n ≤ e.to → e.to ≡ n + (e.to - n)
      back n le = omega arith

      go : (b : Bool) → is_shard top e.to ≡ b → IsRefusedAs (refusal_of top w (Deliver k)) f
      go true near =
          subst (λ z. IsRefusedAs z f) (sym (shard_refusal top w k e there near))
          (on_time (ticked (w.shards e.to).clock e.time) (λ n. handled top e.to n (w.shards e.to) e.from e.body) f
          (subst (λ b. IsSpentOrMemory (ticked (if b then (w.shards e.to).clock else (w.sessions e.to).clock) e.time) f) near here))
      go false far =
          let le : length a.shards.items ≤ e.to = from_there (length a.shards.items) is.shards.len far in
          let n = length a.shards.items in
          let i = e.to - n in
          let to : e.to ≡ shard_count top + i = back n le ∙ ap (λ z. z + i) is.shards.len in
          let kind = session_at top e.to i to (subst (λ z. i < z) is.stations.len (other n (length a.stations.items) within le)) in
          subst (λ z. IsRefusedAs z f) (sym (session_refusal top w k e there kind.0 kind.1))
          (on_time (ticked (w.sessions e.to).clock e.time) (λ m. heard top e.to m (w.sessions e.to) e.from e.body) f
          (subst (λ b. IsSpentOrMemory (ticked (if b then (w.shards e.to).clock else (w.sessions e.to).clock) e.time) f) far here))
        where
          from_there : (n : ℕ) → n ≡ shard_count top → is_shard top e.to ≡ false → n ≤ e.to
          from_there n len is = grind (arith, nat_tests)

  pub collection_unready : (node clock time : ℕ) (f : Fault) → node < length a.shards.items → clock_at top (run top events) node ≡ clock
      → IsSpentOrMemory (ticked clock clock) f → IsRefusedAs (refusal_of top (run top events) (Collect node time)) f
  collection_unready node clock time f lt at spent =
      let w = run top events in
      let near : is_shard top node ≡ true = below_count top a.shards.items node is.shards.len lt in
      let same : (w.shards node).clock ≡ clock = ap (λ b. if b then (w.shards node).clock else (w.sessions node).clock) (sym near) ∙ at in
      subst (λ b. IsRefusedAs (if b then refused_by (on_clock (ticked (w.shards node).clock (w.shards node).clock) (λ n. collected n (w.shards node) time)) else Some NoSuchActor) f) (sym near)
      (on_time (ticked (w.shards node).clock (w.shards node).clock) (λ n. collected n (w.shards node) time) f
      (subst (λ c. IsSpentOrMemory (ticked c c) f) (sym same) spent))

  pub submission_unready : (node i : ℕ) (o : Op) (s : Station) (f : Fault) → node ≡ length a.shards.items + i → slice_get a.stations.items i ≡ Some s → i < length a.stations.items
      → ((top' : TopologyValue) (z : SessionState) → session.Represents s.session top' z → session.IsRefusalOf (session_submit top' s.session.node z o) f)
      → IsRefusedAs (refusal_of top (run top events) (Submit node o)) f
  submission_unready node i o s f to at lt refused = submit_refuses top events i node o a s f is to at lt refused

-- what a check of the operation answers
pub acceptable : (r : Result SessionStep Fault) → IsOk r → session.IsRefusalOf r Memory
acceptable (Ok s) is = refl
acceptable (Err e) is = absurd (false≢true is)

pub unacceptable : (r : Result SessionStep Fault) (e : Fault) → r ≡ Err e → session.IsRefusalOf r e
unacceptable r e is = subst (λ z. session.IsRefusalOf z e) (sym is) refl

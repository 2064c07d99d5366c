-- Where journals have handled all that the actors of a data centre sent each other, each run of them is quiet among these.
use Rattle.std.proofs.Common.{◌≡◌, ◌∙◌, ℕ, ◌<◌, Bool, true, false, List, Option, Some, None, inl, inr, refl, sym, ap, subst, slice_get, eq-eqb}
use Rattle.std.specs.Prelude.{◌==◌, if◌then◌else◌, option_and_then, Contains}
use Rattle.messages.specs.declared.envelope.Envelope.{Envelope}
use Rattle.messages.specs.declared.event.ActorEvent.{ActorEvent}
use Rattle.messages.specs.declared.event.ActorEvent.TheVariants.{Submit as SubmitHere, Handle, Collect as CollectHere}
use Rattle.messages.specs.Topology.{TopologyValue, is_topology, is_session, node_count, home_of}
use Rattle.messages.specs.Actors.{sent_in, sent_by}
use Rattle.store.proofs.lists.Lists.{given, given_only}
use Rattle.world.specs.Run.{Run, RunEvent, Submit, Deliver, Collect, run}
use Rattle.world.specs.Quiet.{number_delivered, WasHandled}
use Rattle.world.specs.Journals.{event_at, journal_in, sent_from, IsRunOf}
use Rattle.world.specs.Local.{IsActorOf, IsLocallyQuiet, AreHandledHere}
use Rattle.world.proofs.lists.Members.{contains_filter}
use Rattle.world.proofs.envelopes.Addresses.{stands}
use Rattle.world.proofs.steps.Moves.{shard_node_counts, session_node_counts}
use Rattle.world.proofs.replays.OwnJournals.{run_journals}

-- what was opened in a data centre is a session
pub opened_session : (top : TopologyValue) (dc node : ℕ) → home_of top node ≡ Some dc → is_session top node ≡ true
opened_session top dc node is = go (is_session top node) refl
  where
    none : (b : Bool) → is_session top node ≡ b → b ≡ false → home_of top node ≡ None
    none b q f = rw (q ∙ f) refl

    clash : home_of top node ≡ None → is_session top node ≡ true
    clash q = let n : None ≡ Some dc = sym q ∙ is in absurd (cc)

    go : (b : Bool) → is_session top node ≡ b → is_session top node ≡ true
    go true q = q
    go false q = clash (none false q refl)

pub actor_counts : (top : TopologyValue) (dc node : ℕ) → IsActorOf top dc node → node < node_count top
actor_counts top dc node (inl is) = shard_node_counts top node is.0
actor_counts top dc node (inr is) = session_node_counts top node (opened_session top dc node is)

-- what stands in an actor's journal was handled in the run
handled_by_journal : (w : Run) (node : ℕ) (e : Envelope) → Contains (journal_in w node) (Handle e) → WasHandled w e
handled_by_journal w node e m =
    let g = given_only (event_at w node) w.events (Handle e) m in
    go g.0 g.1 g.2
  where
    one : (f : Envelope) (b : Bool) → (if b then Some (Handle f) else None) ≡ Some (Handle e) → f ≡ e
    one f true q = cc
    one f false q = absurd (cc)

    found : (o : Option Envelope) → option_and_then (λ (f : Envelope). if f.to == node then Some (Handle f) else None) o ≡ Some (Handle e) → o ≡ Some e
    found None q = absurd (cc)
    found (Some f) q = ap Some (one f (f.to == node) q)

    if_not : (b : Bool) (x : ActorEvent) → (x ≡ Handle e → ⊥) → (if b then Some x else None) ≡ Some (Handle e) → ⊥
    if_not true x not q = not (let same : x ≡ Handle e = cc in same)
    if_not false x not q = absurd (cc)

    go : (ev : RunEvent) → Contains w.events ev → event_at w node ev ≡ Some (Handle e) → WasHandled w e
    go (Submit session o) has q = absurd (if_not (session == node) (SubmitHere o) (λ same. cc) q)
    go (Deliver k) has q = (k, given number_delivered w.events (Deliver k) k has refl, found (slice_get w.sent k) q)
    go (Collect shard time) has q = absurd (if_not (shard == node) (CollectHere time) (λ same. cc) q)

pub handled_here : (top : TopologyValue) (journals : ℕ → List ActorEvent) (events : List RunEvent) (dc : ℕ) → is_topology top.dcs top.shards top.homes ≡ true
    → IsRunOf top journals events → AreHandledHere top dc journals → IsLocallyQuiet top dc (run top events)
handled_here top journals events dc ok is all e m from to =
    let w = run top events in
    let law = (run_journals top events (stands top ok).some).each e.from in
    let sends : sent_by top e.from (journals e.from) ≡ sent_from w e.from =
    ap (λ l. sent_by top e.from l) (sym (is.each e.from (actor_counts top dc e.from from))) ∙ ap sent_in law in
    let own = contains_filter (λ (z : Envelope). z.from == e.from) w.sent e m (eq-eqb e.from e.from refl) in
    let got = all e from to (subst (λ l. Contains l e) (sym sends) own) in
    handled_by_journal w e.to e (subst (λ l. Contains l (Handle e)) (sym (is.each e.to (actor_counts top dc e.to to))) got)

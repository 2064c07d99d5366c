-- The chain of a port's steps, as one of moments of its world.
use Rattle.std.proofs.Common.{◌≡◌, ◌∙◌, ℕ, ◌<◌, true, List, [], ◌∷◌, refl, ap, sym, subst}
use Rattle.messages.specs.declared.op.Op.{Op}
use Rattle.messages.specs.Topology.{TopologyValue, is_session}
use Rattle.wire.specs.Replies.{Reply}
use Rattle.front.specs.declared.ended.Ended.{Ended}
use Rattle.front.specs.Lines.{LineValue}
use Rattle.front.specs.Ports.{Chain}
use Rattle.front.specs.Served.{Served}
use Rattle.world.specs.Run.{run}
use Rattle.world.specs.World.{run_of}
use Rattle.service.specs.declared.port.WorldPort.{WorldPort}
use Rattle.service.specs.Port.{Asks, IsPortStep}
use Rattle.service.specs.Meaning.{Replies}
use Rattle.service.proofs.Chains.{served_by, served_led}
use Rattle.service.proofs.Meant.{chain_means}

-- the port is of the same session of the same world
pub record IsSamePort (p q : WorldPort) : Type 0 where
  pub world : q.world.ghost_name ≡ p.world.ghost_name
  pub session : q.session ≡ p.session
  pub topology : q.world.now.top ≡ p.world.now.top

same_then : (p q r : WorldPort) → IsSamePort p q → IsSamePort q r → IsSamePort p r
same_then p q r f g = record { world = g.world ∙ f.world; session = g.session ∙ f.session; topology = g.topology ∙ f.topology }

step_same : (p : WorldPort) (o : Op) (a : Reply) (q : WorldPort) → IsPortStep p o a q → IsSamePort p q
step_same p o a q s = record { world = s.same_world; session = s.session; topology = s.topology }

chain_same : (p : WorldPort) (ops : List Op) (answers : List Reply) (q : WorldPort) → Chain IsPortStep p ops answers q → IsSamePort p q
chain_same p [] [] q c = subst (IsSamePort p) c (record { world = refl; session = refl; topology = refl })
chain_same p [] (a ∷ answers) q c = absurd c
chain_same p (o ∷ ops) [] q c = absurd c
chain_same p (o ∷ ops) (a ∷ answers) q c = same_then p c.0 q (step_same p o a c.0 c.1) (chain_same c.0 ops answers q c.2)

answered : (top : TopologyValue) (session : ℕ) (p : WorldPort) (ops : List Op) (answers : List Reply) (q : WorldPort) → p.world.now.top ≡ top → p.session ≡ session
    → is_session top session ≡ true → Chain IsPortStep p ops answers q → Chain (Asks top session) p.world.now.events ops answers q.world.now.events
answered top session p [] [] q t s here c = ap (λ (z : WorldPort). z.world.now.events) c
answered top session p [] (a ∷ answers) q t s here c = absurd c
answered top session p (o ∷ ops) [] q t s here c = absurd c
answered top session p (o ∷ ops) (a ∷ answers) q t s here c =
    let r = c.0 in
    let step = c.1 in
    let at = step.asks (ap (λ z. is_session z p.session) t ∙ (ap (is_session top) s ∙ here)) in (
      r.world.now.events,
      subst (λ z. Asks z session p.world.now.events o a r.world.now.events) t (subst (λ z. Asks p.world.now.top z p.world.now.events o a r.world.now.events) s at),
      answered top session r ops answers q (step.topology ∙ t) (step.session ∙ s) here c.2,
    )

module _ (top : TopologyValue) (session : ℕ) (some : 0 < top.shards) (here : is_session top session ≡ true) (p q : WorldPort) (t : p.world.now.top ≡ top) (s : p.session ≡ session)
    (result : Ended) (old new : LineValue) (served : Served IsPortStep result old p new q) where
  pub same_after : IsSamePort p q
  same_after =
      let l = served_led IsPortStep p q result old new served in
      chain_same p l.0 l.1 q l.2

  -- what was served was served by the world, and each answer keeps its meaning
  pub served_means : Served (Replies top session (run top q.world.now.events)) result old p.world.now.events new q.world.now.events
  served_means =
      served_by IsPortStep (Replies top session (run top q.world.now.events)) p q p.world.now.events q.world.now.events
      (λ ops answers c. chain_means top session some p.world.now.events ops answers q.world.now.events (answered top session p ops answers q t s here c)) result old new served

-- and by the run of the world as it is then
pub served_then : (top : TopologyValue) (session : ℕ) (some : 0 < top.shards) (here : is_session top session ≡ true) (p q : WorldPort) (t : p.world.now.top ≡ top) (s : p.session ≡ session)
    → (result : Ended) (old new : LineValue) → Served IsPortStep result old p new q → Served (Replies top session (run_of q.world.now)) result old p.world.now.events new q.world.now.events
served_then top session some here p q t s result old new served =
    let same : q.world.now.top ≡ top = (same_after top session some here p q t s result old new served).topology ∙ t in
    subst (λ z. Served (Replies top session (run z q.world.now.events)) result old p.world.now.events new q.world.now.events) (sym same)
    (served_means top session some here p q t s result old new served)

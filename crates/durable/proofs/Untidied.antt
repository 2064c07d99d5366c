-- Why not each shard collects.
use Rattle.std.proofs.Common.{◌≡◌, ℕ, ◌<◌, List, Result, Err, refl, sym, subst, ◌⊎◌, inl, inr, IfErr}
use Rattle.logical_time.specs.declared.fault.Fault.{Fault}
use Rattle.logical_time.specs.declared.fault.Fault.TheVariants.{Memory, ClockSpent}
use Rattle.messages.specs.Topology.{TopologyValue, shard_count}
use Rattle.world.specs.declared.run_event.RunEvent.{RunEvent}
use Rattle.world.specs.declared.run_event.RunEvent.TheVariants.{Collect}
use Rattle.world.specs.World.{WorldValue, run_of, refusal_in, IsRefusedAs}
use Rattle.present.specs.AtRest.{AreTidied, IsTidiedUntil}
use Rattle.present.proofs.Tidied.{tidied_until}

-- the shards before this one are tidied, and it isn't, for want of memory or as its clock is spent
abbrev pub IsUntidied : TopologyValue → List RunEvent → List RunEvent → Fault → Type 0
IsUntidied top before after e = (e ≡ Memory) ⊎ ((e ≡ ClockSpent) × IsTidiedUntil top before after)

why_not : (top : TopologyValue) (n : ℕ) (before : List RunEvent) (v u : WorldValue) (f : Fault) → v.top ≡ top → n < shard_count top → AreTidied top n before v.events → u ≡ v
    → (f ≡ Memory) ⊎ ((f ≡ ClockSpent) × IsRefusedAs (refusal_in v (Collect n ((run_of v).shards n).clock)) f) → IsUntidied top before u.events f
why_not top n before v u f same lt so still (inl none) = inl none
why_not top n before v u f same lt so still (inr spent) = inr (spent.0, tidied_until top n n before v u f same refl lt so still spent.1 spent.0)

pub untidied : {X : Type 0} (r : Result X Fault) (top : TopologyValue) (n : ℕ) (before : List RunEvent) (v u : WorldValue) (f : Fault) → r ≡ Err f → v.top ≡ top → n < shard_count top → AreTidied top n before v.events → u ≡ v
    → (f ≡ Memory) ⊎ ((f ≡ ClockSpent) × IsRefusedAs (refusal_in v (Collect n ((run_of v).shards n).clock)) f) → IfErr r (IsUntidied top before u.events)
untidied {X = X} r top n before v u f is same lt so still why = subst (λ (z : Result X Fault). IfErr z (IsUntidied top before u.events)) (sym is) (why_not top n before v u f same lt so still why)

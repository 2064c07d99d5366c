-- What a drain makes of a run.
use Rattle.std.specs.Prelude.{◌≡◌, ℕ, zero, suc, ◌+◌, ◌^◌, ◌<◌, ◌≤◌, List, [], ◌∷◌, ◌++◌, length, Some, None, option_map, ◌⊎◌}
use Rattle.std.specs.Option.{unwrap_or}
use Rattle.logical_time.specs.declared.fault.Fault.{Fault}
use Rattle.logical_time.specs.declared.fault.Fault.TheVariants.{Memory}
use Rattle.messages.specs.Topology.{TopologyValue}
use Rattle.world.specs.declared.run_event.RunEvent.{RunEvent}
use Rattle.world.specs.declared.run_event.RunEvent.TheVariants.{Deliver}
use Rattle.world.specs.Run.{Run, step, run}
use Rattle.world.specs.Quiet.{IsQuiet}
use Rattle.world.specs.Settled.{Settled}
use Rattle.world.specs.Lookups.{first_unhandled}
use Rattle.world.specs.World.{WorldValue, run_of, refusal_in, Takes, IsRefusedAs}
use Rattle.world.specs.Refusals.{Refused, refusal_of}
use Rattle.world.specs.Drains.{deliveries_left}

-- the deliveries of a drain, at most so many: each time the first message that was not handled, until there is none
unfoldable pub deliveries : TopologyValue → ℕ → Run → List RunEvent
deliveries top zero w = []
deliveries top (suc n) w = unwrap_or (option_map (λ k. Deliver k ∷ deliveries top n (step top w (Deliver k))) (first_unhandled w)) []

-- none of these events is refused, one after the other
abbrev pub AreAllowed : TopologyValue → Run → List RunEvent → Type 0
AreAllowed top w [] = Unit {0}
AreAllowed top w (x ∷ xs) = (refusal_of top w x ≡ None) × AreAllowed top (step top w x) xs

-- The events of a run went on by so many deliveries: each time the first message that was not handled, until there was
-- none, or 1,000,000 were delivered. None was refused.
pub record IsDrained (top : TopologyValue) (before after : List RunEvent) (count : ℕ) : Type 0 where
  pub happened : after ≡ before ++ deliveries top 1000000 (run top before)
  pub number : count ≡ length (deliveries top 1000000 (run top before))
  pub allowed : AreAllowed top (run top before) (deliveries top 1000000 (run top before))

-- They went on by the first of these deliveries, and the next one was refused for this, or for want of memory.
pub record IsDrainedUntil (top : TopologyValue) (before after : List RunEvent) (fault : Fault) : Type 0 where
  pub done : List RunEvent
  pub next : ℕ
  pub rest : List RunEvent
  pub drain : deliveries top 1000000 (run top before) ≡ done ++ Deliver next ∷ rest
  pub happened : after ≡ before ++ done
  pub allowed : AreAllowed top (run top before) done
  pub refused : (fault ≡ Memory) ⊎ (refusal_of top (run top after) (Deliver next) ≡ Some (Refused fault))

-- A drain that delivered fewer than it may has left nothing: all is handled and done.
pub record LeavesNothing (top : TopologyValue) (after : List RunEvent) : Type 0 where
  pub quiet : IsQuiet (run top after)
  pub settled : Settled top (run top after)

-- What is left is within what a drain delivers, and clocks have room for it.
pub record HasRoom (top : TopologyValue) (before : List RunEvent) : Type 0 where
  pub within : deliveries_left top (run top before) ≤ 1000000
  pub clocks : length (run top before).events + deliveries_left top (run top before) < 2 ^ 48

-- ## One delivery

-- the first message that was not handled is delivered
abbrev pub IsDelivery : WorldValue → WorldValue → Type 0
IsDelivery old new = (k : ℕ) × (first_unhandled (run_of old) ≡ Some k) × Takes old (Deliver k) new

-- its delivery is refused for this, and nothing happens
abbrev pub IsStopped : WorldValue → WorldValue → Fault → Type 0
IsStopped old new fault = (k : ℕ) × (first_unhandled (run_of old) ≡ Some k) × IsRefusedAs (refusal_in old (Deliver k)) fault × (new ≡ old)

-- there is none: all is done, and nothing happens
abbrev pub IsDone : WorldValue → WorldValue → Type 0
IsDone old new = (first_unhandled (run_of old) ≡ None) × Settled old.top (run_of old) × (new ≡ old)

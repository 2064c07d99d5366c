-- Collections at rest: each when all that was sent was handled. None of them gives up a read.
use Rattle.std.specs.Prelude.{◌≡◌, ℕ, zero, suc, ◌<◌, ◌≤◌, List, [], ◌∷◌, ◌++◌, Some, Contains}
use Rattle.logical_time.specs.declared.fault.Fault.TheVariants.{ClockSpent}
use Rattle.messages.specs.declared.outcome.Outcome.TheVariants as outcome
use Rattle.messages.specs.Topology.{TopologyValue, shard_count}
use Rattle.world.specs.declared.run_event.RunEvent.{RunEvent}
use Rattle.world.specs.declared.run_event.RunEvent.TheVariants.{Submit, Deliver, Collect}
use Rattle.world.specs.declared.completed.Completed.{Completed}
use Rattle.world.specs.Run.{Run, opening, step, run}
use Rattle.world.specs.Quiet.{IsQuiet}
use Rattle.world.specs.Refusals.{Refused, refusal_of}
use Rattle.present.specs.declared.actors.Actors.{Actors}
use Rattle.present.specs.Present.{Holds}

-- a collection comes when the run is quiet, up to a time that its shard's clock has reached
abbrev pub ComesAtRest : Run → RunEvent → Type 0
ComesAtRest w (Submit node o) = Unit {0}
ComesAtRest w (Deliver k) = Unit {0}
ComesAtRest w (Collect node time) = IsQuiet w × (time ≤ (w.shards node).clock)

-- so does each of these events, one after the other
abbrev pub ComeAtRest : TopologyValue → Run → List RunEvent → Type 0
ComeAtRest top w [] = Unit {0}
ComeAtRest top w (x ∷ xs) = ComesAtRest w x × ComeAtRest top (step top w x) xs

-- no read was given up
abbrev pub NoneIsGivenUp : Run → Type 0
NoneIsGivenUp w = (c : Completed) → Contains w.transcript c → c.outcome ≡ outcome.Collected → ⊥

-- So many shards collected, one after the other, each up to the clock that it had.
abbrev pub AreTidied : TopologyValue → ℕ → List RunEvent → List RunEvent → Type 0
AreTidied top zero before after = after ≡ before
AreTidied top (suc n) before after = (between : List RunEvent) × AreTidied top n before between × (after ≡ between ++ Collect n ((run top between).shards n).clock ∷ [])

-- The shards before this one collected so; this one's clock would leave its range.
pub record IsTidiedUntil (top : TopologyValue) (before after : List RunEvent) : Type 0 where
  pub shard : ℕ
  pub below : shard < shard_count top
  pub tidied : AreTidied top shard before after
  pub refused : refusal_of top (run top after) (Collect shard ((run top after).shards shard).clock) ≡ Some (Refused ClockSpent)

-- What is kept stands for the run of these events, and each collection among them came at rest.
abbrev pub StandsAtRest : TopologyValue → List RunEvent → Actors → Type 0
StandsAtRest top told a = Holds top told a × ComeAtRest top (opening top) told

-- What a server makes of its world, of its places and of its door.
use Rattle.std.specs.Prelude.{◌≡◌, ℕ, ◌⊎◌, List, Option, Result}
use Rattle.logical_time.specs.declared.fault.Fault.{Fault}
use Rattle.messages.specs.Topology.{TopologyValue}
use Rattle.readiness.specs.Lines.{ReadyValue}
use Rattle.world.specs.declared.run_event.RunEvent.{RunEvent}
use Rattle.world.specs.Run.{run}
use Rattle.world.specs.Quiet.{IsQuiet}
use Rattle.world.specs.World.{WorldValue, run_of}
use Rattle.present.specs.AtRest.{AreTidied}
use Rattle.service.specs.Sessions.{SessionReplies}
use Rattle.doors.specs.Rounds.{RoundSettled}
use Rattle.doors.specs.Spans.{Spans}
use Rattle.server.specs.declared.server.Server.{Server}

-- nothing happened; or, where nothing waited, so many shards collected, each up to the clock that it had
abbrev pub HasRested : TopologyValue → List RunEvent → List RunEvent → Type 0
HasRested top before after = (after ≡ before) ⊎ (IsQuiet (run top before) × (n : ℕ) × AreTidied top n before after)

-- The lines that the door gave became the connections at places, and what these asked was answered, and then shards may have
-- collected; each outcome has its meaning in the world left behind.
abbrev pub HasSpanned : {W : Type 0} {L : Type 0} {D : Type 0} → (W → WorldValue) → (L → ReadyValue) → (D → Option L → D → Type 0) → Server W L D → Server W L D → Type 0
HasSpanned world seen gives old new =
    (answered : List RunEvent)
    × Spans seen (SessionReplies (world old.world).top (run_of (world new.world))) gives old.doors.idle old.doors.door old.doors.hall.places.places.items (world old.world).events new.doors.door new.doors.hall.places.places.items answered
    × HasRested (world old.world).top answered (world new.world).events

-- All that happened to the world in a round is requests that were answered, and then shards may have collected. These requests are
-- what the connections at places asked, whose lines are told the replies. No line said a byte more before the world had settled
-- behind them; and it keeps nothing for good in any other way.
pub record HasAnswered {W L D K : Type 0} (world : W → WorldValue) (kept : W → K) (settles : W → Result (Unit {0}) Fault → W → Type 0) (seen : L → ReadyValue) (gives : D → Option L → D → Type 0) (old new : Server W L D) (went : Result (Unit {0}) Fault) : Type 0 where
  pub asked : W
  pub topology : (world asked).top ≡ (world old.world).top
  pub spans : Spans seen (SessionReplies (world old.world).top (run_of (world asked))) gives old.doors.idle old.doors.door old.doors.hall.places.places.items (world old.world).events new.doors.door new.doors.hall.places.places.items (world asked).events
  pub settled : RoundSettled seen kept settles old.doors.hall.places.places.items old.world new.doors.hall.places.places.items asked went
  pub rested : HasRested (world old.world).top (world asked).events (world new.world).events
  pub keeps_none : kept new.world ≡ kept asked

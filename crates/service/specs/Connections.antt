-- Connections that are served one after the other.
use Rattle.std.specs.Prelude.{◌≡◌, ℕ, zero, suc, List}
use Rattle.messages.specs.Topology.{TopologyValue, session_node}
use Rattle.front.specs.declared.ended.Ended.{Ended}
use Rattle.front.specs.Lines.{LineValue}
use Rattle.front.specs.Served.{Served}
use Rattle.world.specs.declared.run_event.RunEvent.{RunEvent}
use Rattle.world.specs.Run.{run}
use Rattle.service.specs.Meaning.{Replies}

-- a line was served by this session, whatever it was
pub record IsServed (top : TopologyValue) (session : ℕ) (before after : List RunEvent) : Type 0 where
  pub result : Ended
  pub old : LineValue
  pub new : LineValue
  pub served : Served (Replies top session (run top after)) result old before new after

-- so many lines were served, one after the other: the first by the first session, and each by the next one
abbrev pub AreServed : TopologyValue → ℕ → List RunEvent → List RunEvent → Type 0
AreServed top zero before after = after ≡ before
AreServed top (suc n) before after = (between : List RunEvent) × AreServed top n before between × IsServed top (session_node top n) between after

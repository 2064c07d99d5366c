-- How far a script has come.
use Rattle.std.specs.Prelude.{◌≡◌, List, length, Ok}
use Rattle.messages.specs.Topology.{TopologyValue}
use Rattle.world.specs.Run.{Run, opening, continued}
use Rattle.workload.specs.declared.script.ScriptEvent.{ScriptEvent}
use Rattle.workload.specs.declared.transcript.Entry.{Entry}
use Rattle.workload.specs.declared.marks.Mark.{Mark}
use Rattle.workload.specs.Marks.{ended_in, merged}
use Rattle.workload.specs.Simulation.{events_in, simulated_in}

-- these events of a script led to this run, and these entries were told of them
pub record HasTold (top : TopologyValue) (events : List ScriptEvent) (w : Run) (entries : List Entry) : Type 0 where
  pub run : w ≡ continued top (opening top) (events_in top events)
  pub told : simulated_in top events ≡ Ok entries

-- these events of a script led to this run, and these marks note what they came to
pub record HasNoted (top : TopologyValue) (events : List ScriptEvent) (w : Run) (marks : List Mark) : Type 0 where
  pub marked : ended_in marks ≡ length w.transcript
  pub told : HasTold top events w (merged marks w.transcript)

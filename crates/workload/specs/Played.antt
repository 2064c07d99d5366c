-- What a script comes to that runs while it is read.
use Rattle.std.specs.Prelude.{◌≤◌, ℕ, List, length}
use Rattle.json.specs.Token.{Token}
use Rattle.messages.specs.Topology.{TopologyValue}
use Rattle.world.specs.Run.{Run}
use Rattle.workload.specs.declared.marks.Mark.{Mark}
use Rattle.workload.specs.declared.script.ScriptEvent.{ScriptEvent}
use Rattle.workload.specs.HasTold.{HasNoted}
use Rattle.workload.specs.Script.{event_of}
use Rattle.workload.specs.Shape.{list_by}
use Rattle.workload.specs.Streams.{Reads}

-- the tokens begin with a list of events, no more than a script has at most, which led to this run, and these marks note
-- what they came to
abbrev pub ArePlayed : TopologyValue → ℕ → List Token → List Token → Run → List Mark → Type 0
ArePlayed top depth old new w marks =
    (events : List ScriptEvent) × Reads (list_by (event_of top)) depth old new events × (length events ≤ 100000)
    × HasNoted top events w marks

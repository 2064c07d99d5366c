-- What the sites of all data centres make of a script in one process.
use Rattle.std.specs.Prelude.{◌≡◌, ℕ, ◌<◌, ◌==◌, List, map, filter, Contains}
use Rattle.slice.specs.declared.read.AnsweredRow.{AnsweredRow}
use Rattle.messages.specs.Topology.{TopologyValue, node_count}
use Rattle.world.specs.declared.completed.Completed.{Completed}
use Rattle.world.specs.declared.run_event.RunEvent.{RunEvent}
use Rattle.world.specs.Run.{Run, run}
use Rattle.world.specs.Journals.{IsRunOf, IsThreadedRun}
use Rattle.world.specs.Quiet.{IsQuiet}
use Rattle.world.specs.Settled.{Settled}
use Rattle.site.specs.Story.{Story, site_of}
use Rattle.sites.specs.Sites.{DoLive, DoMeet, journals_of}
use Rattle.sites.specs.Answers.{AnswersAreMeant}
use Rattle.workload.specs.declared.script.Script.{Script}
use Rattle.workload.specs.declared.transcript.Entry.{Entry}
use Rattle.workload.specs.declared.transcript.Entry.TheVariants as entry
use Rattle.workload.specs.Simulation.{entry_of, is_outcome, ShowsOneTable}
use Rattle.by_sites.specs.Asked.{told_of, DidAsked}
use Rattle.by_sites.specs.Holds.{AreTold}

-- so it is in each run whose journals are those of the sites with these stories
abbrev pub InEachRun : TopologyValue → (ℕ → Story) → (Run → Type 0) → Type 0
InEachRun top stories P = (events : List RunEvent) → IsRunOf top (journals_of top stories) events → P (run top events)

-- The journals of all actors are those of a quiet run: each message that was sent was handled, so every operation ended, and all data
-- centres have one table.
pub record AreOfQuietRun (top : TopologyValue) (stories : ℕ → Story) : Type 0 where
  pub events : List RunEvent
  pub is_run : IsRunOf top (journals_of top stories) events
  pub quiet : IsQuiet (run top events)
  pub settled : Settled top (run top events)

-- The entries are told of sites that did what the script asks of their actors, and whose journals are those of a run.
pub record IsSitesTranscriptOf (s : Script) (entries : List Entry) : Type 0 where
  -- each data centre's site lived through its story, and what came to it was sent by an actor of its sender's site
  pub stories : ℕ → Story
  pub live : DoLive s.topology stories
  pub meet : DoMeet s.topology stories
  -- each actor did all that the script asks of it, but for what it refused, which is told
  pub asked : (node : ℕ) → node < node_count s.topology → DidAsked s.topology s.events node (stories (site_of s.topology node)) entries
  -- the outcomes of each are told, in order
  pub told : AreTold s.topology stories entries
  -- the journals of all actors are those of a run
  pub run : IsThreadedRun s.topology (journals_of s.topology stories)
  -- the outcomes among the entries are those of each run with these journals, session by session
  pub outcomes : InEachRun s.topology stories (λ w. (node : ℕ) → node < node_count s.topology
      → filter is_outcome (told_of node entries) ≡ map entry_of (filter (λ (c : Completed). c.node == node) w.transcript))
  -- each answer of a session means its request there
  pub meant : (dc : ℕ) → dc < s.topology.dcs → AnswersAreMeant s.topology dc (stories dc)
  -- and each answer of a read shows the one table of its home
  pub reads : (node number time : ℕ) (answer : List AnsweredRow) → Contains entries (entry.Read node number time answer)
      → InEachRun s.topology stories (λ w. ShowsOneTable s.topology w node number time answer)
  -- one of these runs is quiet
  pub quiet : AreOfQuietRun s.topology stories

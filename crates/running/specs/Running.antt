-- What threads make of a script.
use Rattle.std.specs.Prelude.{◌≡◌, ℕ, ◌<◌, List, map, filter, Some, All, Contains}
use Rattle.slice.specs.declared.read.AnsweredRow.{AnsweredRow}
use Rattle.messages.specs.Topology.{node_count}
use Rattle.actors.specs.Seats.{SeatValue}
use Rattle.actors.specs.Resting.{IsResting}
use Rattle.threaded.specs.OneRun.{seat_of}
use Rattle.threaded.specs.Concluded.{ConcludedValue, InEachRun, AreConcluded, by_session}
use Rattle.threaded.specs.Quiet.{AreOfQuietRun}
use Rattle.workload.specs.declared.script.Script.{Script}
use Rattle.workload.specs.declared.transcript.Entry.{Entry}
use Rattle.workload.specs.declared.transcript.Entry.TheVariants as entry
use Rattle.audit.specs.declared.found.Audit.{Audit}
use Rattle.workload.specs.Audited.{IsAuditOf}
use Rattle.workload.specs.Simulation.{entry_of, is_outcome, ShowsOneTable}
use Rattle.running.specs.Asked.{DidAsked}
use Rattle.running.specs.Told.{told_of}

-- The entries are told of seats that did what the script asks of their actors, and whose journals are those of a run.
pub record IsThreadTranscriptOf (s : Script) (entries : List Entry) : Type 0 where
  -- a seat for each of the script's actors; their journals are those of a run
  pub seats : List SeatValue
  pub concluded : AreConcluded s.topology seats
  -- no seat had anything left to do
  pub resting : All IsResting seats
  -- each actor did all that the script asks of it
  pub taken : (node : ℕ) (seat : SeatValue) → node < node_count s.topology → seat_of seats node ≡ Some seat → DidAsked s node seat
  -- they received all that was sent: the run is quiet, so every operation ended, and all data centres have one table
  pub quiet : AreOfQuietRun s.topology seats
  -- what is told of the sessions, one after the other
  pub told : entries ≡ told_of s.topology seats
  -- the outcomes among it are those of each run with these journals, by their sessions
  pub outcomes : InEachRun s.topology seats (λ w. filter is_outcome entries ≡ map entry_of (by_session s.topology w.transcript))
  -- and each answer of a read shows the one table of its home there
  pub reads : (node number time : ℕ) (answer : List AnsweredRow) → Contains entries (entry.Read node number time answer)
      → InEachRun s.topology seats (λ w. ShowsOneTable s.topology w node number time answer)

-- The entries are such a transcript, told of the seats that were concluded.
pub record IsToldOf (s : Script) (v : ConcludedValue) (entries : List Entry) : Type 0 where
  pub topology : v.top ≡ s.topology
  pub transcript : IsThreadTranscriptOf s entries
  pub seats : transcript.seats ≡ v.seats

-- What is told of a script with an audit: such a transcript, and the audit of what ended, in each run with the journals of its
-- seats.
pub record IsThreadAudited (s : Script) (entries : List Entry) (found : Audit) : Type 0 where
  pub transcript : IsThreadTranscriptOf s entries
  pub audit : InEachRun s.topology transcript.seats (λ w. IsAuditOf s.topology w (by_session s.topology w.transcript) found)

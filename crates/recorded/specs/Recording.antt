-- What is recorded of the run of a script.
use Rattle.std.specs.Prelude.{◌≡◌, ℕ, List, filter_map, Option, Some, None, ◌⊎◌}
use Rattle.logical_time.specs.declared.fault.Fault.{Fault}
use Rattle.logical_time.specs.declared.fault.Fault.TheVariants.{Script as NoScript}
use Rattle.column_family.specs.History.{History}
use Rattle.messages.specs.declared.op.Op.{Op}
use Rattle.messages.specs.declared.op.Op.TheVariants as op
use Rattle.messages.specs.declared.outcome.Outcome.{Outcome}
use Rattle.messages.specs.declared.outcome.Outcome.TheVariants as outcome
use Rattle.world.specs.declared.completed.Completed.{Completed}
use Rattle.audit.specs.declared.judging.Answered.{Answered}
use Rattle.workload.specs.declared.script.Script.{Script}
use Rattle.workload.specs.Audited.{AreFirstHistories}
use Rattle.workload.specs.Performing.{script_in, IsRefused}
use Rattle.workload.specs.Simulation.{run_of}
use Rattle.recorded.specs.Recorded.{RecordedValue}
use Rattle.recorded.specs.Performing.{recorded_in}

-- what was asked in a data centre and came to this, if it is a read that was answered: a move is none, and has no other part in a
-- record
abbrev pub answered_by : ℕ → Op → Outcome → Option Answered
answered_by home (op.Batch batch) o = None
answered_by home (op.Read read) (outcome.Wrote commit stamp) = None
answered_by home (op.Read read) (outcome.Read time answer) = Some (record { home = home; read = read; time = time; answer = answer })
answered_by home (op.Read read) outcome.Collected = None
answered_by home (op.Read read) (outcome.Moved dc floor) = None
answered_by home (op.Move dc) o = None

abbrev pub answered_in : Completed → Option Answered
answered_in c = answered_by c.home c.op c.outcome

-- the reads among operations that ended that were answered, in order
abbrev pub reads_in : List Completed → List Answered
reads_in completed = filter_map answered_in completed

-- what families, histories and operations that ended come to
abbrev pub record_by : List (List ℕ) → List History → List Completed → RecordedValue
record_by families histories completed = record { families = families; histories = histories; reads = reads_in completed }

-- the record of the run of a script
pub record IsRecordOf (s : Script) (r : RecordedValue) : Type 0 where
  pub families : r.families ≡ s.topology.schema
  -- a history of each data centre
  pub histories : AreFirstHistories s.topology (run_of s) s.topology.dcs r.histories
  -- the reads that the run answered, in the order of their ends
  pub reads : r.reads ≡ reads_in (run_of s).transcript

-- the bytes spell a script, and reading the text gives the record of its run
abbrev pub IsHistoryFor : List ℕ → List ℕ → Type 0
IsHistoryFor bytes text = (s : Script) × (r : RecordedValue) × (script_in bytes ≡ Some s) × IsRecordOf s r × (recorded_in text ≡ Some r)

-- the bytes spell a script with a run, and no text is made of the record of that run
abbrev pub HasNoText : List ℕ → Fault → Type 0
HasNoText bytes e = (s : Script) × (r : RecordedValue) × (script_in bytes ≡ Some s) × IsRecordOf s r × (e ≡ NoScript)

-- why there is no history for the bytes
abbrev pub IsUnrecorded : List ℕ → Fault → Type 0
IsUnrecorded bytes e = IsRefused bytes e ⊎ HasNoText bytes e

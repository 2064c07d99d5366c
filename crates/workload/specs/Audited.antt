-- What an audit finds in the run of a script, and how that is written down.
use Rattle.std.specs.Prelude.{◌≡◌, ◌↔◌, ℕ, zero, suc, Bool, true, false, List, [], ◌++◌, length, slice_get, Some, codes, decimal}
use Rattle.std.specs.List.{count_by}
use Rattle.column_family.specs.History.{History}
use Rattle.messages.specs.Topology.{TopologyValue}
use Rattle.world.specs.declared.completed.Completed.{Completed}
use Rattle.world.specs.Run.{Run}
use Rattle.world.specs.Histories.{IsHistory}
use Rattle.world.specs.Quiet.{IsQuiet}
use Rattle.audit.specs.declared.found.Audit.{Audit}
use Rattle.audit.specs.Audit.{is_read, is_wrong}
use Rattle.workload.specs.declared.script.Script.{Script}
use Rattle.workload.specs.declared.tail.Tail.{Tail}
use Rattle.workload.specs.declared.tail.Tail.TheVariants.{Nothing, Audited, AuditedRun}
use Rattle.workload.specs.declared.transcript.Entry.{Entry}
use Rattle.workload.specs.Performing.{script_in, IsTextFor}
use Rattle.workload.specs.Simulation.{run_of, IsTranscriptOf}
use Rattle.workload.specs.Text.{text_of}

-- ## What is found

-- the histories of the first data centres of a run, so many
pub record AreFirstHistories (top : TopologyValue) (w : Run) (count : ℕ) (histories : List History) : Type 0 where
  pub all : length histories ≡ count
  pub each : (dc : ℕ) (h : History) → slice_get histories dc ≡ Some h → IsHistory top w dc h

-- The audit of operations that ended in a run: it counts the reads among them that were answered, and as wrong those whose answer
-- isn't the meaning of what was asked on the history of their home, at their effective time.
pub record IsAuditOf (top : TopologyValue) (w : Run) (completed : List Completed) (found : Audit) : Type 0 where
  pub histories : List History
  pub are : AreFirstHistories top w top.dcs histories
  pub reads : found.reads ≡ count_by is_read completed
  pub wrong : found.wrong ≡ count_by (is_wrong histories) completed

-- what is told of a script with an audit: its transcript, whether its run is quiet, and the audit of that run, in which no read is
-- wrong
pub record IsAudited (s : Script) (entries : List Entry) (is_quiet : Bool) (found : Audit) : Type 0 where
  pub told : IsTranscriptOf s entries
  pub quiet : (is_quiet ≡ true) ↔ IsQuiet (run_of s)
  pub audit : IsAuditOf s.topology (run_of s) (run_of s).transcript found
  pub right : found.wrong ≡ 0

-- ## What is written of it

-- `quiet yes` or `quiet no`, and the end of the line
abbrev pub quiet_text : Bool → List ℕ
quiet_text true = codes "quiet yes\n"
quiet_text false = codes "quiet no\n"

-- `audit reads R wrong W`, and the end of the line
abbrev pub found_text : Audit → List ℕ
found_text found = codes "audit reads " ++ decimal found.reads ++ codes " wrong " ++ decimal found.wrong ++ codes "\n"

-- what stands after a transcript
abbrev pub tail_text : Tail → List ℕ
tail_text Nothing = []
tail_text (Audited found) = found_text found
tail_text (AuditedRun quiet found) = quiet_text quiet ++ found_text found

-- the text of a transcript, and of what stands after it
abbrev pub told_text : List Entry → Tail → List ℕ
told_text entries tail = text_of entries ++ tail_text tail

-- the status of a program after so many wrong reads
abbrev pub status_for : ℕ → ℕ
status_for zero = 0
status_for (suc n) = 3

-- 0 where no audit was asked for
abbrev pub status_of : Tail → ℕ
status_of Nothing = 0
status_of (Audited found) = status_for found.wrong
status_of (AuditedRun quiet found) = status_for found.wrong

-- ## A run of the program

-- the bytes spell a script, and the text is that of its transcript, and then of its audit
abbrev pub IsAuditedTextFor : List ℕ → List ℕ → Type 0
IsAuditedTextFor bytes text =
    (script : Script) × (entries : List Entry) × (is_quiet : Bool) × (found : Audit) × (script_in bytes ≡ Some script)
    × IsAudited script entries is_quiet found × (text ≡ told_text entries (AuditedRun is_quiet found))

-- the same, with or without an audit
abbrev pub IsToldFor : Bool → List ℕ → List ℕ → Type 0
IsToldFor false = IsTextFor
IsToldFor true = IsAuditedTextFor

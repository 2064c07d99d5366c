-- What a trace is told of.
use Rattle.std.specs.Prelude.{◌≡◌, ℕ, List, map}
use Rattle.workload.specs.declared.script.Script.{Script}
use Rattle.workload.specs.declared.transcript.Entry.{Entry}
use Rattle.workload.specs.Performing.{IsTextFor}
use Rattle.workload.specs.Simulation.{IsTranscriptOf}
use Rattle.workload.specs.Text.{text_of}
use Rattle.tracing.specs.Lines.{lines_of, quoted, StandIn}

-- the text is that of the transcript of the script
abbrev pub IsTextOf : Script → List ℕ → Type 0
IsTextOf script text = (entries : List Entry) × IsTranscriptOf script entries × (text ≡ text_of entries)

-- the bytes spell a script, and each line of its transcript stands in the trace, between quotes, in order
abbrev pub IsTraceFor : List ℕ → List ℕ → Type 0
IsTraceFor bytes trace = (transcript : List ℕ) × IsTextFor bytes transcript × StandIn (map quoted (lines_of transcript)) trace

-- What the program makes of its input by threads.
use Rattle.std.specs.Prelude.{◌≡◌, ◌⊎◌, ℕ, Bool, true, false, List, Some}
use Rattle.logical_time.specs.declared.fault.Fault.{Fault}
use Rattle.logical_time.specs.declared.fault.Fault.TheVariants.{Memory, Script as NoScript}
use Rattle.audit.specs.declared.found.Audit.{Audit}
use Rattle.workload.specs.declared.script.Script.{Script}
use Rattle.workload.specs.declared.tail.Tail.{Tail}
use Rattle.workload.specs.declared.tail.Tail.TheVariants.{Nothing, Audited}
use Rattle.workload.specs.declared.transcript.Entry.{Entry}
use Rattle.workload.specs.Audited.{told_text}
use Rattle.workload.specs.Performing.{script_in, SpellsNoScript}
use Rattle.running.specs.Faults.{Brings, IsRunRefused}
use Rattle.running.specs.Running.{IsThreadTranscriptOf, IsThreadAudited}

-- what is told of a script, with or without an audit: a transcript of what threads made of it, and what stands after that; no read
-- is wrong
abbrev pub IsThreadTold : Bool → Script → List Entry → Tail → Type 0
IsThreadTold false s entries tail = IsThreadTranscriptOf s entries × (tail ≡ Nothing)
IsThreadTold true s entries tail = (found : Audit) × IsThreadAudited s entries found × (found.wrong ≡ 0) × (tail ≡ Audited found)

-- the bytes spell a script, and the text is that of what is told of it
abbrev pub IsThreadTextFor : Bool → List ℕ → List ℕ → Type 0
IsThreadTextFor audit bytes text =
    (script : Script) × (entries : List Entry) × (tail : Tail) × (script_in bytes ≡ Some script) × IsThreadTold audit script entries tail
    × (text ≡ told_text entries tail)

-- why there is no text for the bytes: they spell no script, for want of memory, or there is no transcript of their script
abbrev pub IsThreadRefused : Brings → List ℕ → Fault → Type 0
IsThreadRefused brings bytes e =
    ((e ≡ NoScript) × SpellsNoScript bytes) ⊎ (e ≡ Memory) ⊎ ((script : Script) × (script_in bytes ≡ Some script) × IsRunRefused brings script e)

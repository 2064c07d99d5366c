-- What the program makes of its input by sites.
use Rattle.std.specs.Prelude.{◌≡◌, ◌⊎◌, ℕ, List, Some}
use Rattle.logical_time.specs.declared.fault.Fault.{Fault}
use Rattle.logical_time.specs.declared.fault.Fault.TheVariants.{Memory, Script as NoScript}
use Rattle.workload.specs.declared.script.Script.{Script}
use Rattle.workload.specs.declared.tail.Tail.TheVariants.{Nothing}
use Rattle.workload.specs.declared.transcript.Entry.{Entry}
use Rattle.workload.specs.Audited.{told_text}
use Rattle.workload.specs.Performing.{script_in, SpellsNoScript}
use Rattle.by_sites.specs.BySites.{IsSitesTranscriptOf}

-- the bytes spell a script, and the text is that of what is told of it
abbrev pub IsSitesTextFor : List ℕ → List ℕ → Type 0
IsSitesTextFor bytes text =
    (script : Script) × (entries : List Entry) × (script_in bytes ≡ Some script) × IsSitesTranscriptOf script entries × (text ≡ told_text entries Nothing)

-- why there is no text for the bytes: they spell no script, for want of memory, or their script isn't run to its end
abbrev pub IsSitesRefused : List ℕ → Fault → Type 0
IsSitesRefused bytes e = ((e ≡ NoScript) × SpellsNoScript bytes) ⊎ (e ≡ Memory) ⊎ ((script : Script) × (script_in bytes ≡ Some script))

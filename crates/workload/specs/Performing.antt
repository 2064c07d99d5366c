-- What the program makes of its input.
use Rattle.std.specs.Prelude.{◌≡◌, ℕ, List, Option, Some, None, option_and_then, Err, IsSome, IfSome, ◌⊎◌}
use Rattle.std.specs.Str.{IsUtf8}
use Rattle.std.specs.Io.KnownBytes.{Appends}
use Rattle.serde_json.specs.Read.{read}
use Rattle.logical_time.specs.declared.fault.Fault.{Fault}
use Rattle.logical_time.specs.declared.fault.Fault.TheVariants.{ClockSpent, Memory, Script as NoScript, ReadFailed, WriteFailed}
use Rattle.program.specs.declared.input.Input.{Input}
use Rattle.program.specs.declared.output.Output.{Output}
use Rattle.program.specs.Inputs.{bytes_left}
use Rattle.program.specs.Outputs.{FailsWriting}
use Rattle.program.specs.Telling.{Tells}
use Rattle.workload.specs.declared.script.Script.{Script}
use Rattle.workload.specs.declared.transcript.Entry.{Entry}
use Rattle.workload.specs.Script.{script_of}
use Rattle.workload.specs.Simulation.{simulated, IsTranscriptOf}
use Rattle.workload.specs.Text.{text_of}

-- ## What bytes come to

-- the script that the bytes spell
abbrev pub script_in : List ℕ → Option Script
script_in bytes = option_and_then script_of (read bytes)

-- the bytes spell a script, and the text is that of the script's transcript
abbrev pub IsTextFor : List ℕ → List ℕ → Type 0
IsTextFor bytes text =
    (script : Script) × (entries : List Entry) × (script_in bytes ≡ Some script)
    × IsTranscriptOf script entries × (text ≡ text_of entries)

abbrev pub SpellsNoScript : List ℕ → Type 0
SpellsNoScript bytes = (¬ IsUtf8 bytes) ⊎ (script_in bytes ≡ None)

-- the bytes spell a script, and this fault ends it
abbrev pub EndsEarly : List ℕ → Fault → Type 0
EndsEarly bytes e = (script : Script) × (script_in bytes ≡ Some script) × (simulated script ≡ Err e)

-- why there is no text for the bytes
abbrev pub IsRefused : List ℕ → Fault → Type 0
IsRefused bytes NoScript = SpellsNoScript bytes ⊎ EndsEarly bytes NoScript
IsRefused bytes ClockSpent = EndsEarly bytes ClockSpent
IsRefused bytes Memory = Unit {0}
IsRefused bytes _ = ⊥

-- ## A run of the program

-- these are the bytes that were left, where those are known
abbrev pub AreRead : Option (List ℕ) → List ℕ → Type 0
AreRead known bytes = IfSome known (λ left. bytes ≡ left)

-- What a task makes of bytes: these are texts for them, and they may be refused for this.
module _ (is_text : List ℕ → List ℕ → Type 0) (is_refused : List ℕ → Fault → Type 0)
    {R W E : Type 0} (remaining : R → Option (List ℕ)) (contents : W → Option (List ℕ)) (written : E → Option (List ℕ)) where
  -- a text for the bytes that were read is written, and nothing is told
  pub record Prints (input : Input R) (old new : Output W) (told told' : Output E) : Type 0 where
    pub bytes : List ℕ
    pub text : List ℕ
    pub are_read : AreRead (bytes_left remaining input) bytes
    pub text_for : is_text bytes text
    pub is_written : Appends (contents old.writer) (contents new.writer) text
    pub nothing_told : told' ≡ told

  -- the bytes that were read come to no text, and nothing is written
  pub record Refuses (input : Input R) (old new : Output W) (e : Fault) : Type 0 where
    pub bytes : List ℕ
    pub are_read : AreRead (bytes_left remaining input) bytes
    pub refused : is_refused bytes e
    pub nothing_written : new ≡ old

  -- the output has failed after a beginning of a text for the bytes that were read
  pub record IsCutShort (input : Input R) (old new : Output W) : Type 0 where
    pub bytes : List ℕ
    pub text : List ℕ
    pub are_read : AreRead (bytes_left remaining input) bytes
    pub text_for : is_text bytes text
    pub fails : FailsWriting contents old new text

  -- why a run ends with a fault, and what is written then
  abbrev pub EndsBy : Fault → Input R → Input R → Output W → Output W → Type 0
  EndsBy e input input' old new =
      Refuses input old new e
      ⊎ ((e ≡ Memory) × (new ≡ old))
      ⊎ ((e ≡ ReadFailed) × IsSome input'.failure × (new ≡ old))
      ⊎ ((e ≡ WriteFailed) × IsCutShort input old new)

  -- it ends with a fault, for its cause, and tells it
  pub record Ends (input input' : Input R) (old new : Output W) (told told' : Output E) : Type 0 where
    pub fault : Fault
    pub more : Option (List ℕ)
    pub cause : EndsBy fault input input' old new
    pub tells : Tells written fault more told told'

-- 1, and that the input could not be read is told
abbrev pub TellsUnread : {E : Type 0} → (E → Option (List ℕ)) → ℕ → Output E → Output E → Type 0
TellsUnread written status told told' = (status ≡ 1) × (more : Option (List ℕ)) × Tells written ReadFailed more told told'

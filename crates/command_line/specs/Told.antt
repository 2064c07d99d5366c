-- How a command line is answered that asks for no run.
use Rattle.std.specs.Prelude.{◌≡◌, ℕ, List, Option, None, string_bytes, ◌⊎◌}
use Rattle.std.specs.Io.KnownBytes.{Appends}
use Rattle.logical_time.specs.declared.fault.Fault.TheVariants.{WriteFailed}
use Rattle.program.specs.declared.output.Output.{Output}
use Rattle.program.specs.Outputs.{Writes, FailsWriting}
use Rattle.program.specs.Telling.{Tells}
use Rattle.command_line.specs.declared.told.Told.{Told}
use Rattle.command_line.specs.declared.told.Told.TheVariants.{Help, Refused}

module _ {W E : Type 0} (contents : W → Option (List ℕ)) (written : E → Option (List ℕ)) where
  -- the text is written, and nothing is told
  pub record Helps (text : List ℕ) (status : ℕ) (old new : Output W) (told told' : Output E) : Type 0 where
    pub is_ended : status ≡ 0
    pub is_written : Appends (contents old.writer) (contents new.writer) text
    pub nothing_told : told' ≡ told

  -- the output has failed, which is told
  pub record Fails (text : List ℕ) (status : ℕ) (old new : Output W) (told told' : Output E) : Type 0 where
    pub is_ended : status ≡ 1
    pub fails : FailsWriting contents old new text
    pub tells : Tells written WriteFailed None told told'

  -- the reason is told, and nothing is written
  pub record Refuses (text : List ℕ) (status : ℕ) (old new : Output W) (told told' : Output E) : Type 0 where
    pub is_ended : status ≡ 2
    pub nothing_written : new ≡ old
    pub is_told : Writes written told told' text

  -- this exit status, these outputs
  abbrev pub Answers : Told → ℕ → Output W → Output W → Output E → Output E → Type 0
  Answers (Help text) status old new told told' = Helps (string_bytes text) status old new told told' ⊎ Fails (string_bytes text) status old new told told'
  Answers (Refused text) status old new told told' = Refuses (string_bytes text) status old new told told'

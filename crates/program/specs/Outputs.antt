-- What is written to an output.
use Rattle.std.specs.Prelude.{◌≡◌, ℕ, List, ◌++◌, Option, IsSome, IsNone, Result, OnOk, OnErr, IfErr, ◌⊎◌}
use Rattle.std.specs.Io.KnownBytes.{Appends}
use Rattle.logical_time.specs.declared.fault.Fault.{Fault}
use Rattle.logical_time.specs.declared.fault.Fault.TheVariants.{WriteFailed}
use Rattle.program.specs.declared.output.Output.{Output}

-- a beginning of the bytes was added where they are known, maybe all, maybe nothing
abbrev pub AppendsPart : Option (List ℕ) → Option (List ℕ) → List ℕ → Type 0
AppendsPart old new bytes = (part : List ℕ) × (rest : List ℕ) × (bytes ≡ part ++ rest) × Appends old new part

-- the output has failed after a beginning of the bytes
abbrev pub FailsWriting : {W : Type 0} → (W → Option (List ℕ)) → Output W → Output W → List ℕ → Type 0
FailsWriting contents old new bytes = IsSome new.failure × AppendsPart (contents old.writer) (contents new.writer) bytes

-- the bytes were written, or the output has failed
abbrev pub Writes : {W : Type 0} → (W → Option (List ℕ)) → Output W → Output W → List ℕ → Type 0
Writes contents old new bytes = Appends (contents old.writer) (contents new.writer) bytes ⊎ FailsWriting contents old new bytes

-- A step of what is written: the bytes were added and the output hasn't failed, or it has failed after a beginning of them.
pub record Adds {W T : Type 0} (contents : W → Option (List ℕ)) (old new : Output W) (result : Result T Fault) (bytes : List ℕ) : Type 0 where
  pub whole : OnOk result (Appends (contents old.writer) (contents new.writer) bytes)
  pub sound : OnOk result (IsNone new.failure)
  pub refused : IfErr result (λ e. e ≡ WriteFailed)
  pub cut : OnErr result (FailsWriting contents old new bytes)

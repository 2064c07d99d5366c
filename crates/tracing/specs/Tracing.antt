-- What is written of a trace.
use Rattle.std.specs.Prelude.{◌≡◌, ℕ, List, ◌++◌, map, Option, IsSome}
use Rattle.std.specs.Io.KnownBytes.{Appends}
use Rattle.logical_time.specs.declared.fault.Fault.{Fault}
use Rattle.logical_time.specs.declared.fault.Fault.TheVariants.{WriteFailed}
use Rattle.program.specs.declared.output.Output.{Output}
use Rattle.program.specs.Outputs.{AppendsPart}
use Rattle.tracing.specs.Lines.{lines_of, quoted, StandIn}

-- of these lines all but those of the rest stand in what was added, between quotes
pub record HasShown (before : Option (List ℕ)) (all : List (List ℕ)) (rest : List ℕ) (now : Option (List ℕ)) : Type 0 where
  pub shown : List (List ℕ)
  pub more : List ℕ
  pub split : all ≡ shown ++ lines_of rest
  pub is_added : Appends before now more
  pub stand : StandIn (map quoted shown) more

module _ {W : Type 0} (contents : W → Option (List ℕ)) where
  -- the lines of the text were added, up to those of the rest
  abbrev pub Shows : Output W → Output W → List ℕ → List ℕ → Type 0
  Shows old new text rest = (before : Option (List ℕ)) (all : List (List ℕ)) → HasShown before all text (contents old.writer) → HasShown before all rest (contents new.writer)

  -- whatever was shown still is: what was there wasn't changed
  abbrev pub HasGrown : Output W → Output W → Type 0
  HasGrown old new = (rest : List ℕ) → Shows old new rest rest

  -- a text was added in which the lines of the transcript stand, each between quotes, in order
  abbrev pub TellsLines : Output W → Output W → List ℕ → Type 0
  TellsLines old new transcript = (trace : List ℕ) × StandIn (map quoted (lines_of transcript)) trace × Appends (contents old.writer) (contents new.writer) trace

  -- a beginning of one was
  abbrev pub TellsPart : Output W → Output W → List ℕ → Type 0
  TellsPart old new transcript = (trace : List ℕ) × StandIn (map quoted (lines_of transcript)) trace × AppendsPart (contents old.writer) (contents new.writer) trace

-- the output has failed, and for that alone
abbrev pub HasCut : {W : Type 0} → Output W → Fault → Type 0
HasCut output e = (e ≡ WriteFailed) × IsSome output.failure

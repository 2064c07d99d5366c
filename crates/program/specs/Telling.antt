-- How a fault that ends the program is told.
use Rattle.std.specs.Prelude.{◌≡◌, ℕ, false, List, [], ◌∷◌, ◌++◌, Option, Some, None, IfSome, codes}
use Rattle.logical_time.specs.declared.fault.Fault.{Fault}
use Rattle.logical_time.specs.declared.fault.Fault.TheVariants.{ClockSpent, Memory, JournalFull, StrangerEnd, Script, ReadFailed, WriteFailed}
use Rattle.program.specs.declared.output.Output.{Output}
use Rattle.program.specs.Lines.{has_end}
use Rattle.program.specs.Outputs.{Writes}

-- the line of a fault: no other ends the program
abbrev pub fault_line : Fault → List ℕ
fault_line ClockSpent = codes "eiger: fault 22 ClockSpent\n"
fault_line Memory = codes "eiger: fault 23 Memory\n"
fault_line JournalFull = codes "eiger: fault 24 JournalFull\n"
fault_line StrangerEnd = codes "eiger: fault 25 StrangerEnd\n"
fault_line Script = codes "eiger: fault 35 Script\n"
fault_line ReadFailed = codes "eiger: fault 36 ReadFailed\n"
fault_line WriteFailed = codes "eiger: fault 37 WriteFailed\n"
fault_line _ = []

-- the line of the fault and, where more is known, a line for people
abbrev pub told_text : Fault → Option (List ℕ) → List ℕ
told_text e None = fault_line e
told_text e (Some line) = fault_line e ++ (line ++ 10 ∷ [])

-- This was told: it was written, or a beginning of it and the output has failed. What more is known is one line.
pub record Tells {E : Type 0} (contents : E → Option (List ℕ)) (e : Fault) (more : Option (List ℕ)) (old new : Output E) : Type 0 where
  pub line : IfSome more (λ l. has_end l ≡ false)
  pub text : Writes contents old new (told_text e more)

-- What the marks of a script and the operations that ended make of a transcript.
use Rattle.std.specs.Prelude.{ℕ, suc, List, [], ◌∷◌, replicate, Option, Some, None}
use Rattle.world.specs.declared.completed.Completed.{Completed}
use Rattle.workload.specs.declared.marks.Mark.{Mark}
use Rattle.workload.specs.declared.marks.Mark.TheVariants as mark
use Rattle.workload.specs.declared.marks.Refusal.{Refusal}
use Rattle.workload.specs.declared.transcript.Entry.{Entry}
use Rattle.workload.specs.declared.transcript.Entry.TheVariants as entry
use Rattle.workload.specs.Simulation.{entry_of}

-- the entries of the marks, where the outcomes are those of these operations, one after the other
abbrev pub merged : List Mark → List Completed → List Entry
merged [] cs = []
merged (mark.Refused refusal ∷ ms) cs = entry.Refused refusal.node refusal.fault ∷ merged ms cs
merged (mark.Ended ∷ ms) [] = merged ms []
merged (mark.Ended ∷ ms) (c ∷ cs) = entry_of c ∷ merged ms cs

-- how many of the marks are outcomes
abbrev pub ended_in : List Mark → ℕ
ended_in [] = 0
ended_in (mark.Ended ∷ ms) = suc (ended_in ms)
ended_in (mark.Refused refusal ∷ ms) = ended_in ms

-- the marks of an event: its refusal, if it was refused, and then so many outcomes
abbrev pub noted : Option Refusal → ℕ → List Mark
noted None n = replicate n mark.Ended
noted (Some refusal) n = mark.Refused refusal ∷ replicate n mark.Ended

-- the entry of a refusal, if there was one
abbrev pub told_refusal : Option Refusal → List Entry
told_refusal None = []
told_refusal (Some refusal) = entry.Refused refusal.node refusal.fault ∷ []

-- Why there is no text for bytes, and how a run ends by it.
use Rattle.std.proofs.Common.{◌≡◌, List, ℕ, Option, Some, Err, IsSome, ◌⊎◌, inl, inr, sym, subst}
use Rattle.logical_time.specs.declared.fault.Fault.{Fault}
use Rattle.logical_time.specs.declared.fault.Fault.TheVariants.{ClockSpent, Memory, WriteFailed, Script as NoScript}
use Rattle.program.specs.declared.input.Input.{Input}
use Rattle.program.specs.declared.output.Output.{Output}
use Rattle.program.specs.Inputs.{bytes_left}
use Rattle.program.specs.Outputs.{AppendsPart}
use Rattle.workload.specs.declared.script.Script.{Script}
use Rattle.workload.specs.Simulation.{simulated}
use Rattle.workload.specs.Performing.{script_in, IsRefused, AreRead, EndsBy}
use Rattle.workload.proofs.Ends.{script_ends}

pub no_memory : (bytes : List ℕ) (e : Fault) → e ≡ Memory → IsRefused bytes e
no_memory bytes e is = subst (IsRefused bytes) (sym is) tt

pub ends_early : (bytes : List ℕ) (script : Script) (e : Fault) → script_in bytes ≡ Some script → (e ≡ Memory) ⊎ (simulated script ≡ Err e) → IsRefused bytes e
ends_early bytes script e spelled (inl memory) = no_memory bytes e memory
ends_early bytes script e spelled (inr ends) = by (script_ends script e ends)
  where
    by : (e ≡ ClockSpent) ⊎ (e ≡ NoScript) → IsRefused bytes e
    by (inl is) = subst (IsRefused bytes) (sym is) (script, spelled, subst (λ f. simulated script ≡ Err f) is ends)
    by (inr is) = subst (IsRefused bytes) (sym is) (inr (script, spelled, subst (λ f. simulated script ≡ Err f) is ends))

module _ (is_text : List ℕ → List ℕ → Type 0) (is_refused : List ℕ → Fault → Type 0)
    {R W E : Type 0} (remaining : R → Option (List ℕ)) (contents : W → Option (List ℕ)) (written : E → Option (List ℕ)) (input input' : Input R) (old new : Output W) where
  -- the output has failed
  pub cut_ends : (e : Fault) (bytes text : List ℕ) → AreRead (bytes_left remaining input) bytes → is_text bytes text → (e ≡ WriteFailed) × IsSome new.failure
      → AppendsPart (contents old.writer) (contents new.writer) text → EndsBy is_text is_refused remaining contents written e input input' old new
  cut_ends e bytes text read is failed part =
      inr (inr (inr (failed.0, record { bytes = bytes; text = text; are_read = read; text_for = is; fails = (failed.1, part) })))

-- What an audit of bytes tells of them.
use Rattle.std.proofs.Common.{◌≡◌, ◌∙◌, ap, ℕ, List, length, Option, IsSome, inr}
use Rattle.logical_time.specs.declared.fault.Fault.{Fault}
use Rattle.logical_time.specs.declared.fault.Fault.TheVariants.{WriteFailed}
use Rattle.program.specs.declared.input.Input.{Input}
use Rattle.program.specs.declared.output.Output.{Output}
use Rattle.program.specs.Inputs.{bytes_left}
use Rattle.program.specs.Outputs.{AppendsPart}
use Rattle.workload.specs.Performing.{AreRead, EndsBy}
use Rattle.recorded.specs.declared.performing.Audited.{Audited}
use Rattle.recorded.specs.Report.{report_of, report_text}
use Rattle.recorded.specs.Performing.{IsAudited, IsReport, IsRefused}

told : (bytes : List ℕ) (a : Audited) (h : IsAudited bytes a) → report_text a.reads a.wrong.items ≡ report_of h.0
told bytes a (r, spelled, reads, wrong) = ap (λ n. report_text n a.wrong.items) reads ∙ ap (report_text (length r.reads)) wrong

pub is_report : (bytes : List ℕ) (a : Audited) → IsAudited bytes a → IsReport bytes (report_text a.reads a.wrong.items)
is_report bytes a h = (h.0, h.1, told bytes a h)

-- the output has failed after a beginning of the report
module _ {R W E : Type 0} (remaining : R → Option (List ℕ)) (contents : W → Option (List ℕ)) (written : E → Option (List ℕ)) (input input' : Input R) (old new : Output W) where
  pub cut_ends : (e : Fault) (bytes : List ℕ) (a : Audited) → AreRead (bytes_left remaining input) bytes → IsAudited bytes a → (e ≡ WriteFailed) × IsSome new.failure
      → AppendsPart (contents old.writer) (contents new.writer) (report_text a.reads a.wrong.items) → EndsBy IsReport IsRefused remaining contents written e input input' old new
  cut_ends e bytes a read h failed part =
      inr (inr (inr (failed.0, record { bytes = bytes; text = report_text a.reads a.wrong.items; are_read = read; text_for = is_report bytes a h; fails = (failed.1, part) })))

use Rattle.std.proofs.Common.{rules, ◌≡◌, List, subst}
use Rattle.program.specs.Outputs.{AppendsPart}
use Rattle.audit.specs.declared.judging.Misread.{Misread}
use Rattle.recorded.specs.Report.{report_text}
use Rattle.recorded.specs.Performing.{IsAudited}
use Rattle.recorded.proofs.Reports.{cut_ends}
use Rattle.recorded.proofs.performing.perform_audit.Goals as goal

pub returns-clause-ended : goal.returns-clause-ended
returns-clause-ended g c = λ one.
    let bytes = c.in-Ok.bytes.items in
    let audited = c.in-Ok-audit_bytes.audited in
    let is : IsAudited bytes audited = search rules in
    let same : c.as_slice.result.now ≡ audited.wrong.items = search rules in
    let part =
    subst (λ (ms : List Misread). AppendsPart (g.W.Write.contents c.args.output.now.writer) (g.W.Write.contents c.write_report.new.output.writer) (report_text audited.reads ms)) same
    c.in-Err-write_report.ensures.part
    in
    record {
      fault = c.in-Err-write_report.fault;
      more = c.line.result;
      cause =
          cut_ends g.R.Read.remaining g.W.Write.contents g.E.Write.contents c.args.input.now c.read_all.new.self c.args.output.now c.write_report.new.output c.in-Err-write_report.fault
          bytes audited c.in-Ok.ensures.whole is c.in-Err-write_report.ensures.failed part;
      tells = c.tell-in-Err-write_report.ensures.told;
    }

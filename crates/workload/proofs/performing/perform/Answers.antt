use Rattle.workload.specs.Audited.{told_text, IsToldFor}
use Rattle.workload.specs.Performing.{IsRefused}
use Rattle.workload.proofs.Refused.{cut_ends}
use Rattle.workload.proofs.performing.perform.Goals as goal

pub returns-clause-ended : goal.returns-clause-ended
returns-clause-ended g c = λ one. record {
  fault = c.in-Err-written.fault;
  more = c.line.result;
  cause =
      let told = c.in-Ok-told_of.told in
      cut_ends (IsToldFor c.args.audit) IsRefused g.R.Read.remaining g.W.Write.contents g.E.Write.contents c.args.input.now c.read_all.new.self c.args.output.now c.write_transcript-written.new.output c.in-Err-written.fault
      c.in-Ok.bytes.items (told_text told.0 told.1) c.in-Ok.ensures.whole (rw c.deref.ensures.value at c.in-Ok-told_of.ensures.text) c.in-Err-written.ensures.failed c.in-Err-written.ensures.part;
  tells = c.tell-in-Err-written.ensures.told;
}

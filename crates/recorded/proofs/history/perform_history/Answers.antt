use Rattle.std.proofs.Common.{string_bytes}
use Rattle.workload.proofs.Refused.{cut_ends}
use Rattle.recorded.specs.Recording.{IsHistoryFor, IsUnrecorded}
use Rattle.recorded.proofs.history.perform_history.Goals as goal

pub returns-clause-ended : goal.returns-clause-ended
returns-clause-ended g c = λ one. record {
  fault = c.in-Err-write_all.fault;
  more = c.line.result;
  cause =
      cut_ends IsHistoryFor IsUnrecorded g.R.Read.remaining g.W.Write.contents g.E.Write.contents c.args.input.now c.read_all.new.self c.args.output.now c.write_all.new.self c.in-Err-write_all.fault
      c.in-Ok.bytes.items (string_bytes c.in-Ok-history_text.text) c.in-Ok.ensures.whole (rw c.deref.ensures.value at c.in-Ok-history_text.ensures.text)
      c.in-Err-write_all.ensures.failed (rw c.as_bytes.ensures.value at c.in-Err-write_all.ensures.part);
  tells = c.tell-in-Err-write_all.ensures.told;
}

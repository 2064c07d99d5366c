use Rattle.std.proofs.Common.{refl}
use Rattle.workload.proofs.Refused.{cut_ends}
use Rattle.workload.specs.Performing.{IsRefused}
use Rattle.tracing.specs.Traced.{IsTraceFor}
use Rattle.tracing.proofs.performing.perform_trace.Goals as goal

pub returns-clause-ended : goal.returns-clause-ended
returns-clause-ended g c = λ one. record {
  fault = c.in-Err-write_all.fault;
  more = c.line.result;
  cause =
      let part = c.in-Err-write_all.ensures.part in
      cut_ends IsTraceFor IsRefused g.R.Read.remaining g.W.Write.contents g.E.Write.contents c.args.input.now c.read_all.new.self c.args.output.now c.write_all.new.output c.in-Err-write_all.fault
      c.in-Ok.bytes.items part.0 c.in-Ok.ensures.whole (c.in-Ok-trace_bytes.told.1.text.items, rw c.deref.ensures.value at c.in-Ok-trace_bytes.ensures.text, part.1)
      c.in-Err-write_all.ensures.failed part.2;
  tells = c.tell-in-Err-write_all.ensures.told;
}

pub returns-in-Ok-write_all-clause-printed : goal.returns-in-Ok-write_all-clause-printed
returns-in-Ok-write_all-clause-printed g c = λ zero.
    let told = c.in-Ok-write_all.ensures.told in
    record {
      bytes = c.in-Ok.bytes.items;
      text = told.0;
      are_read = c.in-Ok.ensures.whole;
      text_for = (c.in-Ok-trace_bytes.told.1.text.items, rw c.deref.ensures.value at c.in-Ok-trace_bytes.ensures.text, told.1);
      is_written = told.2;
      nothing_told = refl;
    }

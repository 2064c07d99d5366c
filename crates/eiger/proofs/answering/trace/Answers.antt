use Rattle.eiger.proofs.answering.trace.Goals as goal

pub returns : goal.returns
returns g c = record {
  input = c.opened-input.result;
  left = c.perform_trace.new.input;
  opened = c.opened-input.ensures;
  ended = c.perform_trace.ensures.status;
  printed = c.perform_trace.ensures.printed;
  passed_on = c.perform_trace.ensures.passed_on;
  unread = c.perform_trace.ensures.unread;
  failed = c.perform_trace.ensures.ended;
}

use Rattle.eiger.proofs.answering.run.Goals as goal

pub returns : goal.returns
returns g c = record {
  input = c.opened-input.result;
  left = c.perform_by_threads.new.input;
  opened = c.opened-input.ensures;
  ended = c.perform_by_threads.ensures.status;
  printed = c.perform_by_threads.ensures.printed;
  passed_on = c.perform_by_threads.ensures.passed_on;
  unread = c.perform_by_threads.ensures.unread;
  failed = c.perform_by_threads.ensures.ended;
}

use Rattle.eiger.proofs.answering.history.Goals as goal

pub returns : goal.returns
returns g c = record {
  input = c.opened-input.result;
  left = c.perform_history.new.input;
  opened = c.opened-input.ensures;
  ended = c.perform_history.ensures.status;
  printed = c.perform_history.ensures.printed;
  passed_on = c.perform_history.ensures.passed_on;
  unread = c.perform_history.ensures.unread;
  failed = c.perform_history.ensures.ended;
}

use Rattle.eiger.proofs.answering.log.Goals as goal

pub returns : goal.returns
returns g c = record {
  input = c.opened-input.result;
  left = c.perform_log.new.input;
  opened = c.opened-input.ensures;
  ended = c.perform_log.ensures.status;
  printed = c.perform_log.ensures.printed;
  passed_on = c.perform_log.ensures.passed_on;
  unread = c.perform_log.ensures.unread;
  failed = c.perform_log.ensures.ended;
}

use Rattle.eiger.proofs.answering.explore.Goals as goal

pub returns : goal.returns
returns g c = record {
  input = c.opened-input.result;
  left = c.perform_exploration.new.input;
  opened = c.opened-input.ensures;
  ended = c.perform_exploration.ensures.status;
  printed = c.perform_exploration.ensures.printed;
  passed_on = c.perform_exploration.ensures.passed_on;
  unread = c.perform_exploration.ensures.unread;
  failed = c.perform_exploration.ensures.ended;
}

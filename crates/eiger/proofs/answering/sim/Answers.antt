use Rattle.eiger.proofs.answering.sim.Goals as goal

pub returns : goal.returns
returns g c = record {
  input = c.opened-input.result;
  left = c.perform.new.input;
  opened = c.opened-input.ensures;
  ended = c.perform.ensures.status;
  printed = c.perform.ensures.printed;
  passed_on = c.perform.ensures.passed_on;
  unread = c.perform.ensures.unread;
  failed = c.perform.ensures.ended;
}

use Rattle.eiger.proofs.answering.run_sites.Goals as goal

pub returns : goal.returns
returns g c = record {
  input = c.opened-input.result;
  left = c.perform_by_sites.new.input;
  opened = c.opened-input.ensures;
  ended = c.perform_by_sites.ensures.status;
  printed = c.perform_by_sites.ensures.printed;
  passed_on = c.perform_by_sites.ensures.passed_on;
  unread = c.perform_by_sites.ensures.unread;
  failed = c.perform_by_sites.ensures.ended;
}

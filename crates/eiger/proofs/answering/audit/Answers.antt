use Rattle.eiger.proofs.answering.audit.Goals as goal

pub returns : goal.returns
returns g c = record {
  input = c.opened-input.result;
  left = c.perform_audit.new.input;
  opened = c.opened-input.ensures;
  ended = c.perform_audit.ensures.status;
  good = c.perform_audit.ensures.good;
  bad = c.perform_audit.ensures.bad;
  passed_on = c.perform_audit.ensures.passed_on;
  unread = c.perform_audit.ensures.unread;
  failed = c.perform_audit.ensures.ended;
}

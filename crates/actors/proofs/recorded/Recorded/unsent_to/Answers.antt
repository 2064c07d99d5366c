use Rattle.std.proofs.Common.{◌+◌, length, ap, ◌∙◌}
use Rattle.actors.specs.Journals.{sends_to}
use Rattle.actors.proofs.Sent.{neither_of_two}
use Rattle.actors.proofs.recorded.Recorded.unsent_to.Goals as goal

pub returns-in-Err-nth_to : goal.returns-in-Err-nth_to
returns-in-Err-nth_to g c =
    neither_of_two c.args.to c.args.self.now.outbox.sent c.args.self.now.fresh.sent c.args.number c.in-Err.more c.in-Err-nth_to.field-0
    (c.in-Err.ensures.above ∙ ap (λ l. length (sends_to c.args.to l) + c.in-Err.more) c.as_slice.ensures)
    (c.in-Err-nth_to.ensures.above ∙ ap (λ l. length (sends_to c.args.to l) + c.in-Err-nth_to.field-0) c.as_slice-in-Err.ensures)

use Rattle.std.proofs.Common.{◌∙◌, ap, sym}
use Rattle.std.specs.Option.{option_copied}
use Rattle.actors.specs.Journals.{followed_by}
use Rattle.actors.specs.Seats.{through}
use Rattle.threaded.proofs.Counting.{more_sent, no_more_sent}
use Rattle.threaded.proofs.matching.sends_no_more.Goals as goal

pub returns-in-Some : goal.returns-in-Some
returns-in-Some c =
    more_sent (followed_by (through c.args.seat.now.outgoing) c.args.seat.now.outbox c.args.to) c.args.count _ (sym (ap option_copied c.in-Some.is) ∙ c.sent_to.ensures)

pub returns-in-None : goal.returns-in-None
returns-in-None c =
    no_more_sent (followed_by (through c.args.seat.now.outgoing) c.args.seat.now.outbox c.args.to) c.args.count (sym (ap option_copied c.in-None.is) ∙ c.sent_to.ensures)

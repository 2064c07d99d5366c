use Rattle.ledger.proofs.Frames.{frame_spent}
use Rattle.ledger.proofs.entry.only_request.Goals as goal

pub returns-else-is_spent-clause-none : goal.returns-else-is_spent-clause-none
returns-else-is_spent-clause-none c none clean op e =
    frame_spent c.next-first.result c.args.reader.now c.next-first.new.self c.next-first.ensures.taken c.next-first.ensures.none none clean c.next-first.ensures.rest c.next-first.ensures.fault (c.is_spent.ensures.no c.if-is_spent.false) op e

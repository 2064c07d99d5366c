use Rattle.messages.proofs.Announcing.{all_keep, all_posted}
use Rattle.messages.proofs.posting.announced.Goals as goal

pub returns-clause-same_outbox : goal.returns-clause-same_outbox
returns-clause-same_outbox c =
    all_keep _ (λ p. p.outbox.ghost_name) (λ x n t k s y h. h.1) c.args.verdict.cohorts c.args.verdict.own.part.writer.txn c.args.verdict.commit c.args.verdict.stamp c.args.posting.now c.announce.new.post c.announce.ensures.told

pub returns-clause-sent : goal.returns-clause-sent
returns-clause-sent c =
    all_posted _ (λ p. p.outbox.now.sent) (λ p. p.from) (λ p. p.time) (λ x n t k s y h. (h.0, h.2, h.3)) c.args.verdict.cohorts c.args.verdict.own.part.writer.txn c.args.verdict.commit c.args.verdict.stamp c.args.posting.now c.announce.new.post c.announce.ensures.told

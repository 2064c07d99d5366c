use Rattle.std.proofs.Common.{subst, IfSome}
use Rattle.messages.specs.Posting.{commit_to}
use Rattle.shard.specs.Concluding.{MaySettle}
use Rattle.shard.proofs.in_code.NoticeSteps.{alone_sent}
use Rattle.shard.proofs.replicas.conclude.Goals as goal

pub returns-in-Some-clause-sent : goal.returns-in-Some-clause-sent
returns-in-Some-clause-sent c = λ top me place.
    let may = subst (λ o. IfSome o (λ x. MaySettle c.args.txn c.args.clock c.args.stamp c.args.kept.now x)) c.in-Some.is c.requires.settles in
    alone_sent (commit_to me c.args.clock c.args.txn c.args.clock c.args.stamp) c.in-Some.complete.cohorts c.args.outbox.now.sent c.args.envelopes.items c.settle.new.outbox.sent may.alone (c.settle.ensures.sent top me place)

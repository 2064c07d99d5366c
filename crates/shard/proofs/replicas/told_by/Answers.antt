use Rattle.std.proofs.Common.{rules, ◌≡◌, subst, List, Some, IfOk}
use Rattle.messages.specs.declared.envelope.Envelope.{Envelope}
use Rattle.messages.specs.Shard.{BegunBallot}
use Rattle.messages.specs.Replication.{ballot_of}
use Rattle.write_txn.specs.Stands.{kept_ballot_of}
use Rattle.shard.proofs.in_code.NoticeSteps.{asked_sends, alone_told, alone_apart}
use Rattle.shard.proofs.replicas.told_by.Goals as goal

pub returns-then-not-is_empty-clause-ok : goal.returns-then-not-is_empty-clause-ok
returns-then-not-is_empty-clause-ok c = λ top me a r undecided apart.
    subst (λ (es : List Envelope). IfOk c.prepare_remotes.result (λ envelopes. envelopes.items ≡ es))
    (asked_sends top me c.args.time a (kept_ballot_of c.args.remote.now) c.args.is_ready c.txn-txn.result (search rules) (search rules) (search rules)) (c.prepare_remotes.ensures.envelopes top me r.place)

pub returns-clause-ok : goal.returns-clause-ok
returns-clause-ok c = λ top me a r undecided apart.
    let kr = kept_ballot_of c.args.remote.now in
    let d : BegunBallot = record { txn = c.txn-txn.result; rows = c.part.result.now; cohorts = kr.cohorts; dependencies = kr.dependencies; stamp = Some c.stamp.result } in
    let d_is : d ≡ ballot_of kr = search rules in
    subst (λ (es : List Envelope). IfOk c.tell.result (λ envelopes. envelopes.items ≡ es))
    (alone_told top me c.args.time a kr c.args.is_ready d (search rules) (search rules) d_is)
    (c.tell.ensures.ok top me a r (search rules) (alone_apart top me c.args.time a kr c.args.is_ready d (search rules) (search rules) d_is apart))

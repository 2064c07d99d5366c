use Rattle.std.proofs.Common.{rules, ap, sym, subst}
use Rattle.std.specs.Prelude.{is_some}
use Rattle.logical_time.specs.Stamps.{TxnValue}
use Rattle.store.specs.Keeps.{AreApart}
use Rattle.messages.specs.Shard.{KeptBallot}
use Rattle.write_txn.specs.Ledger.{state_of}
use Rattle.write_txn.specs.Voters.{voters_of}
use Rattle.shard.specs.Kept.{IsStep}
use Rattle.shard.specs.ReplBegun.{ballot_begun, IsBegun}
use Rattle.shard.proofs.in_code.QuietSteps.{contrary, ballot_before}
use Rattle.shard.proofs.in_code.ReplBegunSteps.{drops_ballot}
use Rattle.messages.specs.Replication as machine
use Rattle.shard.proofs.repl_begun.repl_begin.Goals as goal

pub returns-in-Ok-clause-step : goal.returns-in-Ok-clause-step
returns-in-Ok-clause-step c = λ top me a r apart.
    let is = c.in_ok-remote.ensures.ballot in
    let begun = subst (λ (t : TxnValue). IsBegun top me (voters_of c.args.kept.now.notices t) c.in_ok-remote.remote) (sym (ap (λ (x : KeptBallot). x.txn) is)) (c.in_ok-remote.ensures.begun top me r.place) in
    subst (λ (x : KeptBallot). AreApart (machine.on_repl_begin top me c.args.clock a x).state.applied → IsStep top me (machine.on_repl_begin top me c.args.clock a x) c.begin.new.kept c.args.outbox.now.sent c.begin.new.outbox.sent)
    is (λ there. c.in-Ok.ensures.step top me a r begun there) apart

pub returns-in_err-remote-clause-quiet : goal.returns-in_err-remote-clause-quiet
returns-in_err-remote-clause-quiet c = λ top me a r e.
    contrary (is_some (state_of c.args.kept.now.transactions.ledger c.args.begun.txn)) (ballot_before top me c.args.clock c.args.kept.now a (ballot_begun c.args.begun) r e) (search rules)

pub returns-in-Err-clause-quiet : goal.returns-in-Err-clause-quiet
returns-in-Err-clause-quiet c = λ top me a r e.
    contrary (is_some (state_of c.args.kept.now.transactions.ledger c.args.begun.txn)) (ballot_before top me c.args.clock c.args.kept.now a (ballot_begun c.args.begun) r e) (search rules)

pub returns-then-knows-clause-step : goal.returns-then-knows-clause-step
returns-then-knows-clause-step c = λ top me a r apart.
    drops_ballot top me c.args.clock c.args.kept.now a (ballot_begun c.args.begun) c.args.outbox.now.sent r (search rules)

use Rattle.std.proofs.Common.{rules}
use Rattle.store.proofs.newest.Places.{on_ok}
use Rattle.write_txn.specs.Ledger.{state_of}
use Rattle.shard.proofs.in_code.InPlace.{nothing_known}
use Rattle.shard.proofs.in_code.QuietSteps.{noticed_before}
use Rattle.shard.proofs.replicas.notice.Goals as goal

pub returns-then-not-knows-clause-step : goal.returns-then-not-knows-clause-step
returns-then-not-knows-clause-step c = on_ok c.note_notice.result (λ step. λ top me a r apart. step top me a c.args.outbox.now.sent r (search rules)) c.note_notice.ensures.step

pub returns-then-not-knows-clause-quiet : goal.returns-then-not-knows-clause-quiet
returns-then-not-knows-clause-quiet c = λ top me a r e.
    let unknown = nothing_known (state_of c.args.kept.now.transactions.ledger c.args.txn) (search rules) in
    c.note_notice.ensures.early (noticed_before top me c.args.clock c.args.node c.args.kept.now a c.args.txn r e unknown)

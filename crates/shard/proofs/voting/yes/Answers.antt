use Rattle.std.proofs.Common.{rules}
use Rattle.write_txn.specs.Ledger.{state_of, completed_by}
use Rattle.shard.proofs.in_code.InPlace.{on_ok, nothing_known}
use Rattle.std.specs.Prelude.{is_some}
use Rattle.shard.proofs.in_code.QuietSteps.{contrary, not_last, voted_before}
use Rattle.shard.proofs.voting.yes.Goals as goal

pub returns-then-not-knows-clause-step : goal.returns-then-not-knows-clause-step
returns-then-not-knows-clause-step c =
    let unknown = nothing_known (state_of c.args.kept.now.transactions.ledger c.args.txn) (search rules) in
    on_ok c.note_vote.result (λ f top me a r apart. f top me a c.args.outbox.now.sent r unknown) c.note_vote.ensures.step

pub returns-clause-step : goal.returns-clause-step
returns-clause-step c = c.count.ensures c.args.outbox.now.sent

pub returns-then-not-knows-clause-quiet : goal.returns-then-not-knows-clause-quiet
returns-then-not-knows-clause-quiet c = λ top me a r e.
    let unknown = nothing_known (state_of c.args.kept.now.transactions.ledger c.args.txn) (search rules) in
    c.note_vote.ensures.early (voted_before top me c.args.clock c.args.node c.args.kept.now a c.args.txn r e unknown)

pub returns-then-is_last-clause-quiet : goal.returns-then-is_last-clause-quiet
returns-then-is_last-clause-quiet c = λ top me a r e.
    contrary (is_some (completed_by c.args.node (state_of c.args.kept.now.transactions.ledger c.args.txn))) (search rules) (not_last top me c.args.clock c.args.node c.args.kept.now a c.args.txn r e)

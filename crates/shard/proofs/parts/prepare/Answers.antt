use Rattle.std.proofs.Common.{rules}
use Rattle.shard.proofs.in_code.PartSteps.{prepares}
use Rattle.std.specs.Prelude.{is_some}
use Rattle.write_txn.specs.Ledger.{state_of}
use Rattle.shard.proofs.in_code.QuietSteps.{contrary, prepared_before}
use Rattle.shard.proofs.parts.prepare.Goals as goal

pub returns-clause-step : goal.returns-clause-step
returns-clause-step c = λ top me a r apart.
    prepares top me c.args.clock c.args.kept.now c.prepare.new.self c.forget_votes.new.self c.forget.new.self a c.args.part c.args.outbox.now.sent c.post.new.self.sent r apart (search rules) (search rules) c.prepare.ensures.store c.prepare.ensures.early c.forget_votes.ensures.ledger c.forget_votes.ensures.store (search rules) (search rules) (search rules)

pub returns-in-Err-clause-quiet : goal.returns-in-Err-clause-quiet
returns-in-Err-clause-quiet c = λ top me a r e.
    let t = c.args.part.writer.txn in
    contrary (is_some (state_of c.args.kept.now.transactions.ledger t)) (prepared_before top me c.args.clock c.args.kept.now a t c.args.part.batch c.args.part.writer.shard r e) (search rules)

pub returns-in_err-prepare-clause-quiet : goal.returns-in_err-prepare-clause-quiet
returns-in_err-prepare-clause-quiet c = λ top me a r e.
    let t = c.args.part.writer.txn in
    contrary (is_some (state_of c.args.kept.now.transactions.ledger t)) (prepared_before top me c.args.clock c.args.kept.now a t c.args.part.batch c.args.part.writer.shard r e) (search rules)

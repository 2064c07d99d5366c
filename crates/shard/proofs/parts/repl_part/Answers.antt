use Rattle.std.proofs.Common.{rules}
use Rattle.shard.proofs.in_code.PartSteps.{keeps_part, drops_part}
use Rattle.std.specs.Prelude.{is_some}
use Rattle.write_txn.specs.Ledger.{state_of}
use Rattle.write_txn.specs.Stands.{kept_part_of}
use Rattle.shard.proofs.in_code.QuietSteps.{contrary, kept_before}
use Rattle.shard.proofs.parts.repl_part.Goals as goal

pub returns-then-knows-clause-step : goal.returns-then-knows-clause-step
returns-then-knows-clause-step c = λ top me a r apart. drops_part top me c.args.clock c.args.kept.now a c.args.held c.args.outbox.now.sent r (search rules)

pub returns-clause-step : goal.returns-clause-step
returns-clause-step c = λ top me a r apart.
    keeps_part top me c.args.clock c.args.kept.now c.keep.new.self c.forget_votes.new.self c.forget.new.self a c.args.held c.args.outbox.now.sent c.post.new.self.sent r apart (search rules) (search rules) c.keep.ensures.store c.keep.ensures.early c.forget_votes.ensures.ledger c.forget_votes.ensures.store (search rules) (search rules) (search rules)

pub returns-in-Err-clause-quiet : goal.returns-in-Err-clause-quiet
returns-in-Err-clause-quiet c = λ top me a r e.
    contrary (is_some (state_of c.args.kept.now.transactions.ledger c.args.held.part.writer.txn)) (kept_before top me c.args.clock c.args.kept.now a (kept_part_of c.args.held) r e) (search rules)

pub returns-in_err-keep-clause-quiet : goal.returns-in_err-keep-clause-quiet
returns-in_err-keep-clause-quiet c = λ top me a r e.
    contrary (is_some (state_of c.args.kept.now.transactions.ledger c.args.held.part.writer.txn)) (kept_before top me c.args.clock c.args.kept.now a (kept_part_of c.args.held) r e) (search rules)

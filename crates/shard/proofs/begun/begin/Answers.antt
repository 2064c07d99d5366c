use Rattle.shard.proofs.in_code.InPlace.{on_ok}
use Rattle.std.proofs.Common.{rules, arith}
use Rattle.std.specs.Prelude.{is_some}
use Rattle.write_txn.specs.Ledger.{state_of}
use Rattle.shard.specs.Begun.{ballot_of}
use Rattle.shard.proofs.in_code.QuietSteps.{contrary, begun_before}
use Rattle.std.proofs.lemmas.Grind.{common_steps}
use Rattle.shard.proofs.begun.begin.Goals as goal

pub returns-else-is_empty-clause-step : goal.returns-else-is_empty-clause-step
returns-else-is_empty-clause-step c = on_ok c.hold.result (λ f. f c.args.outbox.now.sent) c.hold.ensures.step

pub returns-in-Err-clause-quiet : goal.returns-in-Err-clause-quiet
returns-in-Err-clause-quiet c = λ top me a r e.
    contrary (is_some (state_of c.args.kept.now.transactions.ledger c.args.begun.txn)) (begun_before top me c.args.clock c.args.kept.now a (ballot_of c.args.begun) r e) (search rules)

pub returns-then-is_empty-clause-quiet : goal.returns-then-is_empty-clause-quiet
returns-then-is_empty-clause-quiet c = λ top me a r e.
    contrary (is_some (state_of c.args.kept.now.transactions.ledger c.args.begun.txn)) (begun_before top me c.args.clock c.args.kept.now a (ballot_of c.args.begun) r e) (search rules)

pub returns-else-is_empty-clause-quiet : goal.returns-else-is_empty-clause-quiet
returns-else-is_empty-clause-quiet c = λ top me a r e.
    contrary (is_some (state_of c.args.kept.now.transactions.ledger c.args.begun.txn)) (begun_before top me c.args.clock c.args.kept.now a (ballot_of c.args.begun) r e) (search rules)

pub returns-else-is_empty-clause-same : goal.returns-else-is_empty-clause-same
returns-else-is_empty-clause-same c = grind (arith, common_steps)

pub returns-else-is_empty-clause-unsent : goal.returns-else-is_empty-clause-unsent
returns-else-is_empty-clause-unsent c = grind (arith, common_steps)

pub returns-in-Err-clause-same : goal.returns-in-Err-clause-same
returns-in-Err-clause-same c = grind (arith, common_steps)

pub returns-in-Err-clause-step : goal.returns-in-Err-clause-step
returns-in-Err-clause-step c = grind (arith, common_steps)

pub returns-in-Err-clause-unsent : goal.returns-in-Err-clause-unsent
returns-in-Err-clause-unsent c = grind (arith, common_steps)

pub returns-then-is_empty-clause-same : goal.returns-then-is_empty-clause-same
returns-then-is_empty-clause-same c = grind (arith, common_steps)

pub returns-then-is_empty-clause-step : goal.returns-then-is_empty-clause-step
returns-then-is_empty-clause-step c = grind (arith, common_steps)

pub returns-then-is_empty-clause-unsent : goal.returns-then-is_empty-clause-unsent
returns-then-is_empty-clause-unsent c = grind (arith, common_steps)

pub returns-then-knows-clause-quiet : goal.returns-then-knows-clause-quiet
returns-then-knows-clause-quiet c = grind (arith, common_steps)

pub returns-then-knows-clause-same : goal.returns-then-knows-clause-same
returns-then-knows-clause-same c = grind (arith, common_steps)

pub returns-then-knows-clause-unsent : goal.returns-then-knows-clause-unsent
returns-then-knows-clause-unsent c = grind (arith, common_steps)

use Rattle.shard.proofs.in_code.QuietSteps.{check_answers}
use Rattle.shard.proofs.checking.check.Goals as goal

pub returns-in_err-reserve-clause-quiet : goal.returns-in_err-reserve-clause-quiet
returns-in_err-reserve-clause-quiet c = λ top me a r e. check_answers me c.args.clock a c.args.from c.args.txn c.args.time e

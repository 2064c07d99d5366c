use Rattle.std.proofs.Common.{rules}
use Rattle.shard.proofs.in_code.ReadsAnswered.{reads}
use Rattle.shard.proofs.in_code.QuietSteps.{read_answers}
use Rattle.shard.proofs.reading.read.Goals as goal

pub returns-clause-step : goal.returns-clause-step
returns-clause-step c = λ top me a r apart.
    reads top me c.args.clock c.args.kept.now a c.args.from c.args.number c.args.asked.now c.marks.result.now c.in_ok-rows.rows c.args.outbox.now.sent c.post.new.self.sent r (search rules) (search rules) (search rules)

pub returns-in_err-rows-clause-quiet : goal.returns-in_err-rows-clause-quiet
returns-in_err-rows-clause-quiet c = λ top me a r e. read_answers me c.args.clock a c.args.from c.args.number c.args.asked.now e

pub returns-in_err-reserve-clause-quiet : goal.returns-in_err-reserve-clause-quiet
returns-in_err-reserve-clause-quiet c = λ top me a r e. read_answers me c.args.clock a c.args.from c.args.number c.args.asked.now e

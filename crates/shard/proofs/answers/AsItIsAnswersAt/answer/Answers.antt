use Rattle.shard.proofs.in_code.ReadsAnswered.{each_answer}
use Rattle.shard.proofs.answers.AsItIsAnswersAt.answer.Goals as goal

pub returns-clause-ok : goal.returns-clause-ok
returns-clause-ok c = each_answer c.args.self.now.store.now c.args.time c.args.read.now c.answer_at.result c.answer_at.ensures.ok

use Rattle.shard.specs.Coming.{applied_of}
use Rattle.shard.proofs.in_code.ComingAnswers.{answered_with}
use Rattle.shard.proofs.coming.StoreWithAnswersAt.answer.Goals as goal

pub returns-clause-ok : goal.returns-clause-ok
returns-clause-ok c = answered_with c.args.self.now.store.now (applied_of c.args.self.now.coming.now) c.args.time c.args.read.now c.answer_with.result c.answer_with.ensures.ok

use Rattle.std.proofs.Common.{rules}
use Rattle.shard.proofs.in_code.EarlySteps.{notes_notice}
use Rattle.shard.proofs.early.note_notice.Goals as goal

pub returns-clause-step : goal.returns-clause-step
returns-clause-step c = λ top me a sent r unknown. notes_notice top me c.args.clock c.args.kept.now c.add.new.self a c.args.txn c.args.node sent r unknown (search rules)

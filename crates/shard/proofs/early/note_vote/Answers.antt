use Rattle.std.proofs.Common.{rules}
use Rattle.shard.proofs.in_code.EarlySteps.{notes_vote}
use Rattle.shard.proofs.early.note_vote.Goals as goal

pub returns-clause-step : goal.returns-clause-step
returns-clause-step c = λ top me a sent r unknown.
    notes_vote top me c.args.clock c.args.kept.now c.note_vote.new.self a c.args.txn c.args.node sent r unknown (search rules) c.note_vote.ensures.ledger c.note_vote.ensures.store

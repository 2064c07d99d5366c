use Rattle.std.proofs.Common.{◌∙◌}
use Rattle.txn_state.proofs.Txns.{taken}
use Rattle.txn_state.proofs.answers.take_out.Goals as goal

pub returns-clause-rest : goal.returns-clause-rest
returns-clause-rest c = c.remove-was_missing.ensures.keys ∙ taken c.args.txn c.args.missing.now.keys c.requires

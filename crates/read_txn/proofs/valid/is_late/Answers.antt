use Rattle.std.proofs.Common.{◌∙◌}
use Rattle.read_txn.proofs.RowsHeard.{late_answers}
use Rattle.read_txn.proofs.valid.is_late.Goals as goal

pub returns : goal.returns
returns c = c.has_late_answer.ensures ∙ late_answers c.args.time c.args.heard.now c.args.node

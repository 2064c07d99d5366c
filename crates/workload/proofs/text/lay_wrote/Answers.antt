use Rattle.std.proofs.Common.{rules, arith}
use Rattle.workload.proofs.Pieces.{laid_more}
use Rattle.workload.specs.Text.{op_text, commit_text}
use Rattle.workload.proofs.text.lay_wrote.Goals as goal

pub returns-clause-laid : goal.returns-clause-laid
returns-clause-laid c =
    laid_more c.lay_op-middle.new.text c.lay_commit.new.text (op_text c.args.node c.args.number) (commit_text c.args.commit c.args.stamp) c.lay_op-middle.result c.lay_commit.result
    (omega arith) (omega arith) (search rules) (search rules)

use Rattle.std.proofs.Common.{rules, ◌∙◌, arith, codes, decimal, ◌++◌, append_assoc}
use Rattle.workload.proofs.Pieces.{laid_more}
use Rattle.workload.specs.Text.{op_text}
use Rattle.workload.proofs.text.lay_op.Goals as goal

pub returns-clause-laid : goal.returns-clause-laid
unfolding op_text
returns-clause-laid c =
    laid_more c.lay_number-middle.new.text c.lay_number.new.text (codes "node " ++ decimal c.args.node) (codes " op " ++ decimal c.args.number) c.lay_number-middle.result c.lay_number.result
    (omega arith) (omega arith) (search rules) (search rules)
    ∙ simp append_assoc

use Rattle.std.proofs.Common.{rules, ◌∙◌, arith, codes, decimal, ◌++◌, append_assoc}
use Rattle.workload.proofs.Pieces.{line_is}
use Rattle.workload.specs.Text.{op_text}
use Rattle.workload.proofs.text.lay_read.Goals as goal

pub returns-clause-laid : goal.returns-clause-laid
returns-clause-laid c =
    line_is c.lay_op-middle.new.text c.lay_number.new.text (op_text c.args.node c.args.number) (codes " read at " ++ decimal c.args.effective) c.lay_op-middle.result c.lay_number.result
    (omega arith) (omega arith) (search rules) (search rules) (search rules)
    ∙ simp append_assoc

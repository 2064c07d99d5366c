use Rattle.std.proofs.Common.{rules, ◌∙◌, arith, codes, decimal, ◌++◌, append_assoc}
use Rattle.workload.proofs.Pieces.{laid_more}
use Rattle.workload.proofs.text.lay_stamp.Goals as goal

pub returns-clause-laid : goal.returns-clause-laid
returns-clause-laid c =
    laid_more c.lay_number-middle.new.text c.lay_number.new.text (codes " stamp " ++ decimal c.args.stamp.time) (codes "." ++ decimal c.args.stamp.node) c.lay_number-middle.result c.lay_number.result
    (omega arith) (omega arith) (search rules) (search rules)
    ∙ simp append_assoc

use Rattle.std.proofs.Common.{rules, ◌∙◌, arith, codes, decimal, ◌++◌, append_assoc}
use Rattle.workload.proofs.Pieces.{line_is}
use Rattle.workload.proofs.tail.lay_found.Goals as goal

pub returns-clause-laid : goal.returns-clause-laid
returns-clause-laid c =
    line_is c.lay_number-middle.new.text c.lay_number.new.text (codes "audit reads " ++ decimal c.args.found.reads) (codes " wrong " ++ decimal c.args.found.wrong) c.lay_number-middle.result c.lay_number.result
    (omega arith) (omega arith) (search rules) (search rules) (search rules)
    ∙ simp append_assoc

use Rattle.std.proofs.Common.{rules, ◌∙◌, arith, codes, decimal, ◌++◌, append_assoc}
use Rattle.workload.proofs.Pieces.{line_is}
use Rattle.workload.proofs.text.lay_move.Goals as goal

pub returns-clause-laid : goal.returns-clause-laid
returns-clause-laid c =
    line_is c.lay_number-middle.new.text c.lay_number.new.text (codes " moved to " ++ decimal c.args.dc) (codes " floor " ++ decimal c.args.floor) c.lay_number-middle.result c.lay_number.result
    (omega arith) (omega arith) (search rules) (search rules) (search rules)
    ∙ simp append_assoc

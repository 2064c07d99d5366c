use Rattle.std.proofs.Common.{rules, arith}
use Rattle.workload.proofs.Pieces.{laid_more}
use Rattle.workload.specs.Text.{op_text, move_text}
use Rattle.workload.proofs.text.lay_moved.Goals as goal

pub returns-clause-laid : goal.returns-clause-laid
returns-clause-laid c =
    laid_more c.lay_op-middle.new.text c.lay_move.new.text (op_text c.args.node c.args.number) (move_text c.args.dc c.args.floor) c.lay_op-middle.result c.lay_move.result
    (omega arith) (omega arith) (search rules) (search rules)

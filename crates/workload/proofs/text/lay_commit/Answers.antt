use Rattle.std.proofs.Common.{rules, ◌∙◌, ap, arith, codes, decimal, ◌++◌}
use Rattle.workload.proofs.Pieces.{behind, line_is}
use Rattle.workload.proofs.text.lay_commit.Goals as goal

pub returns-clause-laid : goal.returns-clause-laid
returns-clause-laid c =
    let first = codes " wrote commit " ++ decimal c.args.commit in
    let time = decimal c.args.stamp.time in
    let node = decimal c.args.stamp.node in
    line_is c.lay_number-middle.new.text c.lay_stamp.new.text first (codes " stamp " ++ time ++ codes "." ++ node) c.lay_number-middle.result c.lay_stamp.result
    (omega arith) (omega arith) (search rules) (search rules) (search rules)
    ∙ ap (λ l. l ++ codes "\n") (behind first (codes " stamp ") time (codes ".") node)

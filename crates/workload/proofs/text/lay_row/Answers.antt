use Rattle.std.proofs.Common.{rules, ◌∙◌, arith, codes, ◌++◌, append_assoc}
use Rattle.std.specs.List.{flat_map}
use Rattle.hex.specs.Hex.{encode_lower}
use Rattle.workload.specs.Text.{column_text}
use Rattle.workload.proofs.Pieces.{line_is}
use Rattle.workload.proofs.text.lay_row.Goals as goal

pub returns-clause-laid : goal.returns-clause-laid
returns-clause-laid c =
    let first = codes "  " ++ encode_lower c.args.key.now ++ codes ":" in
    let second = flat_map column_text c.args.columns.now in
    line_is c.lay_key-middle.new.text c.lay_columns.new.text first second c.lay_key-middle.result c.lay_columns.result
    (omega arith) (omega arith) (search rules) c.lay_key-middle.ensures.laid c.lay_columns.ensures.laid
    ∙ simp append_assoc

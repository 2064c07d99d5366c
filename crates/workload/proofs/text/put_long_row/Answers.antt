use Rattle.std.proofs.Common.{codes, ◌++◌, refl, append_assoc}
use Rattle.hex.specs.Hex.{encode_lower}
use Rattle.std.specs.List.{flat_map}
use Rattle.workload.specs.Text.{column_text}
use Rattle.workload.proofs.Pieces.{ended, joined}
use Rattle.workload.proofs.text.put_long_row.Goals as goal

pub returns-in_err-put_key : goal.returns-in_err-put_key
returns-in_err-put_key g c =
    let first = codes "  " ++ encode_lower c.args.key.now ++ codes ":" in
    let second = flat_map column_text c.args.columns.now in
    let third = codes "\n" in
    ended g.W.Write.contents _ _ _ c.from_residual.result _ first (second ++ third) (simp append_assoc) c.from_residual.ensures.1 c.in_err-put_key.ensures

pub returns-in_err-put_columns : goal.returns-in_err-put_columns
returns-in_err-put_columns g c =
    let first = codes "  " ++ encode_lower c.args.key.now ++ codes ":" in
    let second = flat_map column_text c.args.columns.now in
    let third = codes "\n" in
    joined g.W.Write.contents _ _ _ _ _ _ first (second ++ third) (simp append_assoc) c.in_ok-put_key.ensures
    (ended g.W.Write.contents _ _ _ c.from_residual-in_err-put_columns.result (second ++ third) second third refl c.from_residual-in_err-put_columns.ensures.1 c.in_err-put_columns.ensures)

pub returns : goal.returns
returns g c =
    let first = codes "  " ++ encode_lower c.args.key.now ++ codes ":" in
    let second = flat_map column_text c.args.columns.now in
    let third = codes "\n" in
    joined g.W.Write.contents _ _ _ _ _ _ first (second ++ third) (simp append_assoc) c.in_ok-put_key.ensures
    (joined g.W.Write.contents _ _ _ _ _ (second ++ third) second third refl c.in_ok-put_columns.ensures c.put.ensures.adds)

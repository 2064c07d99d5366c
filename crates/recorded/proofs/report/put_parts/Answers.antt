use Rattle.std.proofs.Common.{codes, ◌++◌, refl}
use Rattle.std.specs.List.{flat_map}
use Rattle.workload.specs.Text.{row_text}
use Rattle.workload.proofs.Pieces.{ended, joined}
use Rattle.recorded.specs.Report.{place_text}
use Rattle.recorded.proofs.report.put_parts.Goals as goal

pub returns-in_err-put_number : goal.returns-in_err-put_number
returns-in_err-put_number g c =
    let first = place_text c.args.place in
    let second = flat_map row_text c.args.answered.now in
    let rest = codes "table has\n" ++ flat_map row_text c.args.table.now in
    ended g.W.Write.contents _ _ _ c.from_residual.result _ first (second ++ rest) refl c.from_residual.ensures.1 c.in_err-put_number.ensures

pub returns-in_err-put_rows : goal.returns-in_err-put_rows
returns-in_err-put_rows g c =
    let first = place_text c.args.place in
    let second = flat_map row_text c.args.answered.now in
    let rest = codes "table has\n" ++ flat_map row_text c.args.table.now in
    joined g.W.Write.contents _ _ _ _ _ _ first (second ++ rest) refl c.in_ok-put_number.ensures
    (ended g.W.Write.contents _ _ _ c.from_residual-in_err-put_rows.result (second ++ rest) second rest refl c.from_residual-in_err-put_rows.ensures.1 c.in_err-put_rows.ensures)

pub returns-in_err-put : goal.returns-in_err-put
returns-in_err-put g c =
    let first = place_text c.args.place in
    let second = flat_map row_text c.args.answered.now in
    let third = codes "table has\n" in
    let fourth = flat_map row_text c.args.table.now in
    joined g.W.Write.contents _ _ _ _ _ _ first (second ++ (third ++ fourth)) refl c.in_ok-put_number.ensures
    (joined g.W.Write.contents _ _ _ _ _ (second ++ (third ++ fourth)) second (third ++ fourth) refl c.in_ok-put_rows.ensures
    (ended g.W.Write.contents _ _ _ c.from_residual-in_err-put.result (third ++ fourth) third fourth refl c.from_residual-in_err-put.ensures.1 c.in_err-put.ensures.adds))

pub returns : goal.returns
returns g c =
    let first = place_text c.args.place in
    let second = flat_map row_text c.args.answered.now in
    let third = codes "table has\n" in
    let fourth = flat_map row_text c.args.table.now in
    joined g.W.Write.contents _ _ _ _ _ _ first (second ++ (third ++ fourth)) refl c.in_ok-put_number.ensures
    (joined g.W.Write.contents _ _ _ _ _ (second ++ (third ++ fourth)) second (third ++ fourth) refl c.in_ok-put_rows.ensures
    (joined g.W.Write.contents _ _ _ _ _ (third ++ fourth) third fourth refl c.in_ok-put.ensures.adds c.put_rows-2.ensures))

use Rattle.std.proofs.Common.{◌≡◌, ◌∙◌, ap, ℕ, List, rules}
use Rattle.std.proofs.lemmas.Result.{on_ok_weaker}
use Rattle.column_family.specs.declared.places.RowPart.{RowPart}
use Rattle.column_family.specs.declared.places.RowPart.TheVariants.{Column}
use Rattle.column_family.specs.declared.places.Place.{Place}
use Rattle.column_family.proofs.Removing.{range_left}
use Rattle.column_family.proofs.normalizing.remove_range.Goals as goal

pub returns : goal.returns
returns c =
    let start : c.in_ok-clone.field-0 ≡ c.args.start.now = search rules in
    let low : Place = record { row = c.args.row; part = Column c.in_ok-clone.field-0 } in
    let high : Place = record { row = c.args.row; part = c.in_ok-last_part.field-0 } in
    on_ok_weaker c.remove_between.result
    (λ kept. kept ∙ range_left c.args.row c.args.start.now c.args.finish.now low high
    (ap (λ (n : List ℕ). record { row = c.args.row; part = Column n }) start) (ap (λ (p : RowPart). record { row = c.args.row; part = p }) c.in_ok-last_part.ensures)
    c.args.kept.now.entries)
    c.remove_between.ensures

use Rattle.std.proofs.Common.{◌∙◌, ap}
use Rattle.std.specs.Prelude.{true, if◌then◌else◌}
use Rattle.std.specs.Ordering.{is_eq}
use Rattle.column_family.specs.Places.{is_listed, row_cmp}
use Rattle.store.specs.Crowded.{Listed}
use Rattle.store.proofs.applied.Listed.{pushed}
use Rattle.store.proofs.crowded.Crowded.add.Goals as goal

pub returns-clause-listed : goal.returns-clause-listed
returns-clause-listed c = λ r.
    rw c.push_reserved.ensures.items
    (pushed c.self.inside.rows.items c.args.row r ∙ ap (λ (x : Listed). if is_eq (row_cmp c.args.row r) then true else is_listed x.rows r) c.self.view_is)

-- What contracts see of the newest mutations in a history.
use Rattle.std.specs.Prelude.{Bool}
use Rattle.column_family.specs.declared.batch.Change.{Change}
use Rattle.column_family.specs.declared.newest.NewestMutation.{NewestMutation}
use Rattle.column_family.specs.declared.newest.Test.{Test}
use Rattle.column_family.specs.declared.newest.Test.TheVariants.{Touches, ChangesColumn, DeletesRow}
use Rattle.column_family.specs.Location.{touches, is_column_change, is_row_deletion}
use Rattle.column_family.specs.History.{Stamped, stamped}

-- the mutation that stands there, with the stamp and the commit time of its batch
abbrev pub seen : NewestMutation → Stamped
seen n = stamped n.entry.now n.mutation.now

-- whether a change is one of those that are looked for
abbrev pub passes : Test → Change → Bool
passes (Touches row name) = touches (record { row = row.now; name = name.now })
passes (ChangesColumn row name) = is_column_change (record { row = row.now; name = name.now })
passes (DeletesRow row) = is_row_deletion row.now

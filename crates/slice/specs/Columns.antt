-- Lists of columns.
use Rattle.std.specs.Prelude.{List, [], Option, Some, None}
use Rattle.std.specs.Global.{Global, Vec}
use Rattle.std.specs.declared.sync.Arc.{Arc}
use Rattle.slice.specs.declared.column.Column.{Column}

-- the columns that are shared, if there are any
abbrev pub columns_in : Option (Arc (Vec Column) Global) → List Column
columns_in None = []
columns_in (Some a) = a.value.items

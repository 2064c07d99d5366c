-- Lists of writers, which stand in one of two places.
use Rattle.std.specs.Prelude.{List}
use Rattle.logical_time.specs.Stamps.{WriterValue}
use Rattle.logical_time.specs.declared.writers.WriterList.{WriterList}
use Rattle.logical_time.specs.declared.writers.WriterList.TheVariants.{One, Many}

-- the writers
abbrev pub kept_in : WriterList → List WriterValue
kept_in (One writer) = writer
kept_in (Many writers) = writers.items

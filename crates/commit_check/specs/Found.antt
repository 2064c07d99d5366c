-- What is found of a row, by all that the store keeps.
use Rattle.std.specs.Prelude.{◌≡◌, ℕ, List, Option}
use Rattle.slice.specs.declared.read.Read.{Read}
use Rattle.store.specs.declared.part.Applied.{Applied}
use Rattle.store.specs.declared.part.Part.{Part}
use Rattle.store.specs.Stored.{StoreValue}
use Rattle.store.specs.Keeps.{Keeps}
use Rattle.store.specs.Part.{IsNewestPart, IsRightPart}
use Rattle.pending.specs.Marks.{MarkList, time_at}
use Rattle.messages.specs.declared.rows_now.RowNow.{RowNow}
use Rattle.slice.specs.Rows.{row_of}
use Rattle.commit_check.specs.declared.reading_at.ComingPart.{ComingPart}
use Rattle.commit_check.specs.Coming.{applied_after, MayCome}
use Rattle.commit_check.specs.Marked.{IsLatest}

abbrev pub part_of : RowNow → Part
part_of r = record { columns = r.columns; writers = r.writers; evt = r.evt }

-- the row of a key as it is found by the newest versions, and until when it is known to be valid
pub record IsFoundNow (s : StoreValue) (ms : MarkList) (n : ℕ) (read : Read) (key : List ℕ) (r : RowNow) : Type 0 where
  pub key_is : r.key ≡ key
  pub newest : (all : List Applied) → Keeps s all → IsNewestPart all (row_of read key) read.predicate (part_of r)
  pub lvt_is : IsLatest (time_at ms (row_of read key)) n r.lvt

-- what is found of the row of a key at a time is right then, once the part is applied that is coming, if there is one
abbrev pub IsFoundAt : StoreValue → Option ComingPart → ℕ → Read → List ℕ → Part → Type 0
IsFoundAt s coming time read key part =
    (all : List Applied) → Keeps s all → MayCome coming all → IsRightPart (applied_after coming all) (row_of read key) read.predicate time part

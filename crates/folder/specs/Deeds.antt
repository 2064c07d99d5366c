-- What is done to a file.
use Rattle.std.specs.Prelude.{ℕ, List, [], Option, Some, None}
use Rattle.std.specs.declared.snapshot.Snapshot.{Snapshot}
use Rattle.folder.specs.declared.done.Done.{Done}
use Rattle.folder.specs.declared.done.Done.TheVariants as done

-- bytes are written behind its end, it is cut to so many, or it is synced
pub data Deed : Type 0 where
  Added : (bytes : List ℕ) → Deed
  Cut_to : (length : ℕ) → Deed
  Synced : Deed

abbrev pub deed_of : Done → Deed
deed_of (done.Written s) = Added s.value.items
deed_of (done.Shortened n) = Cut_to n
deed_of done.Settled = Synced

-- what was done before
abbrev pub before_of : {X : Type 0} → Option (Snapshot (List X)) → List X
before_of None = []
before_of (Some s) = s.value

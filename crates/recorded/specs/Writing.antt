-- What a JSON value that was written is.
use Rattle.std.specs.Prelude.{◌≡◌, ◌≤◌, ℕ, Option, Some, codes, ◌⊎◌}
use Rattle.logical_time.specs.declared.fault.Fault.{Fault}
use Rattle.logical_time.specs.declared.fault.Fault.TheVariants.{Script, Memory}
use Rattle.serde_json.specs.Data.{Data, string, array, item, no_items, depth}
use Rattle.column_family.specs.declared.batch.Mutation.{Mutation}
use Rattle.column_family.specs.declared.batch.Mutation.TheVariants.{Insert, DeleteColumn, DeleteRow, DeleteRange}

-- a value that stands for x, and nests no deeper than that
pub record Spells {A : Type 0} (stands_for : Data → Option A) (most : ℕ) (d : Data) (x : A) : Type 0 where
  pub stands : stands_for d ≡ Some x
  pub nests : depth d ≤ most

-- a mutation as scripts write it
abbrev pub mutation_json : Mutation → Data
mutation_json (Insert n v) = array (item (string (codes "insert")) (item (string n) (item (string v) no_items)))
mutation_json (DeleteColumn n) = array (item (string (codes "delete")) (item (string n) no_items))
mutation_json DeleteRow = array (item (string (codes "delete_row")) no_items)
mutation_json (DeleteRange start finish) = array (item (string (codes "delete_range")) (item (string start) (item (string finish) no_items)))

-- why nothing was written: a part is none that a text can hold and a reader takes, or memory is out
abbrev pub IsUnwritten : Fault → Type 0
IsUnwritten e = (e ≡ Script) ⊎ (e ≡ Memory)

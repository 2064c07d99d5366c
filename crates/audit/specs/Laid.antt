-- Histories that are laid out in a store.
use Rattle.std.specs.Prelude.{◌≡◌, ⊤, List, map, Option, Some, None}
use Rattle.std.specs.List.Sorted.{IsPermutation}
use Rattle.logical_time.specs.Stamps.{WriterValue}
use Rattle.column_family.specs.declared.batch.Committed.{Committed}
use Rattle.column_family.specs.History.{History}
use Rattle.column_family.specs.Places.{normal_of}
use Rattle.store.specs.declared.part.Applied.{Applied}
use Rattle.store.specs.Stored.{StoreValue}
use Rattle.store.specs.Keeps.{Keeps}

-- a writer for every part: who wrote counts for no answer
abbrev pub nobody : WriterValue
nobody = record { txn = record { session = 0; number = 0 }; shard = 0 }

-- an entry as a part that was applied: the normal form of its batch
abbrev pub applied_of : Committed → Applied
applied_of c = record { part = record { writer = nobody; batch = normal_of c.batch }; commit = c.commit; stamp = c.stamp }

-- the entries as parts that were applied
abbrev pub all_applied : History → List Applied
all_applied h = map applied_of h

-- a store to which these entries were applied, and no more, and which answers at every time
pub record IsApplied (s : StoreValue) (h : History) : Type 0 where
  pub keeps : Keeps s (all_applied h)
  pub low : s.low ≡ 0

-- a store to which the entries of a history were applied, in some order
pub record IsLaidOut (s : StoreValue) (h : History) : Type 0 where
  pub order : History
  pub same : IsPermutation h order
  pub applied : IsApplied s order

-- the same, where there is a store
abbrev pub IsAppliedIn : Option StoreValue → History → Type 0
IsAppliedIn None h = ⊤
IsAppliedIn (Some s) h = IsApplied s h

abbrev pub IsLaidIn : Option StoreValue → History → Type 0
IsLaidIn None h = ⊤
IsLaidIn (Some s) h = IsLaidOut s h

-- Histories, and the table that a history has at a time.
use Rattle.std.specs.Prelude.{◌≡◌, ℕ, Bool, true, false, ◌&&◌, not, nat_le, if◌then◌else◌, List, [], ◌∷◌, filter, Option, Some, None, option_map, is_some, ◌⊎◌}
use Rattle.std.specs.Option.{option_or}
use Rattle.std.specs.List.{list_any}
use Rattle.std.specs.Ordering.{is_eq}
use Rattle.logical_time.specs.Stamps.{StampValue, stamp_cmp, is_older}
use Rattle.column_family.specs.declared.batch.Change.{Change}
use Rattle.column_family.specs.declared.batch.Committed.{Committed}
use Rattle.column_family.specs.declared.batch.Mutation.{Mutation}
use Rattle.column_family.specs.declared.batch.Mutation.TheVariants.{Insert, DeleteColumn, DeleteRow, DeleteRange}
use Rattle.column_family.specs.Location.{Location, touches, is_column_change, deletes_row, is_row_deletion, strikes}

-- a history: batches as they were submitted, each with the stamp of its transaction and its commit
-- time, in any order
abbrev pub History : Type 0
History = List Committed

-- what is committed at or before a time
abbrev pub up_to : ℕ → History → History
up_to t h = filter (λ c. nat_le c.commit t) h

-- a mutation, with the stamp and the commit time of its transaction
pub record Stamped : Type 0 where
  pub stamp : StampValue
  pub commit : ℕ
  pub mutation : Mutation

-- of two mutations the newer is that of the greater stamp: the last writer wins (Eiger). Two transactions have two
-- stamps; where a history breaks that, the first in the list counts as newer
abbrev pub newer_of : Option Stamped → Option Stamped → Option Stamped
newer_of None b = b
newer_of (Some a) None = Some a
newer_of (Some a) (Some b) = if is_older a.stamp b.stamp then Some b else Some a

-- of the changes of a batch that pass the test, the last: inside one batch a later change is newer
abbrev pub last_of : (Change → Bool) → List Change → Option Mutation
last_of p [] = None
last_of p (c ∷ cs) = option_or (last_of p cs) (if p c then Some c.mutation else None)

-- a mutation of a committed batch
abbrev pub stamped : Committed → Mutation → Stamped
stamped c m = record { stamp = c.stamp; commit = c.commit; mutation = m }

-- of the changes of a history that pass the test, the newest
abbrev pub newest_of : (Change → Bool) → History → Option Stamped
newest_of p [] = None
newest_of p (c ∷ h) =
    newer_of (option_map (stamped c) (last_of p c.batch)) (newest_of p h)

-- the newest of the mutations that touch a location, with its stamp and commit time
abbrev pub newest : History → Location → Option Stamped
newest h l = newest_of (touches l) h

-- the same at a time: among what is committed by then
abbrev pub newest_at : History → ℕ → Location → Option Stamped
newest_at h t l = newest (up_to t h) l

-- the table of a history at a time: what was last done to each location, of what is committed by then
abbrev pub table_at : History → ℕ → Location → Option Mutation
table_at h t l = option_map (λ s. s.mutation) (newest_at h t l)

abbrev pub inserted : Mutation → Option (List ℕ)
inserted (Insert n v) = Some v
inserted (DeleteColumn n) = None
inserted DeleteRow = None
inserted (DeleteRange start finish) = None

-- a location is live with the value that the mutation inserts which the table gives it, and else holds no column
abbrev pub live_value : Option Mutation → Option (List ℕ)
live_value None = None
live_value (Some m) = inserted m

-- the same of a newest mutation that is told with its stamp
abbrev pub value_of : Option Stamped → Option (List ℕ)
value_of None = None
value_of (Some s) = inserted s.mutation

-- the stamp of a mutation's transaction, if there is a mutation
abbrev pub stamp_of : Option Stamped → Option StampValue
stamp_of o = option_map (λ s. s.stamp) o

-- whether a mutation, if there is one, deletes no row
abbrev pub keeps_row : Option Mutation → Bool
keeps_row None = false
keeps_row (Some m) = not (deletes_row m)

-- whether a batch deletes a range of columns that has the location, and its row by no later change: of these
-- deletions the last is that of a range
abbrev pub leaves_range : Location → List Change → Bool
leaves_range l cs = keeps_row (last_of (strikes l) cs)

-- whether the stamp is older than that of a mutation, if there is a mutation
abbrev pub is_older_than : Option Stamped → StampValue → Bool
is_older_than None s = false
is_older_than (Some x) s = is_older s x.stamp

-- Whether the transaction of this stamp deletes a range of columns that has the location, newer than the newest
-- deletion of its row: with a greater stamp, or later in the batch of that deletion.
abbrev pub ranges_at : History → Location → StampValue → Bool
ranges_at h l s =
    list_any (λ c. is_eq (stamp_cmp c.stamp s) && leaves_range l c.batch) h
    && not (is_older_than (newest_of (is_row_deletion l.row) h) s)

-- A read of a location rests on the transaction of this stamp: that of its newest mutation, where some column
-- mutation touches it, or that of the newest deletion of its row, or one with a newer deletion of a range that has it.
abbrev pub RestsOn : History → Location → StampValue → Type 0
RestsOn h l s =
    ((is_some (newest_of (is_column_change l) h) ≡ true) × (stamp_of (newest h l) ≡ Some s))
    ⊎ ((stamp_of (newest_of (is_row_deletion l.row) h) ≡ Some s) ⊎ (ranges_at h l s ≡ true))

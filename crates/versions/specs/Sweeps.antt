-- A walk over rising names, with the range deletions that are seen by a time.
use Rattle.std.specs.Prelude.{◌≡◌, ℕ, ◌≤◌, ◌<◌, Bool, true, false, ◌||◌, not, nat_le, List, [], length, Contains, Option, Some, None, ◌⊎◌, slice_get, slice_index_or}
use Rattle.std.specs.Ordering.{nat_cmp, is_lt}
use Rattle.std.specs.Cmp.Lexicographic.{slice_cmp}
use Rattle.std.specs.BinaryHeap.{IsHeap}
use Rattle.versions.specs.declared.range.RangeDeletion.{RangeDeletion}
use Rattle.column_family.specs.Names.{name_le, is_open}

-- the range deletions that are held, the newest first, and the time
pub record Swept : Type 0 where
  pub ranges : List RangeDeletion
  pub time : ℕ

-- whether the name isn't before the first of the range deletion
abbrev pub is_come_to : List ℕ → RangeDeletion → Bool
is_come_to name x = is_open x.start || name_le x.start name

-- whether the name is behind the last of the range deletion
abbrev pub is_left : List ℕ → RangeDeletion → Bool
is_left name x = not (is_open x.finish || name_le name x.finish)

-- the last name that was asked for, or the least
abbrev pub name_of : Option (List ℕ) → List ℕ
name_of None = []
name_of (Some name) = name

-- ---- range deletions by their indices, the oldest first
-- the first name of a range deletion, or none
abbrev pub start_of : Option RangeDeletion → List ℕ
start_of None = []
start_of (Some x) = x.start

abbrev pub start_at : List RangeDeletion → ℕ → List ℕ
start_at rs i = start_of (slice_get rs i)

-- whether the first of the range deletions at two indices begins before the second
abbrev pub is_before : List RangeDeletion → ℕ → ℕ → Bool
is_before rs a b = is_lt (slice_cmp nat_cmp (start_at rs a) (start_at rs b))

-- these are held and seen by the time
abbrev pub AreSeen : List RangeDeletion → ℕ → List ℕ → Type 0
AreSeen rs t is = (i : ℕ) → Contains is i → (i < length rs) × ((d : RangeDeletion) → nat_le (slice_index_or rs i d).evt t ≡ true)

-- each below `n` that is seen by the time is one of these
abbrev pub AreAll : List RangeDeletion → ℕ → ℕ → List ℕ → Type 0
AreAll rs t n is = (i : ℕ) (d : RangeDeletion) → i < n → nat_le (slice_index_or rs i d).evt t ≡ true → Contains is i

-- a name that has come to one of these has come to those before it
abbrev pub AreByStart : List RangeDeletion → List ℕ → Type 0
AreByStart rs ahead =
    (name : List ℕ) (j k e : ℕ) (d : RangeDeletion) → j ≤ k → k < length ahead
    → is_come_to name (slice_index_or rs (slice_index_or ahead k e) d) ≡ true → is_come_to name (slice_index_or rs (slice_index_or ahead j e) d) ≡ true

-- the index is one of those that are still ahead
abbrev pub IsAhead : List ℕ → ℕ → ℕ → Type 0
IsAhead ahead next i = (j : ℕ) × (next ≤ j) × (j < length ahead) × (slice_index_or ahead j i ≡ i)

-- the name has come to those that were reached, and each that is seen is ahead, was reached, or was left
pub record IsOnWay (rs : List RangeDeletion) (t : ℕ) (ahead : List ℕ) (next : ℕ) (reached : List ℕ) (name : List ℕ) : Type 0 where
  pub inside : next ≤ length ahead
  pub seen : AreSeen rs t reached
  pub come : (i : ℕ) (d : RangeDeletion) → Contains reached i → is_come_to name (slice_index_or rs i d) ≡ true
  pub complete :
      (i : ℕ) (d : RangeDeletion) → i < length rs → nat_le (slice_index_or rs i d).evt t ≡ true
      → IsAhead ahead next i ⊎ (Contains reached i ⊎ (is_left name (slice_index_or rs i d) ≡ true))
  pub heap : IsHeap nat_cmp reached

-- the name hasn't come to those that are still ahead
abbrev pub IsAtEnd : List RangeDeletion → List ℕ → ℕ → List ℕ → Type 0
IsAtEnd rs ahead next name = (j e : ℕ) (d : RangeDeletion) → next ≤ j → j < length ahead → is_come_to name (slice_index_or rs (slice_index_or ahead j e) d) ≡ false

-- What a log stands for: the records that are on the disk for good, and those that were noted since.
use Rattle.std.specs.Prelude.{◌≡◌, ℕ, nat_eq, List, ◌++◌, length, Option, Some}
use Rattle.disk.specs.Disk.{IsBeginning, Only}
use Rattle.records.specs.Records.{Entry, spelled, AllFit, recovered, OnlyFrontIsFirst, IsHonest, IsUndamaged}
use Rattle.keeper.specs.declared.log.Log.{Log}

-- the next record that is noted: the first of those that are synced together, or a further one
abbrev pub next : List Entry → List ℕ → Entry
next noted body = record { first = nat_eq (length noted) 0; body = body }

-- a disk holds these records and nothing else, and a crash leaves them
pub record IsKept {D : Type 0} (seen : D → Option (List ℕ)) (may_leave : D → List ℕ → Type 0) (disk : D) (secret end : ℕ) (kept : List Entry) : Type 0 where
  pub file : seen disk ≡ Some (spelled secret 0 kept)
  pub durable : Only (spelled secret 0 kept) (may_leave disk)
  pub long : end ≡ length (spelled secret 0 kept)
  pub fit : AllFit kept

-- these records are on the disk for good, and these were noted since
pub record Stands {D : Type 0} (seen : D → Option (List ℕ)) (may_leave : D → List ℕ → Type 0) (log : Log D) (kept noted : List Entry) : Type 0 where
  pub is_kept : IsKept seen may_leave log.disk log.secret log.end kept
  pub pending : log.pending.items ≡ spelled log.secret log.end noted
  pub fit : AllFit noted
  pub front : OnlyFrontIsFirst noted

-- this is the mark of what was noted after these
abbrev pub IsMark : {D : Type 0} → Log D → ℕ → List Entry → Type 0
IsMark log mark noted = mark ≡ length (spelled log.secret log.end noted)

-- What a crash leaves while these records are synced behind those that were kept: all that were kept, and then, where
-- nothing torn passes its test by chance, the first of them, in order, in a file that isn't taken for a damaged one.
pub record Survives (secret : ℕ) (kept noted : List Entry) (left : List ℕ) : Type 0 where
  pub more : List Entry
  pub all : recovered secret 0 0 left ≡ kept ++ more
  pub some : IsHonest secret (kept ++ noted) left → IsBeginning more noted
  pub undamaged : IsHonest secret (kept ++ noted) left → IsUndamaged secret left

-- what is left of a file stands for the same records, and isn't damaged where the file wasn't
pub record IsAsBefore (secret : ℕ) (file left : List ℕ) : Type 0 where
  pub records : recovered secret 0 0 left ≡ recovered secret 0 0 file
  pub undamaged : IsUndamaged secret file → IsUndamaged secret left

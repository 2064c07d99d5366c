-- What is held of a row's deletions and range deletions whatever is put and collected.
use Rattle.std.specs.Prelude.{◌≡◌, ℕ, max, List, [], ◌∷◌, ⊤}
use Rattle.versions.specs.declared.version.Version.{Version}
use Rattle.versions.specs.declared.range.RangeDeletion.{RangeDeletion}
use Rattle.versions.specs.Chain.{put_of, kept_from}
use Rattle.versions.specs.Newest.{has_stamp}
use Rattle.versions.specs.Ranges.{put_range, kept_ranges}

-- the deletions of a row, and its range deletions
pub record RowDeletions : Type 0 where
  pub deletions : List Version
  pub ranges : List RangeDeletion

-- what is done with them: a put, or a collection of both
pub data RowDeed : Type 0 where
  PutDeletion : (version : Version) → RowDeed
  PutRange : (range : RangeDeletion) → RowDeed
  CollectRow : (time : ℕ) → RowDeed

abbrev pub with_deletion : RowDeletions → Version → RowDeletions
with_deletion row v = record { deletions = put_of row.deletions v; ranges = row.ranges }

abbrev pub with_range : RowDeletions → RangeDeletion → RowDeletions
with_range row x = record { deletions = row.deletions; ranges = put_range row.ranges x }

abbrev pub collected : ℕ → RowDeletions → RowDeletions
collected t row = record { deletions = kept_from t row.deletions; ranges = kept_ranges t row.deletions row.ranges }

-- what is held after these
abbrev pub row_after : RowDeletions → List RowDeed → RowDeletions
row_after held [] = held
row_after held (PutDeletion v ∷ deeds) = row_after (with_deletion held v) deeds
row_after held (PutRange x ∷ deeds) = row_after (with_range held x) deeds
row_after held (CollectRow t ∷ deeds) = row_after (collected t held) deeds

-- all that these add, with what was added before
abbrev pub row_added : RowDeletions → List RowDeed → RowDeletions
row_added added [] = added
row_added added (PutDeletion v ∷ deeds) = row_added (with_deletion added v) deeds
row_added added (PutRange x ∷ deeds) = row_added (with_range added x) deeds
row_added added (CollectRow t ∷ deeds) = row_added added deeds

-- the greatest time of the collections among these, or 0
abbrev pub row_collected_to : List RowDeed → ℕ
row_collected_to [] = 0
row_collected_to (PutDeletion v ∷ deeds) = row_collected_to deeds
row_collected_to (PutRange x ∷ deeds) = row_collected_to deeds
row_collected_to (CollectRow t ∷ deeds) = max t (row_collected_to deeds)

-- no deletion of the row is put whose stamp was added before and then dropped
abbrev pub NoDeletionComesBack : RowDeletions → RowDeletions → List RowDeed → Type 0
NoDeletionComesBack held added [] = ⊤
NoDeletionComesBack held added (PutDeletion v ∷ deeds) =
    (has_stamp held.deletions v.stamp ≡ has_stamp added.deletions v.stamp) × NoDeletionComesBack (with_deletion held v) (with_deletion added v) deeds
NoDeletionComesBack held added (PutRange x ∷ deeds) = NoDeletionComesBack (with_range held x) (with_range added x) deeds
NoDeletionComesBack held added (CollectRow t ∷ deeds) = NoDeletionComesBack (collected t held) added deeds

-- a row of which nothing is held
abbrev pub no_deletions : RowDeletions
no_deletions = record { deletions = []; ranges = [] }

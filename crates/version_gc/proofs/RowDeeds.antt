-- What is in force whatever is put and collected.
use Rattle.std.proofs.Common.{◌≡◌, refl, ◌∙◌, ap, sym, ℕ, ◌≤◌, Bool, true, false, if◌then◌else◌, nat_le, List, [], ◌∷◌, Option, Some, None, arith}
use Rattle.std.specs.Prelude.{filter, not, ◌&&◌}
use Rattle.logical_time.specs.Stamps.{is_older}
use Rattle.versions.specs.declared.version.Version.{Version}
use Rattle.versions.specs.declared.range.RangeDeletion.{RangeDeletion}
use Rattle.versions.specs.Chain.{IsFalling, at_of, put_of}
use Rattle.versions.specs.Newest.{has_stamp, newer_of}
use Rattle.versions.specs.Ranges.{NoneNewer, RangesFall, put_range, is_under, is_in_force, in_force_at, kept_ranges}
use Rattle.versions.proofs.Tests.{by_cases, older_than_newer}
use Rattle.versions.proofs.Falling.{falling_put}
use Rattle.versions.proofs.Kept.{falling_kept}
use Rattle.versions.proofs.Seen.{at_after_put}
use Rattle.versions.proofs.RangesHeld.{none_newer, fall_put}
use Rattle.versions.proofs.RangesKept.{filter_kept, fall_kept, none_newer_filtered, in_force_kept}
use Rattle.version_gc.specs.RangeCollection.{RowDeletions, RowDeed, NoDeletionComesBack, no_deletions, with_deletion, with_range, collected, row_added, row_after, row_collected_to}
use Rattle.version_gc.specs.RangeCollection.{PutDeletion, PutRange, CollectRow}
use Rattle.version_gc.proofs.Collected.{at_kept}
use Rattle.version_gc.proofs.Deeds.{put_alike}

-- whether a range deletion is in force at a time, by the newest deletion of its row that is seen by then
abbrev by_newest : Option Version → ℕ → RangeDeletion → Bool
by_newest o t x = nat_le x.evt t && not (is_under o x)

-- what isn't in force below one deletion of the row isn't below a newer one
still_under : (o : Option Version) (v : Version) (t : ℕ) (x : RangeDeletion) → by_newest o t x ≡ false → by_newest (newer_of v o) t x ≡ false
still_under o v t x h =
    by_cases (nat_le x.evt t)
    (λ seen. rw seen (ap not (below o (rw seen at h))))
    (λ unseen. rw unseen refl)
  where
    below : (o : Option Version) → not (is_under o x) ≡ false → is_under (newer_of v o) x ≡ true
    below None h = absurd (cc)
    below (Some d) h =
        by_cases (is_older d.stamp v.stamp)
        (λ newer. rw newer (older_than_newer x.stamp d.stamp v.stamp (denied (is_older x.stamp d.stamp) h) newer))
        (λ not_newer. rw not_newer (denied (is_older x.stamp d.stamp) h))
      where
        denied : (b : Bool) → not b ≡ false → b ≡ true
        denied true h = refl
        denied false h = absurd (cc)

after_put : (deletions : List Version) (v : Version) (t : ℕ) (x : RangeDeletion) → IsFalling deletions → is_in_force deletions t x ≡ false → is_in_force (put_of deletions v) t x ≡ false
after_put deletions v t x h out =
    ap (λ (o : Option Version). by_newest o t x) (at_after_put deletions (put_of deletions v) v h refl t)
    ∙ by_cases (has_stamp deletions v.stamp)
    (λ held. rw held out)
    (λ new. rw new (by_cases (nat_le v.evt t)
    (λ seen. rw seen (still_under (at_of deletions t) v t x out))
    (λ unseen. rw unseen out)))

-- the same are in force in two rows
abbrev AreAlike : RowDeletions → RowDeletions → ℕ → Type 0
AreAlike held added t = (at_of held.deletions t ≡ at_of added.deletions t) × (in_force_at held.deletions held.ranges t ≡ in_force_at added.deletions added.ranges t)

-- ---- a deletion of the row
deletion_alike : (held added : RowDeletions) (v : Version) (t : ℕ) → IsFalling held.deletions → IsFalling added.deletions
    → has_stamp held.deletions v.stamp ≡ has_stamp added.deletions v.stamp → AreAlike held added t → AreAlike (with_deletion held v) (with_deletion added v) t
deletion_alike held added v t h a same alike =
    let at = put_alike held.deletions added.deletions v t h a same alike.0 in (
      at,
      sym (filter_kept (is_in_force (put_of held.deletions v) t) (is_in_force held.deletions t) (λ x out. after_put held.deletions v t x h out) held.ranges)
          ∙ ap (λ (o : Option Version). filter (by_newest o t) (in_force_at held.deletions held.ranges t)) at
          ∙ ap (filter (is_in_force (put_of added.deletions v) t)) alike.1
          ∙ filter_kept (is_in_force (put_of added.deletions v) t) (is_in_force added.deletions t) (λ x out. after_put added.deletions v t x a out) added.ranges,
    )

-- ---- a range deletion
put_first : (xs : List RangeDeletion) (x : RangeDeletion) → NoneNewer x.stamp xs → put_range xs x ≡ x ∷ xs
put_first [] x h = refl
put_first (y ∷ ys) x h = rw h.0 refl

filter_put : (p : RangeDeletion → Bool) (xs : List RangeDeletion) (x : RangeDeletion) → RangesFall xs → filter p (put_range xs x) ≡ (if p x then put_range (filter p xs) x else filter p xs)
filter_put p [] x h = refl
filter_put p (y ∷ ys) x h =
    by_cases (is_older x.stamp y.stamp)
    (λ lt. rw lt (behind lt (filter_put p ys x h.1)))
    (λ ge. rw ge (before ge))
  where
    behind : is_older x.stamp y.stamp ≡ true → filter p (put_range ys x) ≡ (if p x then put_range (filter p ys) x else filter p ys)
        → filter p (y ∷ put_range ys x) ≡ (if p x then put_range (filter p (y ∷ ys)) x else filter p (y ∷ ys))
    behind lt rest =
        by_cases (p y)
        (λ yes. rw yes (ap (λ (zs : List RangeDeletion). y ∷ zs) rest ∙ by_cases (p x) (λ in_. rw (in_, lt) refl) (λ out. rw out refl)))
        (λ no. rw no rest)

    before : is_older x.stamp y.stamp ≡ false → filter p (x ∷ y ∷ ys) ≡ (if p x then put_range (filter p (y ∷ ys)) x else filter p (y ∷ ys))
    before ge =
        by_cases (p x)
        (λ in_. rw in_ (sym (put_first (filter p (y ∷ ys)) x (none_newer_filtered x.stamp p (y ∷ ys) (ge, none_newer x.stamp y.stamp ys ge h.0)))))
        (λ out. rw out refl)

range_alike : (held added : RowDeletions) (x : RangeDeletion) (t : ℕ) → RangesFall held.ranges → RangesFall added.ranges → AreAlike held added t → AreAlike (with_range held x) (with_range added x) t
range_alike held added x t h a alike = (
  alike.0,
  filter_put (is_in_force held.deletions t) held.ranges x h
      ∙ ap (λ (xs : List RangeDeletion). if is_in_force held.deletions t x then put_range xs x else xs) alike.1
      ∙ ap (λ (o : Option Version). if by_newest o t x then put_range (in_force_at added.deletions added.ranges t) x else in_force_at added.deletions added.ranges t) alike.0
      ∙ sym (filter_put (is_in_force added.deletions t) added.ranges x a),
)

-- ---- a collection
collected_alike : (held added : RowDeletions) (c t : ℕ) → c ≤ t → IsFalling held.deletions → AreAlike held added t → AreAlike (collected c held) added t
collected_alike held added c t le h alike =
    let at = at_kept c held.deletions t le in (
      at ∙ alike.0,
      ap (λ (o : Option Version). filter (by_newest o t) (kept_ranges c held.deletions held.ranges)) at
          ∙ in_force_kept c held.deletions held.ranges (kept_ranges c held.deletions held.ranges) h refl t le
          ∙ alike.1,
    )

-- ---- all deeds
alike_after : (held added : RowDeletions) (deeds : List RowDeed) (t : ℕ) → IsFalling held.deletions → IsFalling added.deletions → RangesFall held.ranges → RangesFall added.ranges
    → NoDeletionComesBack held added deeds → row_collected_to deeds ≤ t → AreAlike held added t → AreAlike (row_after held deeds) (row_added added deeds) t
alike_after held added [] t h a f g none le alike = alike
alike_after held added (PutDeletion v ∷ deeds) t h a f g none le alike =
    alike_after (with_deletion held v) (with_deletion added v) deeds t (falling_put held.deletions v h) (falling_put added.deletions v a) f g none.1 le (deletion_alike held added v t h a none.0 alike)
alike_after held added (PutRange x ∷ deeds) t h a f g none le alike =
    alike_after (with_range held x) (with_range added x) deeds t h a (fall_put held.ranges x f) (fall_put added.ranges x g) none le (range_alike held added x t f g alike)
alike_after held added (CollectRow c ∷ deeds) t h a f g none le alike =
    alike_after (collected c held) added deeds t (falling_kept c held.deletions h) a (fall_kept c held.deletions held.ranges f) g none (omega (arith, le)) (collected_alike held added c t (omega (arith, le)) h alike)

pub row_collections_unseen : (deeds : List RowDeed) → NoDeletionComesBack no_deletions no_deletions deeds → (t : ℕ) → row_collected_to deeds ≤ t
    → in_force_at (row_after no_deletions deeds).deletions (row_after no_deletions deeds).ranges t ≡ in_force_at (row_added no_deletions deeds).deletions (row_added no_deletions deeds).ranges t
row_collections_unseen deeds none t le = (alike_after no_deletions no_deletions deeds t tt tt tt tt none le (refl, refl)).1

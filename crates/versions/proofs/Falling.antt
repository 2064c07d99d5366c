-- A put keeps the stamps falling.
use Rattle.std.proofs.Common.{◌≡◌, ℕ, zero, suc, true, List, [], ◌∷◌}
use Rattle.std.specs.Prelude.{remove}
use Rattle.std.specs.Ordering.{is_eq}
use Rattle.logical_time.specs.Stamps.{StampValue, stamp_cmp, is_older}
use Rattle.versions.specs.declared.version.Version.{Version}
use Rattle.versions.specs.Chain.{AreOlder, IsFalling, put_of}
use Rattle.versions.proofs.Tests.{by_cases, older_than_newer, newer_if_not}

pub all_older : (s t : StampValue) (xs : List Version) → is_older t s ≡ true → AreOlder t xs → AreOlder s xs
all_older s t [] above h = tt
all_older s t (x ∷ xs) above h = (older_than_newer x.stamp t s h.0 above, all_older s t xs above h.1)

older_put : (s : StampValue) (xs : List Version) (v : Version) → is_older v.stamp s ≡ true → AreOlder s xs → AreOlder s (put_of xs v)
older_put s [] v above h = (above, tt)
older_put s (x ∷ xs) v above h =
    by_cases (is_older v.stamp x.stamp)
    (λ gt. rw gt (h.0, older_put s xs v above h.1))
    (λ le. by_cases (is_eq (stamp_cmp v.stamp x.stamp))
    (λ eq. rw (le, eq) h)
    (λ ne. rw (le, ne) (above, h)))

pub falling_put : (xs : List Version) (v : Version) → IsFalling xs → IsFalling (put_of xs v)
falling_put [] v h = (tt, tt)
falling_put (x ∷ xs) v h =
    by_cases (is_older v.stamp x.stamp)
    (λ gt. rw gt (older_put x.stamp xs v gt h.0, falling_put xs v h.1))
    (λ le. by_cases (is_eq (stamp_cmp v.stamp x.stamp))
    (λ eq. rw (le, eq) h)
    (λ ne. rw (le, ne) ((newer_if_not v.stamp x.stamp le ne, all_older v.stamp x.stamp xs (newer_if_not v.stamp x.stamp le ne) h.0), h)))

older_remove : (s : StampValue) (xs : List Version) (i : ℕ) → AreOlder s xs → AreOlder s (remove xs i)
older_remove s [] zero h = tt
older_remove s [] (suc i) h = tt
older_remove s (x ∷ xs) zero h = h.1
older_remove s (x ∷ xs) (suc i) h = (h.0, older_remove s xs i h.1)

pub falling_remove : (xs : List Version) (i : ℕ) → IsFalling xs → IsFalling (remove xs i)
falling_remove [] zero h = tt
falling_remove [] (suc i) h = tt
falling_remove (x ∷ xs) zero h = h.1
falling_remove (x ∷ xs) (suc i) h = (older_remove x.stamp xs i h.0, falling_remove xs i h.1)

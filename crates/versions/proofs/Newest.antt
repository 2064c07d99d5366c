-- The newest version has the greatest stamp, also among those that are seen by a time.
use Rattle.std.proofs.Common.{◌≡◌, refl, ℕ, ◌≤◌, ◌<◌, subst, sym, false, nat_le, List, [], ◌∷◌, Option, Some, None, ⊎_elim, arith}
use Rattle.std.proofs.lemmas.Bool.Decides.{nat_tests}
use Rattle.std.specs.Prelude.{MatchOption, Contains, slice_get}
use Rattle.logical_time.specs.Stamps.{is_older}
use Rattle.versions.specs.declared.version.Version.{Version}
use Rattle.versions.specs.Chain.{IsFalling, at_of}
use Rattle.versions.specs.Newest.{IsNewest, IsNewestAt}
use Rattle.versions.proofs.Tests.{by_cases, not_older_than_itself, not_newer_too}
use Rattle.versions.proofs.Members.{none_in_empty, first_or_rest, contains_first, contains_rest, contained_older}

first_is_newest : (x : Version) (xs : List Version) → IsFalling (x ∷ xs) → (w : Version) → Contains (x ∷ xs) w → is_older x.stamp w.stamp ≡ false
first_is_newest x xs h w c =
    ⊎_elim
    (λ e. subst (λ (u : Version). is_older x.stamp u.stamp ≡ false) e (not_older_than_itself x.stamp))
    (λ r. not_newer_too w.stamp x.stamp (contained_older x.stamp xs w h.0 r))
    (first_or_rest x w xs c)

pub newest_is_greatest : (xs : List Version) → IsFalling xs → MatchOption (slice_get xs 0) (xs ≡ []) (IsNewest xs)
newest_is_greatest [] h = refl
newest_is_greatest (x ∷ xs) h = (contains_first x xs, first_is_newest x xs h)

pub newest_at_is_greatest : (xs : List Version) (t : ℕ) → IsFalling xs → MatchOption (at_of xs t) ((w : Version) → Contains xs w → t < w.evt) (IsNewestAt xs t)
newest_at_is_greatest [] t h = λ w c. absurd (none_in_empty w c)
newest_at_is_greatest (x ∷ xs) t h =
    by_cases (nat_le x.evt t)
    (λ le. rw le (contains_first x xs, grind (arith, nat_tests, le), λ w c seen. first_is_newest x xs h w c))
    (λ gt. rw gt (later (grind (arith, nat_tests, gt)) (at_of xs t) (newest_at_is_greatest xs t h.1)))
  where
    before : t < x.evt → x.evt ≤ t → ⊥
    before lt le = omega (arith, lt, le)

    later : t < x.evt → (o : Option Version) → MatchOption o ((w : Version) → Contains xs w → t < w.evt) (IsNewestAt xs t)
        → MatchOption o ((w : Version) → Contains (x ∷ xs) w → t < w.evt) (IsNewestAt (x ∷ xs) t)
    later gt None m = λ w c. ⊎_elim (λ e. subst (λ (u : Version). t < u.evt) e gt) (m w) (first_or_rest x w xs c)
    later gt (Some v) m = (
      contains_rest x v xs m.0,
      m.1,
      λ w c seen.
          ⊎_elim
          (λ e. absurd (before gt (subst (λ (u : Version). u.evt ≤ t) (sym e) seen)))
          (λ r. m.2 w r seen)
          (first_or_rest x w xs c),
    )

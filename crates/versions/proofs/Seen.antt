-- What is seen at a time after a put.
use Rattle.std.proofs.Common.{◌≡◌, refl, ℕ, ap, ◌∙◌, true, false, Bool, if◌then◌else◌, nat_le, List, [], ◌∷◌, Some}
use Rattle.std.specs.Ordering.{is_eq}
use Rattle.logical_time.specs.Stamps.{stamp_cmp, is_older}
use Rattle.versions.specs.declared.version.Version.{Version}
use Rattle.versions.specs.Chain.{AreOlder, IsFalling, at_of, put_of}
use Rattle.versions.specs.Newest.{has_stamp, newer_of, at_with}
use Rattle.versions.proofs.Tests.{by_cases, newer_if_not, not_newer_too}
use Rattle.versions.proofs.Falling.{all_older}
use Rattle.versions.proofs.Held.{same_if_newer, new_if_older}

either_way : {T : Type 0} (b : Bool) (x : T) → x ≡ (if b then x else x)
either_way true x = refl
either_way false x = refl

-- what is found among older versions is older
newer_than_found : (v : Version) (xs : List Version) (t : ℕ) → AreOlder v.stamp xs → newer_of v (at_of xs t) ≡ Some v
newer_than_found v [] t h = refl
newer_than_found v (x ∷ xs) t h =
    by_cases (nat_le x.evt t)
    (λ le. rw (le, h.0) refl)
    (λ gt. rw gt (newer_than_found v xs t h.1))

at_put : (xs : List Version) (v : Version) (t : ℕ) → IsFalling xs → at_of (put_of xs v) t ≡ at_with xs v t
at_put [] v t h = refl
at_put (x ∷ xs) v t h =
    by_cases (is_older v.stamp x.stamp)
    (λ lt. rw (lt, same_if_newer v.stamp x.stamp lt) (behind lt (at_put xs v t h.1)))
    (λ ge. by_cases (is_eq (stamp_cmp v.stamp x.stamp))
    (λ eq. rw (ge, eq) refl)
    (λ ne. rw (ge, ne) (before (newer_if_not v.stamp x.stamp ge ne))))
  where
    behind : is_older v.stamp x.stamp ≡ true → at_of (put_of xs v) t ≡ at_with xs v t
        → at_of (x ∷ put_of xs v) t ≡ (if has_stamp xs v.stamp then at_of (x ∷ xs) t else (if nat_le v.evt t then newer_of v (at_of (x ∷ xs) t) else at_of (x ∷ xs) t))
    behind lt rest =
        by_cases (nat_le x.evt t)
        (λ le. rw (le, not_newer_too v.stamp x.stamp lt) (either_way (has_stamp xs v.stamp) (Some x) ∙ ap (λ o. if has_stamp xs v.stamp then Some x else o) (either_way (nat_le v.evt t) (Some x))))
        (λ gt. rw gt rest)

    before : is_older x.stamp v.stamp ≡ true
        → at_of (v ∷ x ∷ xs) t ≡ (if has_stamp xs v.stamp then at_of (x ∷ xs) t else (if nat_le v.evt t then newer_of v (at_of (x ∷ xs) t) else at_of (x ∷ xs) t))
    before older =
        let rest = all_older v.stamp x.stamp xs older h.0 in
        rw (new_if_older v.stamp xs rest, newer_than_found v (x ∷ xs) t (older, rest)) refl

pub at_after_put : (xs ys : List Version) (v : Version) → IsFalling xs → ys ≡ put_of xs v → (t : ℕ) → at_of ys t ≡ at_with xs v t
at_after_put xs ys v h e t = ap (λ (zs : List Version). at_of zs t) e ∙ at_put xs v t h

-- Where a range deletion goes, and what stands at a place.
use Rattle.std.proofs.Common.{◌≡◌, refl, ◌∙◌, ap, sym, ℕ, zero, suc, add-one, ◌+◌, ◌<◌, ◌≤◌, List, [], ◌∷◌, ◌++◌, take, drop, length, get_or, Some, None, true, false, arith}
use Rattle.std.specs.Prelude.{reverse, remove, slice_get, find}
use Rattle.logical_time.specs.Stamps.{is_older}
use Rattle.std.proofs.lemmas.List.{append_assoc, length-reverse, length-drop, reverse-append}
use Rattle.versions.specs.declared.range.RangeDeletion.{RangeDeletion}
use Rattle.versions.specs.Ranges.{put_range, is_over, over_of}
use Rattle.versions.proofs.Reversed.{reverse_at, reverse_drop, reverse_take, slice_get_at, remove_at}

-- the range deletion goes below those of greater stamps, at the index or lower
abbrev pub IsLower : List RangeDeletion → ℕ → RangeDeletion → Type 0
IsLower rs i v = put_range (reverse rs) v ≡ reverse (drop i rs) ++ put_range (reverse (take i rs)) v

module _ (rs : List RangeDeletion) (i : ℕ) (x : RangeDeletion) (v : RangeDeletion) (lt : i < length rs) (is : x ≡ get_or rs i x) where
  top : reverse (take (i + 1) rs) ≡ x ∷ reverse (take i rs)
  top = reverse_take rs i x lt ∙ ap (λ (y : RangeDeletion). y ∷ reverse (take i rs)) (sym is)

  pub lower_less : is_older v.stamp x.stamp ≡ true → IsLower rs (i + 1) v → IsLower rs i v
  lower_less less h =
      let newer = reverse (drop (i + 1) rs) in
      let rest = put_range (reverse (take i rs)) v in
      let first : put_range (x ∷ reverse (take i rs)) v ≡ x ∷ rest = rw less refl in
      h
      ∙ ap (λ (xs : List RangeDeletion). newer ++ xs) (ap (λ (xs : List RangeDeletion). put_range xs v) top ∙ first)
      ∙ sym (append_assoc newer (x ∷ []) rest)
      ∙ ap (λ (xs : List RangeDeletion). xs ++ rest) (ap (λ (y : RangeDeletion). newer ++ y ∷ []) is ∙ sym (reverse_drop rs i x lt))

  pub lower_here : is_older v.stamp x.stamp ≡ false → IsLower rs (i + 1) v → put_range (reverse rs) v ≡ reverse (drop (i + 1) rs) ++ v ∷ reverse (take (i + 1) rs)
  lower_here not h =
      let newer = reverse (drop (i + 1) rs) in
      let first : put_range (x ∷ reverse (take i rs)) v ≡ v ∷ x ∷ reverse (take i rs) = rw not refl in
      h
      ∙ ap (λ (xs : List RangeDeletion). newer ++ xs) (ap (λ (xs : List RangeDeletion). put_range xs v) top ∙ first ∙ ap (λ (xs : List RangeDeletion). v ∷ xs) (sym top))

  -- ---- the newest over a name, found from the newest on
  pub over_here : (name : List ℕ) (t : ℕ) → is_over name t x ≡ true → over_of (reverse (take (i + 1) rs)) name t ≡ Some x
  over_here name t over = ap (find (is_over name t)) top ∙ rw over refl

  pub over_below : (name : List ℕ) (t : ℕ) → is_over name t x ≡ false → over_of (reverse (take (i + 1) rs)) name t ≡ over_of (reverse (take i rs)) name t
  over_below name t not = ap (find (is_over name t)) top ∙ rw not refl

-- ---- a place by its index
above : (rs : List RangeDeletion) (i place : ℕ) → i + place + 1 ≡ length rs → length (reverse (drop (i + 1) rs)) ≡ place
above rs i place is =
    let a = length-reverse (drop (i + 1) rs) in
    let b = length-drop (i + 1) rs in
    omega (arith, a, b, is)

pub range_at_index : (rs : List RangeDeletion) (i place : ℕ) (d : RangeDeletion) → i + place + 1 ≡ length rs → slice_get (reverse rs) place ≡ Some (get_or rs i d)
range_at_index rs i place d is =
    ap (λ (xs : List RangeDeletion). slice_get xs place) (reverse_at rs i d (omega (arith, is)))
    ∙ slice_get_at (reverse (drop (i + 1) rs)) (get_or rs i d) (reverse (take i rs)) place (above rs i place is)

pub removed_at_index : (rs : List RangeDeletion) (i place : ℕ) (d : RangeDeletion) → i + place + 1 ≡ length rs → remove (reverse rs) place ≡ reverse (remove rs i)
removed_at_index rs i place d is =
    ap (λ (xs : List RangeDeletion). remove xs place) (reverse_at rs i d (omega (arith, is)))
    ∙ remove_at (reverse (drop (i + 1) rs)) (get_or rs i d) (reverse (take i rs)) place (above rs i place is)
    ∙ ap (λ (n : ℕ). reverse (drop n rs) ++ reverse (take i rs)) (add-one i)
    ∙ sym (reverse-append (take i rs) (drop (suc i) rs))

past : (xs : List RangeDeletion) (place : ℕ) → length xs ≤ place → slice_get xs place ≡ None
past [] zero le = refl
past [] (suc place) le = refl
past (x ∷ xs) zero le = absurd (omega (arith, le))
past (x ∷ xs) (suc place) le = past xs place (omega (arith, le))

past_removed : (xs : List RangeDeletion) (place : ℕ) → length xs ≤ place → remove xs place ≡ xs
past_removed [] zero le = refl
past_removed [] (suc place) le = refl
past_removed (x ∷ xs) zero le = absurd (omega (arith, le))
past_removed (x ∷ xs) (suc place) le = ap (λ (ys : List RangeDeletion). x ∷ ys) (past_removed xs place (omega (arith, le)))

-- there is nothing at a place behind the last
pub none_past : (rs : List RangeDeletion) (place : ℕ) → length rs ≤ place → (slice_get (reverse rs) place ≡ None) × (remove (reverse rs) place ≡ reverse rs)
none_past rs place le =
    let long = length-reverse rs in
    (past (reverse rs) place (omega (arith, long, le)), past_removed (reverse rs) place (omega (arith, long, le)))

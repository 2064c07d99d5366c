-- A set has a name between two ends exactly where its part between them has a first.
use Rattle.std.proofs.Common.{◌≡◌, ◌∙◌, ℕ, ap, sym, refl, Bool, true, false, cond, ◌&&◌, ◌||◌, not, List, [], ◌∷◌, filter, Option, Some, None}
use Rattle.std.specs.Prelude.{slice_get, is_some}
use Rattle.std.specs.Ordering.{nat_cmp, is_le, is_lt, is_gt, ordering_reverse}
use Rattle.std.specs.declared.cmp.Ordering.{Ordering}
use Rattle.std.specs.declared.cmp.Ordering.TheVariants.{Less, Equal, Greater}
use Rattle.std.specs.Cmp.Lexicographic.{slice_cmp}
use Rattle.std.specs.List.{list_any}
use Rattle.std.specs.Option.{MatchOption}
use Rattle.std.proofs.lemmas.Cmp.{nat_list_cmp_total}
use Rattle.slice.specs.Live.{in_name_order}
use Rattle.slice.specs.Slice.{name_le, is_open, is_between}
use Rattle.slice.proofs.Ranges.{by_ends, le_through}
use Rattle.slice.proofs.Selected.{any_in_order}

-- what passes a test has a first exactly where something passes it
any_left : {X : Type 0} (p q : X → Bool) → ((x : X) → p x ≡ q x) → (xs : List X) → is_some (slice_get (filter p xs) 0) ≡ list_any q xs
any_left p q same [] = refl
any_left p q same (x ∷ xs) = go (p x) refl (any_left p q same xs)
  where
    go : (b : Bool) → p x ≡ b → is_some (slice_get (filter p xs) 0) ≡ list_any q xs → is_some (slice_get (cond b (x ∷ filter p xs) (filter p xs)) 0) ≡ (q x || list_any q xs)
    go true e ih = ap (λ (b : Bool). b || list_any q xs) (sym e ∙ same x)
    go false e ih = ih ∙ ap (λ (b : Bool). b || list_any q xs) (sym e ∙ same x)

past_end : (o : Ordering) → not (is_lt o) ≡ is_le (ordering_reverse o)
past_end Less = refl
past_end Equal = refl
past_end Greater = refl

with_true : (b : Bool) → (b && true) ≡ b
with_true true = refl
with_true false = refl

pub within : (low high : List ℕ) (names : List (List ℕ)) → is_some (slice_get (filter (λ n. is_le (slice_cmp nat_cmp low n) && not (is_lt (slice_cmp nat_cmp high n))) names) 0) ≡ list_any (λ n. name_le low n && name_le n high) names
within low high names =
    any_left (λ n. is_le (slice_cmp nat_cmp low n) && not (is_lt (slice_cmp nat_cmp high n))) (λ n. name_le low n && name_le n high)
    (λ n. ap (λ (b : Bool). name_le low n && b) (past_end (slice_cmp nat_cmp high n) ∙ ap is_le (sym (nat_list_cmp_total.antisymm n high))))
    names

pub onwards : (low : List ℕ) (names : List (List ℕ)) → is_some (slice_get (filter (λ n. is_le (slice_cmp nat_cmp low n) && true) names) 0) ≡ list_any (name_le low) names
onwards low names = any_left (λ n. is_le (slice_cmp nat_cmp low n) && true) (name_le low) (λ n. with_true (name_le low n)) names

-- a first that is found is that of the part
pub first_some : {T X : Type 0} (o : Option T) (f : T → X) (r n : List X) → MatchOption o ((r ≡ []) × (n ≡ [])) (λ x. r ≡ f x ∷ n) → is_some o ≡ is_some (slice_get r 0)
first_some {T} {X} None f r n h = ap (λ (xs : List X). is_some (slice_get xs 0)) (sym h.0)
first_some {T} {X} (Some x) f r n h = ap (λ (xs : List X). is_some (slice_get xs 0)) (sym h)

pub not_over : (o : Ordering) → is_le o ≡ true → is_gt o ≡ false
not_over Less h = refl
not_over Equal h = refl
not_over Greater h = absurd (cc)

any_agree : {X : Type 0} (p q : X → Bool) → ((x : X) → p x ≡ q x) → (xs : List X) → list_any p xs ≡ list_any q xs
any_agree p q same [] = refl
any_agree p q same (x ∷ xs) = ap (λ (b : Bool). b || list_any p xs) (same x) ∙ ap (λ (b : Bool). q x || b) (any_agree p q same xs)

-- ---- by whether the upper end is open
pub open_between : (low high : List ℕ) (names : List (List ℕ)) → is_open high ≡ true → list_any (name_le low) names ≡ list_any (is_between low high) names
open_between low high names ends =
    any_agree (name_le low) (is_between low high)
    (λ n. sym (by_ends low high n ∙ (ap (λ (b : Bool). name_le low n && (b || name_le n high)) ends ∙ with_true (name_le low n)))) names

pub closed_between : (low high : List ℕ) (names : List (List ℕ)) → is_open high ≡ false → list_any (λ n. name_le low n && name_le n high) names ≡ list_any (is_between low high) names
closed_between low high names ends =
    any_agree (λ n. name_le low n && name_le n high) (is_between low high)
    (λ n. sym (by_ends low high n ∙ ap (λ (b : Bool). name_le low n && (b || name_le n high)) ends)) names

crossed_ends : (low high n : List ℕ) → name_le low high ≡ false → (a b : Bool) → name_le low n ≡ a → name_le n high ≡ b → (a && b) ≡ false
crossed_ends low high n apart true true e f = sym (le_through low n high e f) ∙ apart
crossed_ends low high n apart true false e f = refl
crossed_ends low high n apart false b e f = refl

pub none_between : (low high : List ℕ) (names : List (List ℕ)) → is_open high ≡ false → name_le low high ≡ false → false ≡ list_any (is_between low high) names
none_between low high [] ends apart = refl
none_between low high (n ∷ ns) ends apart =
    none_between low high ns ends apart
    ∙ ap (λ (b : Bool). b || list_any (is_between low high) ns)
    (sym (by_ends low high n ∙ (ap (λ (b : Bool). name_le low n && (b || name_le n high)) ends ∙ crossed_ends low high n apart (name_le low n) (name_le n high) refl refl)))

-- ---- of a list whose set it is
pub listed_between : (low high : List ℕ) (names listed : List (List ℕ)) → names ≡ in_name_order listed → list_any (is_between low high) names ≡ list_any (is_between low high) listed
listed_between low high names listed same = ap (list_any (is_between low high)) same ∙ any_in_order (is_between low high) listed

-- Keys taken once each, one after the other.
use Rattle.std.proofs.Common.{◌≡◌, ℕ, ◌+◌, ◌<◌, Bool, true, false, not, ◌&&◌, ◌||◌, cond, List, [], ◌∷◌, ◌++◌, filter, length, take, get_or, refl, ap, ◌∙◌, sym, rules, append-nil}
use Rattle.std.specs.List.{list_any}
use Rattle.std.specs.Ordering.{nat_cmp, is_eq}
use Rattle.std.specs.Cmp.Lexicographic.{slice_cmp}
use Rattle.std.specs.Str.{bytes_eq}
use Rattle.std.proofs.lemmas.List.{take_more}
use Rattle.std.proofs.lemmas.List.Elements.{filter-append}
use Rattle.std.proofs.lemmas.List.Folds.{list_any-append}
use Rattle.std.proofs.lemmas.Map.Text.{is_eq-slice_cmp}
use Rattle.std.proofs.lemmas.Map.Views.{any-filter_same}
use Rattle.std.proofs.lemmas.Slice.Eq.{bytes_eq-Decides}
use Rattle.std.specs.Cmp.{both_ways}
use Rattle.table.specs.Meaning.{each_once}
use Rattle.table.specs.Once.{do_differ}

-- the keys other than k
abbrev others : List ℕ → List (List ℕ) → List (List ℕ)
others k ks = filter (λ j. not (bytes_eq k j)) ks

-- a key put after the keys that were taken, if it is new
abbrev taken : Bool → List ℕ → List (List ℕ) → List (List ℕ)
taken b x ks = cond b ks (ks ++ x ∷ [])

kept_apart : (k x y : List ℕ) → bytes_eq k x ≡ false → bytes_eq y x ≡ true → not (bytes_eq k y) ≡ true
kept_apart k x y e f = let same : y ≡ x = search (rules, bytes_eq-Decides) in ap (λ z. not (bytes_eq k z)) same ∙ ap not e

taken_same : (b : Bool) (k x : List ℕ) (ks : List (List ℕ)) → bytes_eq k x ≡ true → others k (taken b x ks) ≡ others k ks
taken_same true k x ks e = refl
taken_same false k x ks e =
    filter-append (λ j. not (bytes_eq k j)) ks (x ∷ [])
    ∙ (ap (λ b. others k ks ++ cond (not b) (x ∷ []) []) e ∙ append-nil (others k ks))

taken_other : (b : Bool) (k x : List ℕ) (ks : List (List ℕ)) → bytes_eq k x ≡ false → others k (taken b x ks) ≡ taken b x (others k ks)
taken_other true k x ks e = refl
taken_other false k x ks e =
    filter-append (λ j. not (bytes_eq k j)) ks (x ∷ [])
    ∙ ap (λ b. others k ks ++ cond (not b) (x ∷ []) []) e

taken_after : (b : Bool) (k x : List ℕ) (ks : List (List ℕ)) → k ∷ taken b x ks ≡ taken b x (k ∷ ks)
taken_after true k x ks = refl
taken_after false k x ks = refl

each_once_step : (c : Bool) (k x : List ℕ) (ks : List (List ℕ)) → bytes_eq k x ≡ c
    → k ∷ others k (taken (list_any (λ y. bytes_eq y x) ks) x ks) ≡ taken (c || list_any (λ y. bytes_eq y x) (others k ks)) x (k ∷ others k ks)
each_once_step true k x ks e = ap (λ js. k ∷ js) (taken_same (list_any (λ y. bytes_eq y x) ks) k x ks e)
each_once_step false k x ks e =
    ap (λ js. k ∷ js) (taken_other (list_any (λ y. bytes_eq y x) ks) k x ks e)
    ∙ (taken_after (list_any (λ y. bytes_eq y x) ks) k x (others k ks)
    ∙ ap (λ c. taken c x (k ∷ others k ks)) (sym (any-filter_same (λ y. bytes_eq y x) (λ j. not (bytes_eq k j)) true (λ y f. kept_apart k x y e f) ks)))

each_once_last : (ks : List (List ℕ)) (x : List ℕ) → each_once (ks ++ x ∷ []) ≡ taken (list_any (λ y. bytes_eq y x) (each_once ks)) x (each_once ks)
each_once_last [] x = refl
each_once_last (k ∷ ks) x = ap (λ js. k ∷ others k js) (each_once_last ks x) ∙ each_once_step (bytes_eq k x) k x (each_once ks) refl

each_once_more : (ks once : List (List ℕ)) (i : ℕ) (x : List ℕ) (b : Bool) → i < length ks → x ≡ get_or ks i x → list_any (λ y. bytes_eq y x) once ≡ b
    → once ≡ each_once (take i ks) → taken b x once ≡ each_once (take (i + 1) ks)
each_once_more ks once i x b lt e f g =
    sym (ap each_once (take_more ks i x lt)
    ∙ (ap (λ y. each_once (take i ks ++ y ∷ [])) (sym e)
    ∙ (each_once_last (take i ks) x
    ∙ (ap (λ js. taken (list_any (λ y. bytes_eq y x) js) x js) (sym g) ∙ ap (λ c. taken c x once) f))))

-- the step at a key that was taken, and at one that wasn't
pub each_once_old : (ks once once' : List (List ℕ)) (i : ℕ) (x : List ℕ) → i < length ks → x ≡ get_or ks i x → list_any (λ y. bytes_eq y x) once ≡ true
    → once ≡ each_once (take i ks) → once' ≡ once → once' ≡ each_once (take (i + 1) ks)
each_once_old ks once once' i x lt e f g kept = kept ∙ each_once_more ks once i x true lt e f g

pub each_once_new : (ks once once' : List (List ℕ)) (i : ℕ) (x y : List ℕ) → i < length ks → x ≡ get_or ks i x → list_any (λ z. bytes_eq z x) once ≡ false
    → once ≡ each_once (take i ks) → y ≡ x → once' ≡ once ++ y ∷ [] → once' ≡ each_once (take (i + 1) ks)
each_once_new ks once once' i x y lt e f g s taken = taken ∙ (ap (λ z. once ++ z ∷ []) s ∙ each_once_more ks once i x false lt e f g)

-- a key more that was seen and taken
either : (b s : Bool) → cond b true s ≡ (s || (b || false))
either true true = refl
either true false = refl
either false true = refl
either false false = refl

pub seen_more : (once once' : List (List ℕ)) (x y k : List ℕ) (before after last : Bool) → last ≡ after → after ≡ cond (is_eq (slice_cmp nat_cmp x k)) true before → x ≡ y
    → once' ≡ once ++ y ∷ [] → before ≡ list_any (λ z. bytes_eq z k) once → last ≡ list_any (λ z. bytes_eq z k) once'
seen_more once once' x y k before after last now added same taken so_far =
    now ∙ (added
    ∙ (ap (λ b. cond b true before) (is_eq-slice_cmp x k ∙ ap (λ z. bytes_eq z k) same)
    ∙ (either (bytes_eq y k) before
    ∙ (ap (λ b. b || (bytes_eq y k || false)) so_far
    ∙ sym (ap (list_any (λ z. bytes_eq z k)) taken ∙ list_any-append (λ z. bytes_eq z k) once (y ∷ []))))))

pub seen_same : (once once' : List (List ℕ)) (k : List ℕ) (before last : Bool) → last ≡ before → once' ≡ once → before ≡ list_any (λ z. bytes_eq z k) once → last ≡ list_any (λ z. bytes_eq z k) once'
seen_same once once' k before last now kept so_far = now ∙ (so_far ∙ ap (list_any (λ z. bytes_eq z k)) (sym kept))

both : (a b : Bool) → (not a && b) ≡ true → (a ≡ false) × (b ≡ true)
both true b e = absurd (cc)
both false b e = (refl, e)

none_left_out : (k : List ℕ) (ks : List (List ℕ)) → list_any (λ j. bytes_eq j k) ks ≡ false → others k ks ≡ ks
none_left_out k [] e = refl
none_left_out k (j ∷ ks) e = go (bytes_eq j k) (bytes_eq k j) (swapped k j) e (none_left_out k ks)
  where
    swapped : (a b : List ℕ) → bytes_eq a b ≡ bytes_eq b a
    swapped a b = both_ways _ _ (λ h. search (rules, bytes_eq-Decides)) (λ h. search (rules, bytes_eq-Decides))

    go : (a b : Bool) → b ≡ a → (a || list_any (λ i. bytes_eq i k) ks) ≡ false → (list_any (λ i. bytes_eq i k) ks ≡ false → others k ks ≡ ks) → cond (not b) (j ∷ others k ks) (others k ks) ≡ j ∷ ks
    go true b same none rest = absurd (cc)
    go false true same none rest = absurd (cc)
    go false false same none rest = ap (λ js. j ∷ js) (rest none)

-- keys that all differ are each once
pub once_where_differ : (ks : List (List ℕ)) → do_differ ks ≡ true → each_once ks ≡ ks
once_where_differ [] e = refl
once_where_differ (k ∷ ks) e =
    let parts = both (list_any (λ j. bytes_eq j k) ks) (do_differ ks) e in
    ap (λ js. k ∷ others k js) (once_where_differ ks parts.1) ∙ ap (λ js. k ∷ js) (none_left_out k ks parts.0)

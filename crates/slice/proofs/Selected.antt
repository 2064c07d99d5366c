-- What a set of names, and a walk from the end, find among columns.
use Rattle.std.proofs.Common.{◌≡◌, ℕ, Bool, true, false, ◌||◌, List, [], ◌∷◌, ◌++◌, filter, take, reverse, refl, ap, ◌∙◌, sym, rules, cond, append-nil}
use Rattle.std.specs.declared.cmp.Ordering.{Ordering}
use Rattle.std.specs.declared.cmp.Ordering.TheVariants.{Less, Equal, Greater}
use Rattle.std.specs.Ordering.{nat_cmp, is_eq}
use Rattle.std.specs.List.{list_any}
use Rattle.std.specs.Str.{bytes_eq}
use Rattle.std.specs.Cmp.{both_ways}
use Rattle.std.specs.Cmp.Lexicographic.{slice_cmp}
use Rattle.std.proofs.lemmas.List.Elements.{filter_agree, filter-append}
use Rattle.std.proofs.lemmas.Map.Lookups.{exact_bytes}
use Rattle.std.proofs.lemmas.Map.Text.{is_eq-slice_cmp}
use Rattle.std.proofs.lemmas.Slice.Eq.{bytes_eq-Decides}
use Rattle.std.proofs.lemmas.Grind.{reverse_onto}
use Rattle.slice.specs.Live.{placed_name, with_name, in_name_order}
use Rattle.slice.specs.declared.column.Column.{Column}
use Rattle.slice.specs.declared.predicate.Predicate.{Predicate}
use Rattle.slice.specs.declared.predicate.Predicate.TheVariants.{Names, Range}
use Rattle.slice.specs.Slice.{is_asked, AreAsked, first_of_walk, walked, slice_of}

or_twice : (a b : Bool) → (a || b) ≡ (a || (a || b))
or_twice true b = refl
or_twice false b = refl

or_swap : (a b c : Bool) → (a || (b || c)) ≡ (b || (a || c))
or_swap true true c = refl
or_swap true false c = refl
or_swap false true c = refl
or_swap false false c = refl

any_placed : (t : List ℕ → Bool) (o : Ordering) (n m : List ℕ) (ms others : List (List ℕ)) → (o ≡ Equal → n ≡ m)
    → list_any t others ≡ (t n || list_any t ms) → list_any t (placed_name o n m ms others) ≡ (t n || list_any t (m ∷ ms))
any_placed t Less n m ms others e h = refl
any_placed t Equal n m ms others e h = or_twice (t m) (list_any t ms) ∙ ap (λ k. t k || (t m || list_any t ms)) (sym (e refl))
any_placed t Greater n m ms others e h = ap (λ b. t m || b) h ∙ or_swap (t m) (t n) (list_any t ms)

any_with_name : (t : List ℕ → Bool) (n : List ℕ) (ms : List (List ℕ)) → list_any t (with_name n ms) ≡ (t n || list_any t ms)
any_with_name t n [] = refl
any_with_name t n (m ∷ ms) = any_placed t (slice_cmp nat_cmp n m) n m ms (with_name n ms) (exact_bytes n m) (any_with_name t n ms)

-- names in order are the same names
pub any_in_order : (t : List ℕ → Bool) (ns : List (List ℕ)) → list_any t (in_name_order ns) ≡ list_any t ns
any_in_order t [] = refl
any_in_order t (n ∷ ns) = any_with_name t n (in_name_order ns) ∙ ap (λ b. t n || b) (any_in_order t ns)

bytes_eq_swap : (a b : List ℕ) → bytes_eq a b ≡ bytes_eq b a
bytes_eq_swap a b = both_ways _ _ (λ h. search (rules, bytes_eq-Decides)) (λ h. search (rules, bytes_eq-Decides))

pub is_eq_named : (q n : List ℕ) → is_eq (slice_cmp nat_cmp q n) ≡ bytes_eq n q
is_eq_named q n = is_eq-slice_cmp q n ∙ bytes_eq_swap q n

any_named : (q : List ℕ) (ns : List (List ℕ)) → list_any (λ n. is_eq (slice_cmp nat_cmp q n)) ns ≡ list_any (λ n. bytes_eq n q) ns
any_named q [] = refl
any_named q (n ∷ ns) = ap (λ b. b || list_any (λ k. is_eq (slice_cmp nat_cmp q k)) ns) (is_eq_named q n) ∙ ap (λ b. bytes_eq n q || b) (any_named q ns)

-- a set of names finds the columns that the list of them finds
pub found_named : (keys names : List (List ℕ)) (live : List Column) → keys ≡ in_name_order names
    → filter (λ c. list_any (λ n. is_eq (slice_cmp nat_cmp c.name n)) keys) live ≡ filter (λ c. list_any (λ n. bytes_eq n c.name) names) live
found_named keys names live e =
    ap (λ ks. filter (λ (c : Column). list_any (λ n. is_eq (slice_cmp nat_cmp c.name n)) ks) live) e
    ∙ filter_agree _ _ (λ (c : Column). any_in_order (λ n. is_eq (slice_cmp nat_cmp c.name n)) names ∙ any_named c.name names) live

last_kept : {X : Type 0} (b : Bool) (x : X) (ys : List X) → reverse ys ++ cond b (x ∷ []) [] ≡ reverse (cond b (x ∷ ys) ys)
last_kept true x ys = sym (reverse_onto ys x [])
last_kept false x ys = append-nil (reverse ys)

pub filter_reverse : {X : Type 0} (p : X → Bool) (xs : List X) → filter p (reverse xs) ≡ reverse (filter p xs)
filter_reverse p [] = refl
filter_reverse p (x ∷ xs) =
    ap (filter p) (reverse_onto xs x []) ∙ (filter-append p (reverse xs) (x ∷ [])
    ∙ (ap (λ ys. ys ++ filter p (x ∷ [])) (filter_reverse p xs) ∙ last_kept (p x) x (filter p xs)))

asked_one : (b : Bool) (c : Column) (kept cs : List Column) → b ≡ true → kept ≡ cs → cond b (c ∷ kept) kept ≡ c ∷ cs
asked_one true c kept cs e f = ap (λ ds. c ∷ ds) f
asked_one false c kept cs e f = absurd (cc)

all_asked : (p : Predicate) (cs : List Column) → AreAsked p cs → filter (λ c. is_asked p c.name) cs ≡ cs
all_asked p [] h = refl
all_asked p (c ∷ cs) h = asked_one (is_asked p c.name) c (filter (λ d. is_asked p d.name) cs) cs h.0 (all_asked p cs h.1)

-- what is cut off the columns of a walk is cut off the slice
pub cut_of_asked : (p : Predicate) (cs : List Column) → AreAsked p cs → first_of_walk p cs ≡ slice_of p cs
cut_of_asked (Names names) cs h = sym (all_asked (Names names) cs h)
cut_of_asked (Range start finish reversed count) cs h =
    ap (λ ds. take count (walked reversed ds)) (sym (all_asked (Range start finish reversed count) cs h))

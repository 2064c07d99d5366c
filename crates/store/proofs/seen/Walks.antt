-- A walk that ends with the column that makes its count full finds what the whole walk would.
use Rattle.std.proofs.Common.{◌≡◌, ◌∙◌, ap, sym, subst, refl, ℕ, zero, suc, ◌-◌, ◌≤◌, ◌<◌, nat_lt, length, Bool, true, false, cond, ◌||◌, List, [], ◌∷◌, ◌++◌, map, filter, filter_map, take, reverse, Option, Some, None, append-nil, arith}
use Rattle.std.specs.Prelude.{is_some, if◌then◌else◌, slice_get}
use Rattle.std.specs.List.{cons_option, AllByRecursion}
use Rattle.std.specs.List.Sorted.{IsStrictlySortedBy}
use Rattle.std.specs.Option.{option_map_or}
use Rattle.std.specs.Ordering.{is_le, is_lt}
use Rattle.std.specs.declared.cmp.Ordering.{Ordering}
use Rattle.std.specs.declared.cmp.Ordering.TheVariants.{Less}
use Rattle.std.proofs.lemmas.Bool.Decides.{nat_tests}
use Rattle.std.proofs.lemmas.Cmp.{nat_list_cmp_total, tied_itself}
use Rattle.std.proofs.lemmas.Grind.{reverse_onto}
use Rattle.std.proofs.lemmas.List.Elements.{filter_map-append, filter_agree}
use Rattle.slice.specs.declared.column.Column.{Column}
use Rattle.slice.specs.declared.predicate.Predicate.TheVariants.{Range}
use Rattle.slice.specs.Rests.{is_reached, is_within}
use Rattle.slice.specs.Slice.{name_le, walked}
use Rattle.store.specs.Stored.{name_cmp}
use Rattle.store.specs.Walk.{until_full}
use Rattle.store.proofs.lists.CameTo.{is_below}
use Rattle.store.proofs.lists.Maps.{by_cases}

-- ---- both ways
-- how names compare on the way up or, reversed, down
abbrev pub way : Bool → List ℕ → List ℕ → Ordering
way reversed a b = if reversed then name_cmp b a else name_cmp a b

last_made : {Y : Type 0} (o : Option Y) (ys : List Y) → reverse ys ++ cons_option o [] ≡ reverse (cons_option o ys)
last_made (Some y) ys = sym (reverse_onto ys y [])
last_made None ys = append-nil (reverse ys)

made_reverse : {X Y : Type 0} (f : X → Option Y) (xs : List X) → filter_map f (reverse xs) ≡ reverse (filter_map f xs)
made_reverse f [] = refl
made_reverse f (x ∷ xs) =
    ap (filter_map f) (reverse_onto xs x []) ∙ (filter_map-append f (reverse xs) (x ∷ [])
    ∙ (ap (λ ys. ys ++ filter_map f (x ∷ [])) (made_reverse f xs) ∙ last_made (f x) (filter_map f xs)))

-- what is made of a walk is a walk over what is made
pub made_walked : {X Y : Type 0} (f : X → Option Y) (r : Bool) (xs : List X) → filter_map f (walked r xs) ≡ walked r (filter_map f xs)
made_walked f true xs = made_reverse f xs
made_walked f false xs = refl

each_then : {X : Type 0} (P : List ℕ → Type 0) (key : X → List ℕ) (xs : List X) (x : X) → AllByRecursion P (map key xs) → P (key x) → AllByRecursion P (map key (xs ++ x ∷ []))
each_then P key [] x all last = (last, tt)
each_then P key (y ∷ xs) x all last = (all.0, each_then P key xs x all.1 last)

each_reverse : {X : Type 0} (P : List ℕ → Type 0) (key : X → List ℕ) (xs : List X) → AllByRecursion P (map key xs) → AllByRecursion P (map key (reverse xs))
each_reverse P key [] all = tt
each_reverse P key (x ∷ xs) all =
    subst (λ ys. AllByRecursion P (map key ys)) (sym (reverse_onto xs x [])) (each_then P key (reverse xs) x (each_reverse P key xs all.1) all.0)

sorted_then : {X : Type 0} (R : List ℕ → List ℕ → Ordering) (key : X → List ℕ) (xs : List X) (x : X) → IsStrictlySortedBy R (map key xs)
    → AllByRecursion (λ k. R k (key x) ≡ Less) (map key xs) → IsStrictlySortedBy R (map key (xs ++ x ∷ []))
unfolding IsStrictlySortedBy
sorted_then R key [] x sorted all = (tt, tt)
sorted_then R key (y ∷ xs) x sorted all = (each_then (λ k. R (key y) k ≡ Less) key xs x sorted.0 all.0, sorted_then R key xs x sorted.1 all.1)

sorted_back : {X : Type 0} (key : X → List ℕ) (xs : List X) → IsStrictlySortedBy name_cmp (map key xs) → IsStrictlySortedBy (way true) (map key (reverse xs))
unfolding IsStrictlySortedBy
sorted_back key [] sorted = tt
sorted_back key (x ∷ xs) sorted =
    subst (λ ys. IsStrictlySortedBy (way true) (map key ys)) (sym (reverse_onto xs x []))
    (sorted_then (way true) key (reverse xs) x (sorted_back key xs sorted.1) (each_reverse (λ k. name_cmp (key x) k ≡ Less) key xs sorted.0))

-- things in name order are met in the order of the way
pub sorted_walked : {X : Type 0} (key : X → List ℕ) (r : Bool) (xs : List X) → IsStrictlySortedBy name_cmp (map key xs) → IsStrictlySortedBy (way r) (map key (walked r xs))
sorted_walked key true xs sorted = sorted_back key xs sorted
sorted_walked key false xs sorted = sorted

-- ---- what a walk finds
-- a walk finds the first of all
pub until_found : {X Y : Type 0} (f : X → Option Y) (n : ℕ) (xs : List X) → filter_map f (until_full (λ x. is_some (f x)) n xs) ≡ take n (filter_map f xs)
until_found f zero xs = refl
until_found f (suc n) [] = refl
until_found {X} {Y} f (suc n) (x ∷ xs) = go (λ m. until_found f m xs) (f x)
  where
    go : ((m : ℕ) → filter_map f (until_full (λ z. is_some (f z)) m xs) ≡ take m (filter_map f xs))
        → (o : Option Y) → cons_option o (filter_map f (until_full (λ z. is_some (f z)) (cond (is_some o) n (suc n)) xs)) ≡ take (suc n) (cons_option o (filter_map f xs))
    go rest None = rest (suc n)
    go rest (Some y) = ap (λ ys. y ∷ ys) (rest n)

-- one that isn't full came past all
pub until_end : {X Y : Type 0} (f : X → Option Y) (n : ℕ) (xs : List X) → length (filter_map f (until_full (λ x. is_some (f x)) n xs)) < n → until_full (λ x. is_some (f x)) n xs ≡ xs
until_end f zero xs lt = absurd (omega (arith, lt))
until_end f (suc n) [] lt = refl
until_end {X} {Y} f (suc n) (x ∷ xs) lt = go (λ m h. until_end f m xs h) (f x) lt
  where
    go : ((m : ℕ) → length (filter_map f (until_full (λ z. is_some (f z)) m xs)) < m → until_full (λ z. is_some (f z)) m xs ≡ xs)
        → (o : Option Y) → length (cons_option o (filter_map f (until_full (λ z. is_some (f z)) (cond (is_some o) n (suc n)) xs))) < suc n
        → x ∷ until_full (λ z. is_some (f z)) (cond (is_some o) n (suc n)) xs ≡ x ∷ xs
    go rest None h = ap (λ ys. x ∷ ys) (rest (suc n) h)
    go rest (Some y) h = ap (λ ys. x ∷ ys) (rest n (omega (arith, h)))

-- ---- up to the last that it found
-- whether a name is met at the last of these columns or before it
abbrev up_to : Bool → List Column → List ℕ → Bool
up_to r [] n = false
up_to r (c ∷ []) n = is_le (way r n c.name)
up_to r (c ∷ d ∷ cs) n = up_to r (d ∷ cs) n

le_way : (r : Bool) (a b : List ℕ) → (if r then name_le b a else name_le a b) ≡ is_le (way r a b)
le_way true a b = refl
le_way false a b = refl

-- so it is reached
reached_last : (r : Bool) (cs : List Column) (n : List ℕ) → is_reached r cs n ≡ up_to r cs n
reached_last r [] n = refl
reached_last r (c ∷ []) n = le_way r n c.name
reached_last r (c ∷ d ∷ cs) n =
    let next : length (c ∷ d ∷ cs) - 1 ≡ suc (length (d ∷ cs) - 1) = omega arith in
    ap (λ k. option_map_or (λ (e : Column). if r then name_le e.name n else name_le n e.name) (slice_get (c ∷ d ∷ cs) k) false) next
    ∙ reached_last r (d ∷ cs) n

itself : (r : Bool) (a : List ℕ) → is_le (way r a a) ≡ true
itself true a = ap is_le (tied_itself nat_list_cmp_total a)
itself false a = ap is_le (tied_itself nat_list_cmp_total a)

-- what is met later isn't met before
not_back : (r : Bool) (a b : List ℕ) → way r a b ≡ Less → is_le (way r b a) ≡ false
not_back true a b e = is_below b a (ap is_lt e)
not_back false a b e = is_below a b (ap is_lt e)

abbrev later_than : Bool → List ℕ → Column → Type 0
later_than r k c = way r k c.name ≡ Less

-- what is met before all of these is met before their last
ahead : (r : Bool) (k : List ℕ) (c : Column) (cs : List Column) → AllByRecursion (later_than r k) (c ∷ cs) → up_to r (c ∷ cs) k ≡ true
ahead r k c [] all = ap is_le all.0
ahead r k c (d ∷ cs) all = ahead r k d cs all.1

-- what is made of an element has its name
abbrev pub KeepsName : {X : Type 0} → (X → List ℕ) → (X → Option Column) → Type 0
KeepsName {X} key f = (x : X) (c : Column) → f x ≡ Some c → c.name ≡ key x

found_later : {X : Type 0} (r : Bool) (k : List ℕ) (key : X → List ℕ) (f : X → Option Column) → KeepsName key f → (n : ℕ) (xs : List X)
    → AllByRecursion (λ m. way r k m ≡ Less) (map key xs) → AllByRecursion (later_than r k) (filter_map f (until_full (λ x. is_some (f x)) n xs))
found_later r k key f keeps zero xs all = tt
found_later r k key f keeps (suc n) [] all = tt
found_later {X} r k key f keeps (suc n) (x ∷ xs) all = go (λ m. found_later r k key f keeps m xs all.1) (f x) refl
  where
    go : ((m : ℕ) → AllByRecursion (later_than r k) (filter_map f (until_full (λ z. is_some (f z)) m xs)))
        → (o : Option Column) → f x ≡ o → AllByRecursion (later_than r k) (cons_option o (filter_map f (until_full (λ z. is_some (f z)) (cond (is_some o) n (suc n)) xs)))
    go rest None e = rest (suc n)
    go rest (Some c) e = (subst (λ (m : List ℕ). way r k m ≡ Less) (sym (keeps x c e)) all.0, rest n)

none_passes : {X : Type 0} (q : X → Bool) (xs : List X) → ((x : X) → q x ≡ false) → filter q xs ≡ []
none_passes q [] none = refl
none_passes q (x ∷ xs) none = rw (none x) (none_passes q xs none)

-- nothing that is met later than one is met up to it
none_later : {X : Type 0} (r : Bool) (key : X → List ℕ) (c : Column) (xs : List X) → AllByRecursion (λ m. way r c.name m ≡ Less) (map key xs)
    → filter (λ x. is_le (way r (key x) c.name)) xs ≡ []
none_later r key c [] all = refl
none_later r key c (x ∷ xs) all = rw (not_back r c.name (key x) all.0) (none_later r key c xs all.1)

-- one that passes, before the rest
one_passes : {X : Type 0} (q : X → Bool) (x : X) (xs ys : List X) → q x ≡ true → filter q xs ≡ ys → filter q (x ∷ xs) ≡ x ∷ ys
one_passes q x xs ys is e = rw is (ap (λ zs. x ∷ zs) e)

until_none : {X : Type 0} (q : X → Bool) (n : ℕ) (xs : List X) → n ≤ 0 → until_full q n xs ≡ []
until_none q zero xs le = refl
until_none q (suc n) xs le = absurd (omega (arith, le))

-- a walk that is full came past exactly what is met up to the last that it found
until_last : {X : Type 0} (r : Bool) (key : X → List ℕ) (f : X → Option Column) → KeepsName key f → (n : ℕ) (xs : List X) → IsStrictlySortedBy (way r) (map key xs)
    → n ≤ length (filter_map f (until_full (λ x. is_some (f x)) n xs))
    → filter (λ x. up_to r (filter_map f (until_full (λ z. is_some (f z)) n xs)) (key x)) xs ≡ until_full (λ x. is_some (f x)) n xs
unfolding IsStrictlySortedBy
until_last r key f keeps zero xs sorted le = none_passes (λ x. up_to r [] (key x)) xs (λ x. refl)
until_last r key f keeps (suc n) [] sorted le = refl
until_last {X} r key f keeps (suc n) (x ∷ xs) sorted le = go (λ m h. until_last r key f keeps m xs sorted.1 h) (f x) refl le
  where
    before : (m : ℕ) (d : Column) (cs : List Column) → d ∷ cs ≡ filter_map f (until_full (λ z. is_some (f z)) m xs) → up_to r (d ∷ cs) (key x) ≡ true
    before m d cs is =
        ahead r (key x) d cs (subst (λ (ds : List Column). AllByRecursion (later_than r (key x)) ds) (sym is) (found_later r (key x) key f keeps m xs sorted.0))

    passed : ((m : ℕ) → m ≤ length (filter_map f (until_full (λ z. is_some (f z)) m xs))
        → filter (λ z. up_to r (filter_map f (until_full (λ y. is_some (f y)) m xs)) (key z)) xs ≡ until_full (λ z. is_some (f z)) m xs)
        → (m : ℕ) (d : Column) (cs : List Column) → d ∷ cs ≡ filter_map f (until_full (λ z. is_some (f z)) m xs) → m ≤ length (d ∷ cs)
        → filter (λ z. up_to r (d ∷ cs) (key z)) (x ∷ xs) ≡ x ∷ until_full (λ z. is_some (f z)) m xs
    passed rest m d cs is h =
        one_passes (λ z. up_to r (d ∷ cs) (key z)) x xs (until_full (λ z. is_some (f z)) m xs) (before m d cs is)
        (subst (λ (ds : List Column). filter (λ z. up_to r ds (key z)) xs ≡ until_full (λ z. is_some (f z)) m xs) (sym is)
        (rest m (subst (λ (ds : List Column). m ≤ length ds) is h)))

    more : ((m : ℕ) → m ≤ length (filter_map f (until_full (λ z. is_some (f z)) m xs))
        → filter (λ z. up_to r (filter_map f (until_full (λ y. is_some (f y)) m xs)) (key z)) xs ≡ until_full (λ z. is_some (f z)) m xs)
        → (c : Column) (cs : List Column) → f x ≡ Some c → cs ≡ filter_map f (until_full (λ z. is_some (f z)) n xs) → suc n ≤ suc (length cs)
        → filter (λ z. up_to r (c ∷ cs) (key z)) (x ∷ xs) ≡ x ∷ until_full (λ z. is_some (f z)) n xs
    more rest c [] e is h =
        one_passes (λ z. up_to r (c ∷ []) (key z)) x xs (until_full (λ z. is_some (f z)) n xs)
        (ap (λ m. is_le (way r (key x) m)) (keeps x c e) ∙ itself r (key x))
        (none_later r key c xs (subst (λ (m : List ℕ). AllByRecursion (λ k. way r m k ≡ Less) (map key xs)) (sym (keeps x c e)) sorted.0)
        ∙ sym (until_none (λ z. is_some (f z)) n xs (omega (arith, h))))
    more rest c (d ∷ cs) e is h = passed rest n d cs is (omega (arith, h))

    still : ((m : ℕ) → m ≤ length (filter_map f (until_full (λ z. is_some (f z)) m xs))
        → filter (λ z. up_to r (filter_map f (until_full (λ y. is_some (f y)) m xs)) (key z)) xs ≡ until_full (λ z. is_some (f z)) m xs)
        → (cs : List Column) → cs ≡ filter_map f (until_full (λ z. is_some (f z)) (suc n) xs) → suc n ≤ length cs
        → filter (λ z. up_to r cs (key z)) (x ∷ xs) ≡ x ∷ until_full (λ z. is_some (f z)) (suc n) xs
    still rest [] is h = absurd (omega (arith, h))
    still rest (d ∷ cs) is h = passed rest (suc n) d cs is h

    go : ((m : ℕ) → m ≤ length (filter_map f (until_full (λ z. is_some (f z)) m xs))
        → filter (λ z. up_to r (filter_map f (until_full (λ y. is_some (f y)) m xs)) (key z)) xs ≡ until_full (λ z. is_some (f z)) m xs)
        → (o : Option Column) → f x ≡ o → suc n ≤ length (cons_option o (filter_map f (until_full (λ z. is_some (f z)) (cond (is_some o) n (suc n)) xs)))
        → filter (λ z. up_to r (cons_option o (filter_map f (until_full (λ y. is_some (f y)) (cond (is_some o) n (suc n)) xs))) (key z)) (x ∷ xs)
        ≡ x ∷ until_full (λ z. is_some (f z)) (cond (is_some o) n (suc n)) xs
    go rest None e h = still rest (filter_map f (until_full (λ z. is_some (f z)) (suc n) xs)) refl h
    go rest (Some c) e h = more rest c (filter_map f (until_full (λ z. is_some (f z)) n xs)) e refl h

-- a walk came past exactly those within what it found
pub until_within : {X : Type 0} (r : Bool) (key : X → List ℕ) (f : X → Option Column) → KeepsName key f → (n : ℕ) (xs : List X) (cs : List Column)
    → IsStrictlySortedBy (way r) (map key xs) → cs ≡ filter_map f (until_full (λ x. is_some (f x)) n xs)
    → filter (λ x. is_within (Range [] [] r n) cs (key x)) xs ≡ until_full (λ x. is_some (f x)) n xs
until_within {X} r key f keeps n xs cs sorted is =
    by_cases (nat_lt (length cs) n)
    (λ short.
    all_pass (λ x. is_within (Range [] [] r n) cs (key x)) xs (λ x. ap (λ b. b || is_reached r cs (key x)) short)
    ∙ sym (until_end f n xs (subst (λ (ds : List Column). length ds < n) is (below (length cs) n short))))
    (λ full.
    filter_agree (λ x. is_within (Range [] [] r n) cs (key x)) (λ x. up_to r cs (key x)) (λ x. ap (λ b. b || is_reached r cs (key x)) full ∙ reached_last r cs (key x)) xs
    ∙ subst (λ (ds : List Column). filter (λ x. up_to r ds (key x)) xs ≡ until_full (λ x. is_some (f x)) n xs) (sym is)
    (until_last r key f keeps n xs sorted (subst (λ (ds : List Column). n ≤ length ds) is (not_less (length cs) n full))))
  where
    all_pass : {X : Type 0} (q : X → Bool) (ys : List X) → ((y : X) → q y ≡ true) → filter q ys ≡ ys
    all_pass q [] all = refl
    all_pass q (y ∷ ys) all = rw (all y) (ap (λ zs. y ∷ zs) (all_pass q ys all))

    below : (a b : ℕ) → nat_lt a b ≡ true → a < b
    below a b e = search (arith, nat_tests)

    not_less : (a b : ℕ) → nat_lt a b ≡ false → b ≤ a
    not_less a b e = search (arith, nat_tests)

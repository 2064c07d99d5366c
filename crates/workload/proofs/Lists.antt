-- Lists of JSON values, item by item.
use Rattle.std.proofs.Common.{◌≡◌, ◌∙◌, ℕ, zero, suc, ◌+◌, ◌<◌, ◌≤◌, List, [], ◌∷◌, ◌++◌, length, get_or, map, take, drop, String, Option, Some, None, option_map, option_and_then, refl, ap, sym, append_assoc, arith}
use Rattle.std.proofs.lemmas.List.{take_more, take-append-drop}
use Rattle.std.specs.declared.alloc.Global.{Global}
use Rattle.std.proofs.lemmas.Bool.Decides.{nat_tests}
use Rattle.serde_json.specs.Data.{Data}
use Rattle.serde_json.specs.View.{view, items_view, members_view}
use Rattle.serde_json.specs.declared.value.Value.{Value}
use Rattle.logical_time.specs.declared.fault.Fault.{Fault}
use Rattle.logical_time.specs.declared.fault.Fault.TheVariants.{Memory, Script}
use Rattle.workload.specs.Gives.{Fails}
use Rattle.workload.specs.Shape.{members_len, data_of, items_len, all_by, all_within}

-- what stands before an item, the item, and what stands after it
pub item_between : {X : Type 0} (xs : List X) (i : ℕ) (d : X) → i < length xs → take i xs ++ get_or xs i d ∷ drop (i + 1) xs ≡ xs
item_between xs i d lt =
    sym (append_assoc (take i xs) (get_or xs i d ∷ []) (drop (i + 1) xs)) ∙ ap (λ ys. ys ++ drop (i + 1) xs) (sym (take_more xs i d lt)) ∙ take-append-drop (i + 1) xs

pub members_len_view : (es : List (String Global × Value)) → members_len (members_view es) ≡ length es
members_len_view [] = refl
members_len_view (e ∷ es) = ap suc (members_len_view es)

pub data_of_view : (vs : List (Value)) → data_of (items_view vs) ≡ map view vs
data_of_view [] = refl
data_of_view (v ∷ vs) = ap (λ ds. view v ∷ ds) (data_of_view vs)

pub items_len_view : (vs : List (Value)) → items_len (items_view vs) ≡ length vs
items_len_view [] = refl
items_len_view (v ∷ vs) = ap suc (items_len_view vs)

some_same : {A : Type 0} (x y : A) → Some x ≡ Some y → x ≡ y
some_same x y h = cc

abbrev nothing : {B : Type 0} → Option B
nothing = None

none_then : {A B : Type 0} (o : Option A) → option_and_then (λ (x : A). nothing {B = B}) o ≡ None
none_then None = refl
none_then (Some x) = refl

-- one more item after a first one
front_snoc : {A : Type 0} (y : Option A) (ys : Option (List A)) (zs : Option (List A)) (x : A) (xs : List A)
    → ((ws : List A) → ys ≡ Some ws → zs ≡ Some (ws ++ x ∷ []))
    → option_and_then (λ v. option_map (λ vs. v ∷ vs) ys) y ≡ Some xs
    → option_and_then (λ v. option_map (λ vs. v ∷ vs) zs) y ≡ Some (xs ++ x ∷ [])
front_snoc None ys zs x xs rest h = absurd cc
front_snoc (Some y) None zs x xs rest h = absurd cc
front_snoc (Some y) (Some ys) zs x xs rest h = rw (rest ys refl) (ap (λ vs. Some (vs ++ x ∷ [])) (some_same (y ∷ ys) xs h))

-- more items after a first one and others
joined : {A : Type 0} (y : Option A) (ys : Option (List A)) (zs : Option (List A)) (xs more : List A)
    → ((ws : List A) → ys ≡ Some ws → zs ≡ Some (ws ++ more))
    → option_and_then (λ v. option_map (λ vs. v ∷ vs) ys) y ≡ Some xs
    → option_and_then (λ v. option_map (λ vs. v ∷ vs) zs) y ≡ Some (xs ++ more)
joined None ys zs xs more rest h = absurd cc
joined (Some y) None zs xs more rest h = absurd cc
joined (Some y) (Some ys) zs xs more rest h = rw (rest ys refl) (ap (λ vs. Some (vs ++ more)) (some_same (y ∷ ys) xs h))

-- one more item
pub all_by_snoc : {A : Type 0} (f : Data → Option A) (ds : List Data) (xs : List A) (d : Data) (x : A) → all_by f ds ≡ Some xs → f d ≡ Some x → all_by f (ds ++ d ∷ []) ≡ Some (xs ++ x ∷ [])
all_by_snoc f [] xs d x h e = rw e (ap (λ ys. Some (ys ++ x ∷ [])) (some_same _ _ h))
all_by_snoc f (b ∷ ds) xs d x h e = front_snoc (f b) (all_by f ds) (all_by f (ds ++ d ∷ [])) x xs (λ ws g. all_by_snoc f ds ws d x g e) h

-- more items after others
pub all_by_join : {A : Type 0} (f : Data → Option A) (ds es : List Data) (xs ys : List A) → all_by f ds ≡ Some xs → all_by f es ≡ Some ys → all_by f (ds ++ es) ≡ Some (xs ++ ys)
all_by_join f [] es xs ys h g = g ∙ ap (λ zs. Some (zs ++ ys)) (some_same _ _ h)
all_by_join f (d ∷ ds) es xs ys h g = joined (f d) (all_by f ds) (all_by f (ds ++ es)) xs ys (λ ws k. all_by_join f ds es ws ys k g) h

-- an item that stands for nothing
pub all_by_none : {A B : Type 0} (f : Data → Option A) (see : B → Data) (bs : List B) (i : ℕ) (b : B) → i < length bs → f (see (get_or bs i b)) ≡ None → all_by f (map see bs) ≡ None
all_by_none f see [] i b lt h = absurd (omega arith)
all_by_none f see (c ∷ bs) zero b lt h = rw h refl
all_by_none f see (c ∷ bs) (suc i) b lt h = rw (all_by_none f see bs i b (omega arith) h) (none_then (f (see c)))

-- an item that is refused
pub all_by_fails : {A B : Type 0} (f : Data → Option A) (see : B → Data) (bs : List B) (i : ℕ) (b : B) (e : Fault) → i < length bs → Fails e (f (see (get_or bs i b))) → Fails e (all_by f (map see bs))
all_by_fails f see bs i b Memory lt h = tt
all_by_fails f see bs i b Script lt h = all_by_none f see bs i b lt h
all_by_fails f see bs i b e lt h = absurd h

-- a list that isn't too long
pub all_within_short : {A : Type 0} (f : Data → Option A) (most : ℕ) (ds : List Data) → length ds ≤ most → all_within f most ds ≡ all_by f ds
all_within_short f most ds h = grind (arith, nat_tests)

-- a list that is too long
pub all_within_long : {A : Type 0} (f : Data → Option A) (most : ℕ) (ds : List Data) → most < length ds → all_within f most ds ≡ None
all_within_long f most ds h = grind (arith, nat_tests)

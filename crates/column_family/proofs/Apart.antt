-- Changes that are each in a row of its own are their own normal form.
use Rattle.std.proofs.Common.{◌≡◌, ◌∙◌, ℕ, ◌+◌, ◌<◌, ap, sym, refl, Bool, true, false, List, [], ◌∷◌, ◌++◌, append_assoc, append-nil, arith}
use Rattle.std.specs.Prelude.{◌==◌, ◌&&◌, not}
use Rattle.std.specs.List.{AllByRecursion, list_any}
use Rattle.std.specs.Str.{bytes_eq}
use Rattle.std.specs.declared.cmp.Ordering.TheVariants.{Greater}
use Rattle.std.specs.Ordering.{nat_cmp}
use Rattle.std.specs.Map.{values_of}
use Rattle.std.specs.BTreeMap.{insert_entry}
use Rattle.std.proofs.lemmas.Bool.{ne_eqb}
use Rattle.std.proofs.lemmas.Slice.Eq.{bytes_eq-Decides}
use Rattle.column_family.specs.declared.batch.Row.{Row}
use Rattle.column_family.specs.declared.batch.Change.{Change}
use Rattle.column_family.specs.declared.batch.Mutation.{Mutation}
use Rattle.column_family.specs.declared.places.Place.{Place}
use Rattle.column_family.specs.Location.{is_same_row}
use Rattle.column_family.specs.Normal.{changes_before}
use Rattle.column_family.specs.Places.{Placed, are_apart, place_cmp, part_of, after, keep, keep_all, normal_of}
use Rattle.column_family.proofs.Options.{both_true, neither}
use Rattle.column_family.proofs.Firsts.{bytes_eq-flip}

-- ---- a place behind all at which something is kept
abbrev StandsBelow : ℕ → Placed → Type 0
StandsBelow i = AllByRecursion (λ (e : Place × Change). e.0.row < i)

greater : (i j : ℕ) → j < i → nat_cmp i j ≡ Greater
greater i j h = grind arith

elsewhere : (i j : ℕ) → j < i → (j == i) ≡ false
elsewhere i j h = ne_eqb j i (λ e. omega arith)

none_undone : (i : ℕ) (m : Mutation) (es : Placed) → StandsBelow i es → after i m es ≡ es
none_undone i m [] below = refl
none_undone i m (e ∷ es) below = let other = elsewhere i e.0.row below.0 in rw other (ap (λ (fs : Placed). e ∷ fs) (none_undone i m es below.1))

behind : (k : Place) (c : Change) (es : Placed) → StandsBelow k.row es → insert_entry place_cmp es k c ≡ es ++ (k, c) ∷ []
behind k c [] below = refl
behind k c (e ∷ es) below = let g = greater k.row e.0.row below.0 in rw g (ap (λ (fs : Placed). e ∷ fs) (behind k c es below.1))

kept_last : (i : ℕ) (c : Change) (n : ℕ) (es : Placed) → n ≡ i → StandsBelow i es → keep n i es c ≡ es ++ (record { row = i; part = part_of i c.mutation }, c) ∷ []
kept_last i c n es numbered below =
    ap (λ (j : ℕ). keep j i es c) numbered
    ∙ (ap (λ (fs : Placed). insert_entry place_cmp fs (record { row = i; part = part_of i c.mutation }) c) (none_undone i c.mutation es below)
    ∙ behind (record { row = i; part = part_of i c.mutation }) c es below)

below_more : (i : ℕ) (es : Placed) (k : Place) (c : Change) → k.row ≡ i → StandsBelow i es → StandsBelow (i + 1) (es ++ (k, c) ∷ [])
below_more i [] k c e below = (omega arith, tt)
below_more i (f ∷ es) k c e below = let h = below.0 in (omega arith, below_more i es k c e below.1)

values_more : (es : Placed) (k : Place) (c : Change) → values_of (es ++ (k, c) ∷ []) ≡ values_of es ++ c ∷ []
values_more [] k c = refl
values_more (e ∷ es) k c = ap (λ (cs : List Change). e.1 ∷ cs) (values_more es k c)

-- ---- all of them
IsNumbered : (Row → ℕ) → ℕ → List Change → Type 0
IsNumbered number i [] = Unit {0}
IsNumbered number i (c ∷ cs) = (number c.row ≡ i) × IsNumbered number (i + 1) cs

kept_all : (number : Row → ℕ) (i : ℕ) (es : Placed) (cs : List Change) → IsNumbered number i cs → StandsBelow i es → values_of (keep_all number i es cs) ≡ values_of es ++ cs
unfolding IsNumbered
kept_all number i es [] numbered below = sym (append-nil (values_of es))
kept_all number i es (c ∷ cs) numbered below =
    let k : Place = record { row = i; part = part_of i c.mutation } in
    ap (λ (fs : Placed). values_of (keep_all number (i + 1) fs cs)) (kept_last i c (number c.row) es numbered.0 below)
    ∙ (kept_all number (i + 1) (es ++ (k, c) ∷ []) cs numbered.1 (below_more i es k c refl below)
    ∙ (ap (λ (ds : List Change). ds ++ cs) (values_more es k c) ∙ append_assoc (values_of es) (c ∷ []) cs))

-- ---- the numbers of rows of their own
flipped : (r s : Row) → is_same_row r s ≡ is_same_row s r
flipped r s =
    ap (λ (b : Bool). b && bytes_eq r.family s.family) (bytes_eq-flip r.key s.key)
    ∙ ap (λ (b : Bool). bytes_eq s.key r.key && b) (bytes_eq-flip r.family s.family)

same_itself : (r : Row) → is_same_row r r ≡ true
same_itself r =
    let key = (bytes_eq-Decides r.key r.key).1 refl in
    let family = (bytes_eq-Decides r.family r.family).1 refl in
    rw (key, family) refl

shifted : (c : Change) (all : List Change) (i : ℕ) (ds : List Change) → list_any (λ (d : Change). is_same_row c.row d.row) ds ≡ false → IsNumbered (changes_before all) i ds → IsNumbered (changes_before (c ∷ all)) (i + 1) ds
unfolding IsNumbered
shifted c all i [] apart numbered = tt
shifted c all i (d ∷ ds) apart numbered =
    let none = neither (is_same_row c.row d.row) (list_any (λ (d : Change). is_same_row c.row d.row) ds) apart in
    let other : is_same_row d.row c.row ≡ false = flipped d.row c.row ∙ none.0 in
    (rw other (ap (λ (j : ℕ). j + 1) numbered.0), shifted c all (i + 1) ds none.1 numbered.1)

denied : (b : Bool) → not b ≡ true → b ≡ false
denied true h = absurd (cc)
denied false h = refl

parts : (c : Change) (cs : List Change) → are_apart (c ∷ cs) ≡ true → (list_any (λ (d : Change). is_same_row c.row d.row) cs ≡ false) × (are_apart cs ≡ true)
parts c cs h =
    let both = both_true (not (list_any (λ (d : Change). is_same_row c.row d.row) cs)) (are_apart cs) h in
    (denied (list_any (λ (d : Change). is_same_row c.row d.row) cs) both.0, both.1)

numbered : (cs : List Change) → are_apart cs ≡ true → IsNumbered (changes_before cs) 0 cs
unfolding IsNumbered
numbered [] h = tt
numbered (c ∷ cs) h =
    let p = parts c cs h in
    let own = same_itself c.row in
    (rw own refl, shifted c cs 0 cs p.0 (numbered cs p.1))

pub apart_normal : (cs : List Change) → are_apart cs ≡ true → normal_of cs ≡ cs
apart_normal cs h = kept_all (changes_before cs) 0 [] cs (numbered cs h) tt

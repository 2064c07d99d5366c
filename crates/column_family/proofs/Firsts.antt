-- Where the first change of each row stands, and what is kept, from the newest change to the oldest.
use Rattle.std.proofs.Common.{◌≡◌, ◌∙◌, ℕ, suc, ◌+◌, ◌<◌, get_or, drop, ap, sym, refl, Bool, true, false, ◌&&◌, List, [], ◌∷◌, ◌++◌, length, Option, Some, None, arith}
use Rattle.std.specs.BTreeMap.{BTreeMap, get, Updates}
use Rattle.std.specs.Prelude.{if◌then◌else◌, unwrap_or}
use Rattle.std.specs.declared.cmp.Ordering.{Ordering}
use Rattle.std.specs.declared.cmp.Ordering.TheVariants.{Less, Equal, Greater}
use Rattle.std.specs.Ordering.{nat_cmp, is_eq, ordering_then}
use Rattle.std.specs.Cmp.Lexicographic.{slice_cmp}
use Rattle.std.specs.Str.{bytes_eq}
use Rattle.std.proofs.lemmas.List.{drop_more}
use Rattle.std.proofs.lemmas.Slice.Eq.{bytes_eq-Decides}
use Rattle.std.proofs.lemmas.Map.Text.{is_eq-slice_cmp}
use Rattle.column_family.specs.declared.batch.Row.{Row}
use Rattle.column_family.specs.declared.batch.Change.{Change}
use Rattle.column_family.specs.Location.{is_same_row}
use Rattle.column_family.specs.Normal.{changes_before}
use Rattle.column_family.proofs.Options.{by_cases}
use Rattle.column_family.specs.Places.{Placed, row_cmp, first_from, keep, keep_all}

first_from_push : (i : ℕ) (xs : List Change) (c : Change) (r : Row) (n : ℕ) → first_from i (xs ++ c ∷ []) r n ≡ first_from i xs r (if is_same_row r c.row then i + length xs else n)
first_from_push i [] c r n = let e : i + 0 ≡ i = omega arith in rw e refl
first_from_push i (x ∷ xs) c r n =
    let e : i + suc (length xs) ≡ (i + 1) + length xs = omega arith in
    rw e (ap (λ (m : ℕ). if is_same_row r x.row then i else m) (first_from_push (i + 1) xs c r n))

first_from_all : (i : ℕ) (xs : List Change) (r : Row) → first_from i xs r (i + length xs) ≡ changes_before xs r + i
first_from_all i [] r = omega arith
first_from_all i (x ∷ xs) r =
    let ih = first_from_all (i + 1) xs r in
    let e : i + suc (length xs) ≡ (i + 1) + length xs = omega arith in
    rw e (rw ih (go (is_same_row r x.row)))
  where
    go : (b : Bool) → (if b then i else changes_before xs r + (i + 1)) ≡ (if b then 0 else changes_before xs r + 1) + i
    go true = omega arith
    go false = omega arith

-- equal rows are one row, by either test
pub bytes_eq-flip : (a b : List ℕ) → bytes_eq a b ≡ bytes_eq b a
bytes_eq-flip a b =
    by_cases (bytes_eq a b)
    (λ y. y ∙ sym ((bytes_eq-Decides b a).1 (sym ((bytes_eq-Decides a b).0 y))))
    (λ n. by_cases (bytes_eq b a)
    (λ y. let z : bytes_eq a b ≡ true = (bytes_eq-Decides a b).1 (sym ((bytes_eq-Decides b a).0 y)) in cc)
    (λ m. n ∙ sym m))

is_eq-then : (x y : Ordering) → is_eq (ordering_then x y) ≡ (is_eq x && is_eq y)
is_eq-then Less y = refl
is_eq-then Equal y = refl
is_eq-then Greater y = refl

pub row_test : (a b : Row) → is_eq (row_cmp a b) ≡ is_same_row b a
row_test a b =
    is_eq-then (slice_cmp nat_cmp a.key b.key) (slice_cmp nat_cmp a.family b.family)
    ∙ ap (λ (x : Bool). x && is_eq (slice_cmp nat_cmp a.family b.family)) (is_eq-slice_cmp a.key b.key ∙ bytes_eq-flip a.key b.key)
    ∙ ap (λ (x : Bool). bytes_eq b.key a.key && x) (is_eq-slice_cmp a.family b.family ∙ bytes_eq-flip a.family b.family)

held_or : (b : Bool) (x d : ℕ) (o : Option ℕ) → unwrap_or (if b then Some x else o) d ≡ (if b then x else unwrap_or o d)
held_or true x d o = refl
held_or false x d o = refl

pub first_begin : (changes : List Change) (m : BTreeMap Row ℕ) → m.entries ≡ [] → (r : Row) → first_from 0 changes r (unwrap_or (get row_cmp m r) (length changes)) ≡ changes_before changes r
first_begin changes m empty r =
    let none : get row_cmp m r ≡ None = rw empty refl in
    let e : changes_before changes r + 0 ≡ changes_before changes r = omega arith in
    let z : 0 + length changes ≡ length changes = omega arith in
    ap (λ (o : Option ℕ). first_from 0 changes r (unwrap_or o (length changes))) none
    ∙ ap (λ (n : ℕ). first_from 0 changes r n) (sym z) ∙ first_from_all 0 changes r ∙ e

pub first_step : (changes rest earlier : List Change) (c : Change) (k : Row) (m n : BTreeMap Row ℕ) → rest ≡ earlier ++ c ∷ [] → k ≡ c.row → Updates row_cmp m n k (Some (length earlier)) → ((r : Row) → first_from 0 rest r (unwrap_or (get row_cmp m r) (length changes)) ≡ changes_before changes r) → (r : Row) → first_from 0 earlier r (unwrap_or (get row_cmp n r) (length changes)) ≡ changes_before changes r
first_step changes rest earlier c k m n split same updates so_far r =
    let d = unwrap_or (get row_cmp m r) (length changes) in
    let z : 0 + length earlier ≡ length earlier = omega arith in
    let test : is_eq (row_cmp k r) ≡ is_same_row r c.row = row_test k r ∙ ap (λ (s : Row). is_same_row r s) same in
    ap (λ (o : Option ℕ). first_from 0 earlier r (unwrap_or o (length changes))) (updates.0 r)
    ∙ ap (λ (x : ℕ). first_from 0 earlier r x) (held_or (is_eq (row_cmp k r)) (length earlier) (length changes) (get row_cmp m r))
    ∙ ap (λ (b : Bool). first_from 0 earlier r (if b then length earlier else d)) test
    ∙ ap (λ (x : ℕ). first_from 0 earlier r (if is_same_row r c.row then x else d)) (sym z)
    ∙ sym (first_from_push 0 earlier c r d)
    ∙ ap (λ (xs : List Change). first_from 0 xs r d) (sym split)
    ∙ so_far r

-- the step of a walk that keeps what stands at the place i of a batch
pub keep_step : (number : Row → ℕ) (es fs all : Placed) (changes : List Change) (c : Change) (i n : ℕ) → i < length changes → c ≡ get_or changes i c → n ≡ number c.row → fs ≡ keep n i es c
    → keep_all number i es (drop i changes) ≡ all → keep_all number (i + 1) fs (drop (i + 1) changes) ≡ all
keep_step number es fs all changes c i n inside is numbered kept so_far =
    let next : drop i changes ≡ (c ∷ drop (i + 1) changes) = drop_more changes i c inside ∙ ap (λ (x : Change). x ∷ drop (i + 1) changes) (sym is) in
    ap (λ (gs : Placed). keep_all number (i + 1) gs (drop (i + 1) changes)) (kept ∙ ap (λ (m : ℕ). keep m i es c) numbered)
    ∙ (ap (λ (xs : List Change). keep_all number i es xs) (sym next) ∙ so_far)

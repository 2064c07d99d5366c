-- A list of which one is taken out, where the last one takes its place, and put back.
use Rattle.std.proofs.Common.{◌≡◌, ◌≢◌, ◌∙◌, ap, sym, refl, ℕ, ◌+◌, ◌-◌, ◌<◌, ◌≤◌, true, false, nat_lt, ◌==◌, List, [], ◌∷◌, ◌++◌, length, get_or, set, Some, None, arith, ⊎_elim}
use Rattle.std.specs.Prelude.{if◌then◌else◌, slice_get}
use Rattle.std.specs.List.{swap, swap_remove}
use Rattle.std.proofs.lemmas.Bool.{cases_eq, cases_lt, eq-eqb, ne_eqb, lt-ltb, le-ltb}
use Rattle.std.proofs.lemmas.List.{length-set, length-take-le, get_or-set_same, get_or-set_other, get_or-take, get_or_append_left, get_or_push, get_or_default, length_push, same_lists}
use Rattle.std.proofs.lemmas.List.Edits.{swap_is, length-swap}
use Rattle.std.proofs.lemmas.Option.{slice_get-get_or, slice_get_past}

-- by whether two numbers are equal, and by whether one is below the other
pub by_equal : {P : Type 0} (k i : ℕ) → (k ≡ i → (k == i) ≡ true → P) → (k ≢ i → (k == i) ≡ false → P) → P
by_equal k i same apart = ⊎_elim (λ e. same e (eq-eqb k i e)) (λ ne. apart ne (ne_eqb k i ne)) (cases_eq k i)

pub by_below : {P : Type 0} (k n : ℕ) → (k < n → nat_lt k n ≡ true → P) → (n ≤ k → nat_lt k n ≡ false → P) → P
by_below k n under over = ⊎_elim (λ lt. under lt (lt-ltb k n lt)) (λ le. over le (le-ltb k n le)) (cases_lt k n)

-- what is read at two places is the same where both are within
pub same_reads : {X : Type 0} (xs ys : List X) (i j : ℕ) → i < length xs → j < length ys → ((d : X) → get_or xs i d ≡ get_or ys j d) → slice_get xs i ≡ slice_get ys j
same_reads [] ys i j h g same = absurd (omega arith)
same_reads (x ∷ xs) ys i j h g same =
    slice_get-get_or (x ∷ xs) i x h ∙ ap Some (same x) ∙ sym (slice_get-get_or ys j x g)

-- what is read after one was replaced
pub read_set : {X : Type 0} (xs : List X) (i : ℕ) (y : X) → i < length xs → (k : ℕ) → slice_get (set xs i y) k ≡ (if k == i then Some y else slice_get xs k)
read_set xs i y h k =
    let same_length = length-set xs i y in
    by_equal {P = slice_get (set xs i y) k ≡ (if k == i then Some y else slice_get xs k)} k i
    (λ at here.
    let within : k < length (set xs i y) = omega arith in
    rw here (slice_get-get_or (set xs i y) k y within ∙ ap (λ (j : ℕ). Some (get_or (set xs i y) j y)) at ∙ ap Some (get_or-set_same xs i y y h)))
    (λ apart there. rw there (
    by_below {P = slice_get (set xs i y) k ≡ slice_get xs k} k (length xs)
    (λ inside e. same_reads (set xs i y) xs k k (omega arith) inside (λ d. get_or-set_other xs i k y d apart))
    (λ past e. slice_get_past (set xs i y) k (omega arith) ∙ sym (slice_get_past xs k past))
    ))

-- one fewer is left
pub length_taken : {X : Type 0} (xs : List X) (i : ℕ) (x : X) → i < length xs → length (swap_remove xs i x) ≡ length xs - 1
length_taken xs i x h =
    let n = length xs - 1 in
    let all = length-set xs i (get_or xs n x) in
    length-take-le n (set xs i (get_or xs n x)) (omega arith)

-- what is left at a place that isn't the one
left_other : {X : Type 0} (xs : List X) (i : ℕ) (x : X) (k : ℕ) → i < length xs → k < length xs - 1 → k ≢ i → (d : X) → get_or (swap_remove xs i x) k d ≡ get_or xs k d
left_other xs i x k h within apart d =
    get_or-take (length xs - 1) (set xs i (get_or xs (length xs - 1) x)) k d within
    ∙ get_or-set_other xs i k (get_or xs (length xs - 1) x) d apart

-- the last one stands at the place
left_there : {X : Type 0} (xs : List X) (i : ℕ) (x : X) → i < length xs - 1 → (d : X) → get_or (swap_remove xs i x) i d ≡ get_or xs (length xs - 1) d
left_there xs i x h d =
    get_or-take (length xs - 1) (set xs i (get_or xs (length xs - 1) x)) i d h
    ∙ get_or-set_same xs i (get_or xs (length xs - 1) x) d (omega arith)
    ∙ get_or_default xs (length xs - 1) x d (omega arith)

-- what is read after one was taken out
pub read_taken : {X : Type 0} (xs : List X) (i : ℕ) (x : X) → i < length xs → (k : ℕ) → slice_get (swap_remove xs i x) k ≡ (if nat_lt k (length xs - 1) then (if k == i then slice_get xs (length xs - 1) else slice_get xs k) else None)
read_taken xs i x h k =
    let left = length_taken xs i x h in
    by_below {P = slice_get (swap_remove xs i x) k ≡ (if nat_lt k (length xs - 1) then (if k == i then slice_get xs (length xs - 1) else slice_get xs k) else None)} k (length xs - 1)
    (λ within inside. rw inside (
    by_equal {P = slice_get (swap_remove xs i x) k ≡ (if k == i then slice_get xs (length xs - 1) else slice_get xs k)} k i
    (λ at here. rw here (same_reads (swap_remove xs i x) xs k (length xs - 1) (omega arith) (omega arith) (λ d. ap (λ (j : ℕ). get_or (swap_remove xs i x) j d) at ∙ left_there xs i x (omega arith) d)))
    (λ apart there. rw there (same_reads (swap_remove xs i x) xs k k (omega arith) (omega arith) (left_other xs i x k h within apart)))
    ))
    (λ past outside. rw outside (slice_get_past (swap_remove xs i x) k (omega arith)))

-- one that is pushed and swapped with the one at a place stands there, and that one at the end
pushed_at : {X : Type 0} (zs : List X) (i : ℕ) (y : X) (k : ℕ) (d : X) → i ≤ length zs → k < length zs + 1 → get_or (swap (zs ++ y ∷ []) i (length zs)) k d ≡ (if k == i then y else (if k == length zs then get_or zs i d else get_or zs k d))
pushed_at {X} zs i y k d h within =
    let long = length_push zs y in
    let same_length = length-set (zs ++ y ∷ []) i (get_or (zs ++ y ∷ []) (length zs) y) in
    ap (λ ys. get_or ys k d) (sym (swap_is (zs ++ y ∷ []) i (length zs) y (omega arith) (omega arith)))
    ∙ by_equal {P = get_or (set (set (zs ++ y ∷ []) i (get_or (zs ++ y ∷ []) (length zs) y)) (length zs) (get_or (zs ++ y ∷ []) i y)) k d ≡ (if k == i then y else (if k == length zs then get_or zs i d else get_or zs k d))} k (length zs)
    (λ last at_end.
    ap (λ (j : ℕ). get_or (set (set (zs ++ y ∷ []) i (get_or (zs ++ y ∷ []) (length zs) y)) (length zs) (get_or (zs ++ y ∷ []) i y)) j d) last
    ∙ get_or-set_same (set (zs ++ y ∷ []) i (get_or (zs ++ y ∷ []) (length zs) y)) (length zs) (get_or (zs ++ y ∷ []) i y) d (omega arith)
    ∙ by_equal {P = get_or (zs ++ y ∷ []) i y ≡ (if k == i then y else (if k == length zs then get_or zs i d else get_or zs k d))} k i
    (λ at here. rw here (get_or_push zs y y i (omega arith)))
    (λ apart there. rw (there, at_end) (get_or_append_left zs (y ∷ []) y i (omega arith) ∙ get_or_default zs i y d (omega arith))))
    (λ before not_at_end.
    get_or-set_other (set (zs ++ y ∷ []) i (get_or (zs ++ y ∷ []) (length zs) y)) (length zs) k (get_or (zs ++ y ∷ []) i y) d before
    ∙ by_equal {P = get_or (set (zs ++ y ∷ []) i (get_or (zs ++ y ∷ []) (length zs) y)) k d ≡ (if k == i then y else (if k == length zs then get_or zs i d else get_or zs k d))} k i
    (λ at here. rw here (
    ap (λ (j : ℕ). get_or (set (zs ++ y ∷ []) i (get_or (zs ++ y ∷ []) (length zs) y)) j d) at
    ∙ get_or-set_same (zs ++ y ∷ []) i (get_or (zs ++ y ∷ []) (length zs) y) d (omega arith)
    ∙ get_or_push zs y y (length zs) refl
    ))
    (λ apart there. rw (there, not_at_end) (
    get_or-set_other (zs ++ y ∷ []) i k (get_or (zs ++ y ∷ []) (length zs) y) d apart
    ∙ get_or_append_left zs (y ∷ []) d k (omega arith)
    )))

-- what was put back stands where it was, and so do the others
pub put_back_is : {X : Type 0} (xs : List X) (i : ℕ) (x y : X) → i < length xs → swap (swap_remove xs i x ++ y ∷ []) i (length (swap_remove xs i x)) ≡ set xs i y
put_back_is xs i x y h =
    let left = length_taken xs i x h in
    let long = length_push (swap_remove xs i x) y in
    let same_length = length-swap (swap_remove xs i x ++ y ∷ []) i (length (swap_remove xs i x)) in
    let same_length_too = length-set xs i y in
    same_lists (swap (swap_remove xs i x ++ y ∷ []) i (length (swap_remove xs i x))) (set xs i y) (omega arith)
    (λ k d within.
    pushed_at (swap_remove xs i x) i y k d (omega arith) (omega arith)
    ∙ by_equal {P = (if k == i then y else (if k == length (swap_remove xs i x) then get_or (swap_remove xs i x) i d else get_or (swap_remove xs i x) k d)) ≡ get_or (set xs i y) k d} k i
    (λ at here. rw here (sym (ap (λ (j : ℕ). get_or (set xs i y) j d) at ∙ get_or-set_same xs i y d h)))
    (λ apart there. rw there (
    by_equal {P = (if k == length (swap_remove xs i x) then get_or (swap_remove xs i x) i d else get_or (swap_remove xs i x) k d) ≡ get_or (set xs i y) k d} k (length (swap_remove xs i x))
    (λ last at_end. rw at_end (left_there xs i x (omega arith) d ∙ sym (get_or-set_other xs i k y d apart ∙ ap (λ (j : ℕ). get_or xs j d) (last ∙ left))))
    (λ before not_at_end. rw not_at_end (left_other xs i x k h (omega arith) apart d ∙ sym (get_or-set_other xs i k y d apart)))
    )))

-- The steps of a walk over rising names.
use Rattle.std.proofs.Common.{◌≡◌, refl, ◌∙◌, ap, sym, subst, ℕ, zero, suc, add-one, ◌+◌, ◌-◌, ◌≤◌, ◌<◌, Bool, true, false, nat_le, List, [], ◌∷◌, ◌++◌, take, Option, Some, None, length, get_or, inl, inr, ⊎_elim, arith}
use Rattle.std.proofs.lemmas.Bool.Decides.{nat_tests}
use Rattle.std.specs.Prelude.{Contains, IfSome, IfNone, reverse, not, ◌⊎◌, ◌&&◌, ◌||◌, nat_lt}
use Rattle.std.specs.Ordering.{nat_cmp}
use Rattle.std.specs.List.Sorted.{IsPermutation}
use Rattle.std.specs.BinaryHeap.{IsHeap, IsUpperBound, PopsGreatest}
use Rattle.std.proofs.lemmas.List.{take_all}
use Rattle.std.proofs.lemmas.List.Sorted.{Contains-permutation, IsPermutation-sym}
use Rattle.column_family.specs.Names.{name_le, is_open}
use Rattle.versions.specs.declared.range.RangeDeletion.{RangeDeletion}
use Rattle.versions.specs.Ranges.{is_over, over_of}
use Rattle.versions.specs.Sweeps.{is_come_to, is_left, AreSeen, AreAll, IsAhead, IsOnWay, IsAtEnd}
use Rattle.versions.proofs.Tests.{by_cases}
use Rattle.versions.proofs.SweepOrder.{come_later, left_later}
use Rattle.versions.proofs.RangesIndexed.{over_here, over_below}

-- ---- lists of indices
first_or_later : (x z : ℕ) (xs : List ℕ) → Contains (x ∷ xs) z → (x ≡ z) ⊎ Contains xs z
first_or_later x z xs c = go c.0 c.1 c.2
  where
    go : (k : ℕ) → k < length (x ∷ xs) → get_or (x ∷ xs) k z ≡ z → (x ≡ z) ⊎ Contains xs z
    go zero l e = inl e
    go (suc k) l e = inr (k, omega arith, e)

has_first : (x : ℕ) (xs : List ℕ) → Contains (x ∷ xs) x
has_first x xs = (0, omega arith, refl)

has_later : (x z : ℕ) (xs : List ℕ) → Contains xs z → Contains (x ∷ xs) z
has_later x z xs c = (suc c.0, omega (arith, c.1), c.2)

pub nothing_in : (z : ℕ) → Contains [] z → ⊥
nothing_in z c = omega (arith, c.1)

in_pushed : (x z : ℕ) (xs : List ℕ) → Contains (xs ++ x ∷ []) z → Contains xs z ⊎ (x ≡ z)
in_pushed x z [] c = ⊎_elim (λ e. inr e) (λ k. absurd (nothing_in z k)) (first_or_later x z [] c)
in_pushed x z (y ∷ ys) c = ⊎_elim (λ e. inl (subst (Contains (y ∷ ys)) e (has_first y ys))) (λ k. ⊎_elim (λ h. inl (has_later y z ys h)) inr (in_pushed x z ys k)) (first_or_later y z (ys ++ x ∷ []) c)

stays_pushed : (x z : ℕ) (xs : List ℕ) → Contains xs z → Contains (xs ++ x ∷ []) z
stays_pushed x z [] c = absurd (nothing_in z c)
stays_pushed x z (y ∷ ys) c = ⊎_elim (λ e. subst (Contains (y ∷ (ys ++ x ∷ []))) e (has_first y (ys ++ x ∷ []))) (λ k. has_later y z (ys ++ x ∷ []) (stays_pushed x z ys k)) (first_or_later y z ys c)

is_pushed : (x : ℕ) (xs : List ℕ) → Contains (xs ++ x ∷ []) x
is_pushed x [] = has_first x []
is_pushed x (y ∷ ys) = has_later y x (ys ++ x ∷ []) (is_pushed x ys)

pub own_place : (xs : List ℕ) (n d : ℕ) → n < length xs → Contains xs (get_or xs n d)
own_place [] n d lt = absurd (omega (arith, lt))
own_place (x ∷ xs) zero d lt = has_first x xs
own_place (x ∷ xs) (suc n) d lt = has_later x (get_or xs n d) xs (own_place xs n d (omega (arith, lt)))

pub same_place : (xs : List ℕ) (n d e : ℕ) → n < length xs → get_or xs n d ≡ get_or xs n e
same_place [] n d e lt = absurd (omega (arith, lt))
same_place (x ∷ xs) zero d e lt = refl
same_place (x ∷ xs) (suc n) d e lt = same_place xs n d e (omega (arith, lt))

range_place : (xs : List RangeDeletion) (n : ℕ) (d e : RangeDeletion) → n < length xs → get_or xs n d ≡ get_or xs n e
range_place [] n d e lt = absurd (omega (arith, lt))
range_place (x ∷ xs) zero d e lt = refl
range_place (x ∷ xs) (suc n) d e lt = range_place xs n d e (omega (arith, lt))

pub evt_at : (rs : List RangeDeletion) (i t : ℕ) (x : RangeDeletion) (b : Bool) → i < length rs → x ≡ get_or rs i x → nat_le x.evt t ≡ b → (d : RangeDeletion) → nat_le (get_or rs i d).evt t ≡ b
evt_at rs i t x b lt is h d = ap (λ (y : RangeDeletion). nat_le y.evt t) (range_place rs i d x lt ∙ sym is) ∙ h

pub popped : (o : Option ℕ) (i n : ℕ) (items rest : List ℕ) → IfSome o (λ x. x ≡ get_or items 0 x) → IfSome o (λ x. IsPermutation items (x ∷ rest)) → IfNone o (n ≡ 0) → 0 < n → 0 < length items → i ≡ get_or items 0 i → IsPermutation items (i ∷ rest)
popped None i n items rest top p none some lt is = absurd (omega (arith, none, some))
popped (Some x) i n items rest top p none some lt is = subst (λ (y : ℕ). IsPermutation items (y ∷ rest)) (top ∙ same_place items 0 x i lt ∙ sym is) p

pub heap_popped : (o : Option ℕ) (n : ℕ) (items rest : List ℕ) → IfSome o (λ x. PopsGreatest nat_cmp items x rest) → IfNone o (n ≡ 0) → 0 < n → IsHeap nat_cmp items → IsHeap nat_cmp rest
heap_popped None n items rest h none some heap = absurd (omega (arith, none, some))
heap_popped (Some x) n items rest h none some heap = (h heap).0

pub popped_stays : (i k : ℕ) (items rest : List ℕ) → IsPermutation items (i ∷ rest) → Contains rest k → Contains items k
popped_stays i k items rest p c = Contains-permutation (i ∷ rest) items k (IsPermutation-sym items (i ∷ rest) p) (has_later i k rest c)

-- ---- those that are seen
pub seen_none : (rs : List RangeDeletion) (t : ℕ) → AreSeen rs t []
seen_none rs t i c = absurd (nothing_in i c)

pub seen_pushed : (rs : List RangeDeletion) (t i : ℕ) (is : List ℕ) → i < length rs → ((d : RangeDeletion) → nat_le (get_or rs i d).evt t ≡ true) → AreSeen rs t is → AreSeen rs t (is ++ i ∷ [])
seen_pushed rs t i is lt now h k c = ⊎_elim (h k) (λ e. (subst (λ (n : ℕ). n < length rs) e lt, λ d. subst (λ (n : ℕ). nat_le (get_or rs n d).evt t ≡ true) e (now d))) (in_pushed i k is c)

pub all_none : (rs : List RangeDeletion) (t : ℕ) → AreAll rs t 0 []
all_none rs t i d lt seen = absurd (omega (arith, lt))

pub all_pushed : (rs : List RangeDeletion) (t i : ℕ) (is : List ℕ) → AreAll rs t i is → AreAll rs t (i + 1) (is ++ i ∷ [])
all_pushed rs t i is h k d lt seen =
    by_cases (nat_lt k i)
    (λ below. stays_pushed i k is (h k d (grind (arith, nat_tests, below)) seen))
    (λ at. let e : i ≡ k = grind (arith, nat_tests, at, lt) in subst (Contains (is ++ i ∷ [])) e (is_pushed i is))

pub all_passed : (rs : List RangeDeletion) (t i : ℕ) (is : List ℕ) → ((d : RangeDeletion) → nat_le (get_or rs i d).evt t ≡ false) → AreAll rs t i is → AreAll rs t (i + 1) is
all_passed rs t i is not h k d lt seen =
    by_cases (nat_lt k i)
    (λ below. h k d (grind (arith, nat_tests, below)) seen)
    (λ at. let e : i ≡ k = grind (arith, nat_tests, at, lt) in let no = subst (λ (n : ℕ). nat_le (get_or rs n d).evt t ≡ false) e (not d) in absurd (cc))

pub seen_permuted : (rs : List RangeDeletion) (t : ℕ) (is js : List ℕ) → IsPermutation is js → AreSeen rs t is → AreSeen rs t js
seen_permuted rs t is js p h i c = h i (Contains-permutation js is i (IsPermutation-sym is js p) c)

pub all_permuted : (rs : List RangeDeletion) (t n : ℕ) (is js : List ℕ) → IsPermutation is js → AreAll rs t n is → AreAll rs t n js
all_permuted rs t n is js p h i d lt seen = Contains-permutation is js i p (h i d lt seen)

-- ---- the way
pub way_begins : (rs : List RangeDeletion) (t : ℕ) (ahead : List ℕ) (name : List ℕ) → AreAll rs t (length rs) ahead → IsHeap nat_cmp [] → IsOnWay rs t ahead 0 [] name
way_begins rs t ahead name all heap = record {
  inside = omega arith;
  seen = seen_none rs t;
  come = λ i d c. absurd (nothing_in i c);
  complete = λ i d lt seen. let c = all i d lt seen in inl (c.0, omega arith, c.1, c.2);
  heap = heap;
}

pub way_goes_on : (rs : List RangeDeletion) (t : ℕ) (ahead : List ℕ) (next : ℕ) (reached a b : List ℕ) → name_le a b ≡ true → IsOnWay rs t ahead next reached a → IsOnWay rs t ahead next reached b
way_goes_on rs t ahead next reached a b le w = record {
  inside = w.inside;
  seen = w.seen;
  come = λ i d c. come_later a b (get_or rs i d) le (w.come i d c);
  complete = λ i d lt seen. ⊎_elim inl (λ r. inr (⊎_elim inl (λ l. inr (left_later a b (get_or rs i d) le l)) r)) (w.complete i d lt seen);
  heap = w.heap;
}

pub way_comes : (rs : List RangeDeletion) (t : ℕ) (ahead : List ℕ) (next i : ℕ) (reached more name : List ℕ) → next < length ahead → i ≡ get_or ahead next i → AreSeen rs t ahead
    → ((d : RangeDeletion) → is_come_to name (get_or rs i d) ≡ true) → IsPermutation (i ∷ reached) more → IsHeap nat_cmp more → IsOnWay rs t ahead next reached name → IsOnWay rs t ahead (next + 1) more name
way_comes rs t ahead next i reached more name lt is seen come p heap w = record {
  inside = omega (arith, lt);
  seen = λ k c. ⊎_elim (λ e. subst (λ (n : ℕ). (n < length rs) × ((d : RangeDeletion) → nat_le (get_or rs n d).evt t ≡ true)) e (seen i (next, lt, sym is))) (w.seen k) (first_or_later i k reached (back k c));
  come = λ k d c. ⊎_elim (λ e. subst (λ (n : ℕ). is_come_to name (get_or rs n d) ≡ true) e (come d)) (w.come k d) (first_or_later i k reached (back k c));
  complete = λ k d inside now. ⊎_elim (ahead_or_here k d) (λ r. inr (⊎_elim (λ c. inl (Contains-permutation (i ∷ reached) more k p (has_later i k reached c))) inr r)) (w.complete k d inside now);
  heap = heap;
}
  where
    back : (k : ℕ) → Contains more k → Contains (i ∷ reached) k
    back k c = Contains-permutation more (i ∷ reached) k (IsPermutation-sym (i ∷ reached) more p) c

    own : (k : ℕ) → get_or ahead next k ≡ k → i ≡ k
    own k e = is ∙ any ahead next lt ∙ e
      where
        any : (xs : List ℕ) (n : ℕ) → n < length xs → get_or xs n i ≡ get_or xs n k
        any [] n l = absurd (omega (arith, l))
        any (x ∷ xs) zero l = refl
        any (x ∷ xs) (suc n) l = any xs n (omega (arith, l))

    ahead_or_here : (k : ℕ) (d : RangeDeletion) → IsAhead ahead next k → IsAhead ahead (next + 1) k ⊎ (Contains more k ⊎ (is_left name (get_or rs k d) ≡ true))
    ahead_or_here k d a =
        by_cases (nat_lt next a.0)
        (λ later. inl (a.0, grind (arith, nat_tests, later), a.2, a.3))
        (λ at.
        let e : a.0 ≡ next = let le = a.1 in grind (arith, nat_tests, at, le) in
        inr (inl (Contains-permutation (i ∷ reached) more k p (subst (Contains (i ∷ reached)) (own k (subst (λ (n : ℕ). get_or ahead n k ≡ k) e a.3)) (has_first i reached)))))

pub way_leaves : (rs : List RangeDeletion) (t : ℕ) (ahead : List ℕ) (next i : ℕ) (reached rest name : List ℕ) → IsPermutation reached (i ∷ rest) → ((d : RangeDeletion) → is_left name (get_or rs i d) ≡ true)
    → IsHeap nat_cmp rest → IsOnWay rs t ahead next reached name → IsOnWay rs t ahead next rest name
way_leaves rs t ahead next i reached rest name p left heap w = record {
  inside = w.inside;
  seen = λ k c. w.seen k (back k c);
  come = λ k d c. w.come k d (back k c);
  complete = λ k d inside now. ⊎_elim inl (λ r. inr (⊎_elim (λ c. ⊎_elim (λ e. inr (subst (λ (n : ℕ). is_left name (get_or rs n d) ≡ true) e (left d))) inl (first_or_later i k rest (Contains-permutation reached (i ∷ rest) k p c))) inr r)) (w.complete k d inside now);
  heap = heap;
}
  where
    back : (k : ℕ) → Contains rest k → Contains reached k
    back k c = Contains-permutation (i ∷ rest) reached k (IsPermutation-sym reached (i ∷ rest) p) (has_later i k rest c)

-- ---- what is found
over_from : (rs : List RangeDeletion) (i m : ℕ) (d : RangeDeletion) (name : List ℕ) (t : ℕ) → i + 1 + m ≤ length rs
    → ((k : ℕ) (d : RangeDeletion) → i < k → k < length rs → is_over name t (get_or rs k d) ≡ false)
    → over_of (reverse (take (i + 1 + m) rs)) name t ≡ over_of (reverse (take (i + 1) rs)) name t
over_from rs i zero d name t le none = ap (λ (n : ℕ). over_of (reverse (take n rs)) name t) (omega arith)
over_from rs i (suc m) d name t le none =
    ap (λ (n : ℕ). over_of (reverse (take n rs)) name t) (omega arith)
    ∙ over_below rs (i + 1 + m) (get_or rs (i + 1 + m) d) (get_or rs (i + 1 + m) d) (omega (arith, le)) (same rs (i + 1 + m) (omega (arith, le))) name t (none (i + 1 + m) d (omega arith) (omega (arith, le)))
    ∙ over_from rs i m d name t (omega (arith, le)) none
  where
    same : (xs : List RangeDeletion) (n : ℕ) → n < length xs → get_or xs n d ≡ get_or xs n (get_or xs n d)
    same [] n l = absurd (omega (arith, l))
    same (x ∷ xs) zero l = refl
    same (x ∷ xs) (suc n) l = same xs n (omega (arith, l))

not_over : (name : List ℕ) (t : ℕ) (x : RangeDeletion) → (is_come_to name x ≡ false) ⊎ (is_left name x ≡ true) → is_over name t x ≡ false
not_over name t x h = go (nat_le x.evt t) (is_come_to name x) (is_open x.finish || name_le name x.finish) h
  where
    go : (a b c : Bool) → (b ≡ false) ⊎ (not c ≡ true) → (a && (b && c)) ≡ false
    go false b c h = refl
    go true false c h = refl
    go true true false h = refl
    go true true true h = ⊎_elim (λ e. absurd (cc)) (λ e. absurd (cc)) h

over : (name : List ℕ) (t : ℕ) (x : RangeDeletion) → nat_le x.evt t ≡ true → is_come_to name x ≡ true → is_left name x ≡ false → is_over name t x ≡ true
over name t x seen come not_left = go (nat_le x.evt t) (is_come_to name x) (is_open x.finish || name_le name x.finish) seen come not_left
  where
    go : (a b c : Bool) → a ≡ true → b ≡ true → not c ≡ false → (a && (b && c)) ≡ true
    go true true true p q r = refl
    go true true false p q r = absurd (cc)
    go true false c p q r = absurd (cc)
    go false b c p q r = absurd (cc)

no_greater : (i k : ℕ) (xs : List ℕ) → IsUpperBound nat_cmp i xs → Contains xs k → k ≤ i
no_greater i k [] h c = absurd (nothing_in k c)
no_greater i k (x ∷ xs) h c = ⊎_elim (λ e. subst (λ (n : ℕ). n ≤ i) e (let le = h.0 in grind (arith, nat_tests, le))) (no_greater i k xs h.1) (first_or_later x k xs c)

-- one that is newer than all that were reached is not over the name
newer_not_over : (rs : List RangeDeletion) (t : ℕ) (ahead : List ℕ) (next : ℕ) (reached name : List ℕ) → IsOnWay rs t ahead next reached name → IsAtEnd rs ahead next name
    → (k : ℕ) (d : RangeDeletion) → k < length rs → (Contains reached k → ⊥) → is_over name t (get_or rs k d) ≡ false
newer_not_over rs t ahead next reached name w end k d lt none =
    by_cases (nat_le (get_or rs k d).evt t)
    (λ seen. ⊎_elim
    (λ a. not_over name t (get_or rs k d) (inl (subst (λ (n : ℕ). is_come_to name (get_or rs n d) ≡ false) a.3 (end a.0 k d a.1 a.2))))
    (λ r. ⊎_elim (λ c. absurd (none c)) (λ left. not_over name t (get_or rs k d) (inr left)) r)
    (w.complete k d lt seen))
    (λ unseen. rw unseen refl)

pub found_newest : (rs : List RangeDeletion) (t : ℕ) (ahead : List ℕ) (next : ℕ) (reached name : List ℕ) (i : ℕ) (x : RangeDeletion) → IsOnWay rs t ahead next reached name → IsAtEnd rs ahead next name
    → Contains reached i → x ≡ get_or rs i x → is_left name x ≡ false → IsUpperBound nat_cmp i reached → over_of (reverse rs) name t ≡ Some x
found_newest rs t ahead next reached name i x w end c is not_left top =
    let seen = w.seen i c in
    let come = w.come i x c in
    let m = length rs - (i + 1) in
    ap (λ (ys : List RangeDeletion). over_of (reverse ys) name t) (sym (take_all (i + 1 + m) rs (omega (arith, seen.0))))
    ∙ over_from rs i m x name t (omega (arith, seen.0)) (λ k d lt inside. newer_not_over rs t ahead next reached name w end k d inside (λ h. let le = no_greater i k reached top h in omega (arith, le, lt)))
    ∙ over_here rs i x x seen.0 is name t (over name t x (ap (λ (y : RangeDeletion). nat_le y.evt t) is ∙ seen.1 x) (ap (is_come_to name) is ∙ come) not_left)

over_none : (rs : List RangeDeletion) (n : ℕ) (name : List ℕ) (t : ℕ) → n ≤ length rs → ((k : ℕ) (d : RangeDeletion) → k < length rs → is_over name t (get_or rs k d) ≡ false) → over_of (reverse (take n rs)) name t ≡ None
over_none [] zero name t le none = refl
over_none [] (suc n) name t le none = refl
over_none (x ∷ xs) zero name t le none = refl
over_none (x ∷ xs) (suc n) name t le none =
    ap (λ (k : ℕ). over_of (reverse (take k (x ∷ xs))) name t) (sym (add-one n))
    ∙ over_below (x ∷ xs) n (get_or (x ∷ xs) n x) x (omega (arith, le)) (same (x ∷ xs) n (omega (arith, le))) name t (none n x (omega (arith, le)))
    ∙ over_none (x ∷ xs) n name t (omega (arith, le)) none
  where
    same : (ys : List RangeDeletion) (n : ℕ) → n < length ys → get_or ys n x ≡ get_or ys n (get_or ys n x)
    same [] n l = absurd (omega (arith, l))
    same (y ∷ ys) zero l = refl
    same (y ∷ ys) (suc n) l = same ys n (omega (arith, l))

pub found_none : (rs : List RangeDeletion) (t : ℕ) (ahead : List ℕ) (next : ℕ) (reached name : List ℕ) → IsOnWay rs t ahead next reached name → IsAtEnd rs ahead next name → reached ≡ [] → over_of (reverse rs) name t ≡ None
found_none rs t ahead next reached name w end none =
    ap (λ (ys : List RangeDeletion). over_of (reverse ys) name t) (sym (take_all (length rs) rs (omega arith)))
    ∙ over_none rs (length rs) name t (omega arith) (λ k d lt. newer_not_over rs t ahead next reached name w end k d lt (λ c. nothing_in k (subst (λ (ys : List ℕ). Contains ys k) none c)))

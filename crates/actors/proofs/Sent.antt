-- The envelopes to a node, by their numbers.
use Rattle.std.proofs.Common.{◌≡◌, ℕ, zero, suc, ◌+◌, ◌-◌, ◌<◌, ◌≤◌, ◌==◌, Bool, true, false, cond, List, [], ◌∷◌, ◌++◌, length, get_or, take, None, Some, Option, refl, ap, sym, subst, ◌∙◌, arith}
use Rattle.std.specs.Prelude.{◌≢◌}
use Rattle.std.specs.List.{slice_get}
use Rattle.std.proofs.lemmas.List.{take_all}
use Rattle.std.proofs.lemmas.List.Elements.{filter-append}
use Rattle.std.proofs.lemmas.Option.{slice_get_past, slice_get-get_or}
use Rattle.messages.specs.declared.envelope.Envelope.{Envelope}
use Rattle.actors.specs.Journals.{sends_to}
use Rattle.actors.specs.Seats.{LaneValue, through}
use Rattle.actors.specs.Ways.{has_way, IsFirstWay}
use Rattle.actors.proofs.Lists.{here, either_false}
use Rattle.actors.proofs.Sending.{test_true}

-- ## Lists one after the other

pub in_first : {X : Type 0} (xs ys : List X) (n : ℕ) (x : X) → slice_get xs n ≡ Some x → slice_get (xs ++ ys) n ≡ Some x
in_first [] ys n x at = absurd cc
in_first (z ∷ xs) ys zero x at = at
in_first (z ∷ xs) ys (suc n) x at = in_first xs ys n x at

pub in_second : {X : Type 0} (xs ys : List X) (n : ℕ) → slice_get (xs ++ ys) (length xs + n) ≡ slice_get ys n
in_second [] ys n = let none : 0 + n ≡ n = omega arith in ap (slice_get ys) none
in_second (z ∷ xs) ys n =
    let one : suc (length xs) + n ≡ suc (length xs + n) = omega arith in
    ap (slice_get (z ∷ (xs ++ ys))) one ∙ in_second xs ys n

-- ## Those to a node

pub at_place : (to : ℕ) (es : List Envelope) (k : ℕ) (e : Envelope) → slice_get es k ≡ Some e → (e.to == to) ≡ true
    → slice_get (sends_to to es) (length (sends_to to (take k es))) ≡ Some e
at_place to [] k e at is = absurd cc
at_place to (x ∷ es) zero e at is =
    let same : x ≡ e = cc in
    ap (λ b. slice_get (cond b (x ∷ sends_to to es) (sends_to to es)) 0) (ap (λ (y : Envelope). y.to == to) same ∙ is) ∙ ap Some same
at_place to (x ∷ es) (suc k) e at is = by (x.to == to) (at_place to es k e at is)
  where
    by : (b : Bool) → slice_get (sends_to to es) (length (sends_to to (take k es))) ≡ Some e
        → slice_get (cond b (x ∷ sends_to to es) (sends_to to es)) (length (cond b (x ∷ sends_to to (take k es)) (sends_to to (take k es)))) ≡ Some e
    by true rest = rest
    by false rest = rest

-- how much an envelope counts
abbrev count_if : Bool → ℕ
count_if true = 1
count_if false = 0

one_more : (to : ℕ) (es : List Envelope) (k : ℕ) (e : Envelope) → slice_get es k ≡ Some e
    → length (sends_to to (take (suc k) es)) ≡ length (sends_to to (take k es)) + count_if (e.to == to)
one_more to [] k e at = absurd cc
one_more to (x ∷ es) zero e at = let same : x ≡ e = cc in by (x.to == to) (e.to == to) (ap (λ (y : Envelope). y.to == to) same)
  where
    by : (b c : Bool) → b ≡ c → length (cond b (x ∷ []) []) ≡ 0 + count_if c
    by true true q = refl
    by false false q = refl
    by true false q = absurd cc
    by false true q = absurd cc
one_more to (x ∷ es) (suc k) e at = by (x.to == to) (one_more to es k e at)
  where
    by : (b : Bool) → length (sends_to to (take (suc k) es)) ≡ length (sends_to to (take k es)) + count_if (e.to == to)
        → length (cond b (x ∷ sends_to to (take (suc k) es)) (sends_to to (take (suc k) es)))
        ≡ length (cond b (x ∷ sends_to to (take k es)) (sends_to to (take k es))) + count_if (e.to == to)
    by true rest = omega (arith, rest)
    by false rest = rest

-- the number is above the envelopes to the node, among the first so many, by this
abbrev pub IsAbove : ℕ → List Envelope → ℕ → ℕ → ℕ → Type 0
IsAbove to es number place left = number ≡ length (sends_to to (take place es)) + left

pub found_to : (to : ℕ) (es : List Envelope) (number place left : ℕ) (d e : Envelope) → place < length es → ((get_or es place d).to == to) ≡ true → e ≡ get_or es place e
    → left ≡ 0 → IsAbove to es number place left → slice_get (sends_to to es) number ≡ Some e
found_to to es number place left d e lt ours is none above =
    let same : number ≡ length (sends_to to (take place es)) = omega (arith, above, none) in
    let both : Some (get_or es place d) ≡ Some e = sym (slice_get-get_or es place d lt) ∙ here es place e lt is in
    let it : get_or es place d ≡ e = cc in
    ap (slice_get (sends_to to es)) same ∙ at_place to es place e (here es place e lt is) (ap (λ (y : Envelope). y.to == to) (sym it) ∙ ours)

pub passed_to : (to : ℕ) (es : List Envelope) (number place left : ℕ) (d : Envelope) → place < length es → ((get_or es place d).to == to) ≡ true → (left ≢ 0)
    → IsAbove to es number place left → IsAbove to es number (place + 1) (left - 1)
passed_to to es number place left d lt ours some above =
    let more = one_more to es place (get_or es place d) (slice_get-get_or es place d lt) in
    let one : count_if ((get_or es place d).to == to) ≡ 1 = ap count_if ours in
    let next : place + 1 ≡ suc place = omega arith in
    let all : number ≡ length (sends_to to (take (suc place) es)) + (left - 1) = omega (arith, above, more, one, some) in
    subst (λ k. number ≡ length (sends_to to (take k es)) + (left - 1)) (sym next) all

pub skipped_to : (to : ℕ) (es : List Envelope) (number place left : ℕ) (d : Envelope) → place < length es → ((get_or es place d).to == to) ≡ false
    → IsAbove to es number place left → IsAbove to es number (place + 1) left
skipped_to to es number place left d lt other above =
    let more = one_more to es place (get_or es place d) (slice_get-get_or es place d lt) in
    let none : count_if ((get_or es place d).to == to) ≡ 0 = ap count_if other in
    let next : place + 1 ≡ suc place = omega arith in
    let all : number ≡ length (sends_to to (take (suc place) es)) + left = omega (arith, above, more, none) in
    subst (λ k. number ≡ length (sends_to to (take k es)) + left) (sym next) all

pub ended_to : (to : ℕ) (es : List Envelope) (number place left : ℕ) → place ≡ length es → IsAbove to es number place left → number ≡ length (sends_to to es) + left
ended_to to es number place left end above = above ∙ ap (λ l. length (sends_to to l) + left) (ap (λ n. take n es) end ∙ take_all (length es) es (omega arith))

-- ## Those of two lists

append_to : (to : ℕ) (xs ys : List Envelope) → sends_to to (xs ++ ys) ≡ sends_to to xs ++ sends_to to ys
append_to to xs ys = filter-append (λ (e : Envelope). e.to == to) xs ys

pub first_of_two : (to : ℕ) (xs ys : List Envelope) (number : ℕ) (e : Envelope) → slice_get (sends_to to xs) number ≡ Some e
    → slice_get (sends_to to (xs ++ ys)) number ≡ Some e
first_of_two to xs ys number e at = ap (λ l. slice_get l number) (append_to to xs ys) ∙ in_first (sends_to to xs) (sends_to to ys) number e at

pub second_of_two : (to : ℕ) (xs ys : List Envelope) (number more : ℕ) (o : Option Envelope) → number ≡ length (sends_to to xs) + more
    → slice_get (sends_to to ys) more ≡ o → slice_get (sends_to to (xs ++ ys)) number ≡ o
second_of_two to xs ys number more o is at =
    ap (λ l. slice_get l number) (append_to to xs ys) ∙ ap (slice_get (sends_to to xs ++ sends_to to ys)) is ∙ in_second (sends_to to xs) (sends_to to ys) more ∙ at

pub beyond : (to : ℕ) (ys : List Envelope) (more left : ℕ) → more ≡ length (sends_to to ys) + left → slice_get (sends_to to ys) more ≡ None
beyond to ys more left is = slice_get_past (sends_to to ys) more (omega (arith, is))

pub neither_of_two : (to : ℕ) (xs ys : List Envelope) (number more left : ℕ) → number ≡ length (sends_to to xs) + more → more ≡ length (sends_to to ys) + left
    → None ≡ slice_get (sends_to to (xs ++ ys)) number
neither_of_two to xs ys number more left first second = sym (second_of_two to xs ys number more None first (beyond to ys more left second))

-- ## By ways

pub through_first : (to : ℕ) (ls : List LaneValue) (place : ℕ) (l : LaneValue) → IsFirstWay to ls place → l ≡ get_or ls place l → through ls to ≡ l.sent ++ l.waiting
through_first to ls place l way is = let at = here ls place l way.within is in go ls place at (way.leads l at) way.first
  where
    go : (ls : List LaneValue) (k : ℕ) → slice_get ls k ≡ Some l → l.to ≡ to → has_way to (take k ls) ≡ false → through ls to ≡ l.sent ++ l.waiting
    go [] k at leads first = absurd cc
    go (x ∷ ls) zero at leads first =
        let same : x ≡ l = cc in
        ap (λ b. cond b (x.sent ++ x.waiting) (through ls to)) (ap (λ (y : LaneValue). y.to == to) same ∙ test_true l.to to leads)
        ∙ ap (λ (y : LaneValue). y.sent ++ y.waiting) same
    go (x ∷ ls) (suc k) at leads first =
        let p = either_false (x.to == to) (has_way to (take k ls)) first in
        ap (λ b. cond b (x.sent ++ x.waiting) (through ls to)) p.0 ∙ go ls k at leads p.1

pub through_none : (to : ℕ) (ls : List LaneValue) → has_way to ls ≡ false → through ls to ≡ []
through_none to [] none = refl
through_none to (x ∷ ls) none =
    let p = either_false (x.to == to) (has_way to ls) none in
    ap (λ b. cond b (x.sent ++ x.waiting) (through ls to)) p.0 ∙ through_none to ls p.1

-- the envelope of a number, by the way or after what went there
pub by_way : (gone rest : List Envelope) (number : ℕ) (e : Envelope) → number < length gone → e ≡ get_or gone number e → slice_get (gone ++ rest) number ≡ Some e
by_way gone rest number e lt is = in_first gone rest number e (here gone number e lt is)

pub not_by_way : (gone rest : List Envelope) (number : ℕ) (o : Option Envelope) → length gone ≤ number → slice_get rest (number - length gone) ≡ o
    → slice_get (gone ++ rest) number ≡ o
not_by_way gone rest number o le at =
    let same : number ≡ length gone + (number - length gone) = omega (arith, le) in
    ap (slice_get (gone ++ rest)) same ∙ in_second gone rest (number - length gone) ∙ at

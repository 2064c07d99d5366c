-- The messages of a link among all that was sent: their numbers, and the ranks that they have there.
use Rattle.std.proofs.Common.{◌≡◌, ◌∙◌, ℕ, zero, suc, ◌<◌, ◌≤◌, Bool, true, false, ◌&&◌, cond, List, [], ◌∷◌, ◌++◌, length, take, Some, refl, sym, ap, subst, arith, slice_get, eqb-true, eq-eqb}
use Rattle.std.specs.Prelude.{◌==◌, nat_lt, filter}
use Rattle.std.proofs.lemmas.Bool.Decides.{nat_tests}
use Rattle.std.proofs.lemmas.List.{length-append}
use Rattle.std.proofs.lemmas.List.Elements.{filter-append}
use Rattle.std.proofs.Math.Seq.{take-length}
use Rattle.std.proofs.lemmas.Option.{slice_get_within}
use Rattle.messages.specs.declared.envelope.Envelope.{Envelope}
use Rattle.actors.specs.Journals.{from_node, sends_to}

-- ## Elements that pass a test

module _ {X : Type 0} (p : X → Bool) where
  -- how many of the first so many elements pass it
  abbrev pub rank : List X → ℕ → ℕ
  rank xs k = length (filter p (take k xs))

  pub rank_less : (xs : List X) (k j : ℕ) (x : X) → k < j → slice_get xs k ≡ Some x → p x ≡ true → rank xs k < rank xs j
  rank_less [] k j x lt at is = absurd (cc)
  rank_less (y ∷ ys) k zero x lt at is = absurd (omega arith)
  rank_less (y ∷ ys) zero (suc j) x lt at is =
      let same : y ≡ x = cc in
      let passes : p y ≡ true = ap p same ∙ is in
      subst (λ b. 0 < length (cond b (y ∷ filter p (take j ys)) (filter p (take j ys)))) (sym passes) (omega arith)
  rank_less (y ∷ ys) (suc k) (suc j) x lt at is = by (p y) (rank_less ys k j x (omega arith) at is)
    where
      by : (b : Bool) → rank ys k < rank ys j
          → length (cond b (y ∷ filter p (take k ys)) (filter p (take k ys))) < length (cond b (y ∷ filter p (take j ys)) (filter p (take j ys)))
      by true less = omega arith
      by false less = less

  pub rank_below : (xs : List X) (k : ℕ) (x : X) → slice_get xs k ≡ Some x → p x ≡ true → rank xs k < length (filter p xs)
  rank_below xs k x at is =
      subst (λ l. rank xs k < length (filter p l)) (take-length xs) (rank_less xs k (length xs) x (slice_get_within xs k x at) at is)

  -- elements that pass have ranks of their own
  pub same_rank : (xs : List X) (k j : ℕ) (x y : X) → slice_get xs k ≡ Some x → p x ≡ true → slice_get xs j ≡ Some y → p y ≡ true → rank xs k ≡ rank xs j → k ≡ j
  same_rank xs k j x y at is there also same = by (nat_lt k j) (nat_lt j k) refl refl
    where
      by : (a b : Bool) → nat_lt k j ≡ a → nat_lt j k ≡ b → k ≡ j
      by true b q r =
          let lt : k < j = grind (arith, nat_tests) in
          let less = rank_less xs k j x lt at is in
          absurd (omega (arith, less, same))
      by false true q r =
          let lt : j < k = grind (arith, nat_tests) in
          let less = rank_less xs j k y lt there also in
          absurd (omega (arith, less, same))
      by false false q r = grind (arith, nat_tests)

  -- past a list the rank is at least that of its end
  pub rank_past : (xs ys : List X) (k : ℕ) → length xs ≤ k → length (filter p xs) ≤ rank (xs ++ ys) k
  rank_past [] ys k le = omega arith
  rank_past (x ∷ xs) ys zero le = absurd (omega arith)
  rank_past (x ∷ xs) ys (suc k) le = by (p x) (rank_past xs ys k (omega arith))
    where
      by : (b : Bool) → length (filter p xs) ≤ rank (xs ++ ys) k
          → length (cond b (x ∷ filter p xs) (filter p xs)) ≤ length (cond b (x ∷ filter p (take k (xs ++ ys))) (filter p (take k (xs ++ ys))))
      by true up = omega arith
      by false up = up

  -- there are no fewer in a longer list
  pub no_fewer : (xs ys : List X) → length (filter p xs) ≤ length (filter p (xs ++ ys))
  no_fewer xs ys = let len = ap (λ (l : List X). length l) (filter-append p xs ys) ∙ length-append (filter p xs) (filter p ys) in omega (arith, len)

  -- what passes at a rank stands at a number
  pub there_at : (xs : List X) (j : ℕ) (x : X) → slice_get (filter p xs) j ≡ Some x → (k : ℕ) × (slice_get xs k ≡ Some x) × (rank xs k ≡ j)
  there_at [] j x at = absurd (cc)
  there_at (y ∷ ys) j x at = by (p y) refl j at (λ i q. there_at ys i x q)
    where
      by : (b : Bool) → p y ≡ b → (j : ℕ) → slice_get (cond b (y ∷ filter p ys) (filter p ys)) j ≡ Some x
          → ((i : ℕ) → slice_get (filter p ys) i ≡ Some x → (k : ℕ) × (slice_get ys k ≡ Some x) × (rank ys k ≡ i))
          → (k : ℕ) × (slice_get (y ∷ ys) k ≡ Some x) × (rank (y ∷ ys) k ≡ j)
      by true q zero at rest = (zero, at, refl)
      by true q (suc i) at rest =
          let r = rest i at in (
            suc r.0,
            r.1,
            ap (λ b. length (cond b (y ∷ filter p (take r.0 ys)) (filter p (take r.0 ys)))) q ∙ ap suc r.2,
          )
      by false q i at rest =
          let r = rest i at in (
            suc r.0,
            r.1,
            ap (λ b. length (cond b (y ∷ filter p (take r.0 ys)) (filter p (take r.0 ys)))) q ∙ r.2,
          )

-- ## Links

-- whether the message goes from an actor to another
abbrev pub is_on : ℕ → ℕ → Envelope → Bool
is_on from to e = (e.from == from) && (e.to == to)

-- what was sent on a link, in order
abbrev pub on_link : ℕ → ℕ → List Envelope → List Envelope
on_link from to sent = filter (is_on from to) sent

filter_both : {X : Type 0} (p q : X → Bool) (xs : List X) → filter p (filter q xs) ≡ filter (λ x. q x && p x) xs
filter_both p q [] = refl
filter_both {X} p q (x ∷ xs) = by (q x) (filter_both p q xs)
  where
    by : (a : Bool) → filter p (filter q xs) ≡ filter (λ y. q y && p y) xs
        → filter p (cond a (x ∷ filter q xs) (filter q xs)) ≡ cond (a && p x) (x ∷ filter (λ y. q y && p y) xs) (filter (λ y. q y && p y) xs)
    by true rest = ap (λ l. cond (p x) (x ∷ l) l) rest
    by false rest = rest

-- what an actor sent to another
pub link_is : (from to : ℕ) (sent : List Envelope) → sends_to to (from_node from sent) ≡ on_link from to sent
link_is from to sent = filter_both (λ (e : Envelope). e.to == to) (λ (e : Envelope). e.from == from) sent

pub on_itself : (e : Envelope) → is_on e.from e.to e ≡ true
on_itself e = ap (λ b. b && (e.to == e.to)) (eq-eqb e.from e.from refl) ∙ eq-eqb e.to e.to refl

pub on_its_link : (from to : ℕ) (e : Envelope) → is_on from to e ≡ true → (e.from ≡ from) × (e.to ≡ to)
on_its_link from to e is = by (e.from == from) refl (e.to == to) refl is
  where
    by : (a : Bool) → (e.from == from) ≡ a → (b : Bool) → (e.to == to) ≡ b → (a && b) ≡ true → (e.from ≡ from) × (e.to ≡ to)
    by true q true r h = (eqb-true e.from from q, eqb-true e.to to r)
    by true q false r h = absurd (cc)
    by false q b r h = absurd (cc)

-- Parts of which no two have one stamp.
use Rattle.std.proofs.Common.{◌≡◌, ◌∙◌, sym, ap, subst, refl, ℕ, inl, inr, Bool, true, false, ◌||◌, nat_le, List, [], ◌∷◌, ◌++◌, Option, Some, None, option_map, arith}
use Rattle.std.specs.Prelude.{Contains}
use Rattle.std.specs.Ordering.{is_eq}
use Rattle.std.specs.List.{list_any}
use Rattle.std.proofs.lemmas.Bool.Decides.{nat_tests}
use Rattle.std.proofs.lemmas.List.Folds.{list_any-append}
use Rattle.logical_time.specs.Stamps.{StampValue, stamp_cmp, is_older}
use Rattle.column_family.specs.declared.batch.Change.{Change}
use Rattle.column_family.specs.declared.batch.Mutation.{Mutation}
use Rattle.column_family.specs.History.{Stamped, newer_of, newest_of, last_of, stamped}
use Rattle.column_family.specs.Normal.{IsNormal}
use Rattle.column_family.proofs.Options.{by_cases, neither}
use Rattle.store.specs.declared.part.Applied.{Applied}
use Rattle.store.specs.Part.{committed_of, history_of, applied_by}
use Rattle.store.specs.Keeps.{IsNewStamp, AreApart}
use Rattle.store.proofs.lists.Lists.{none_in_empty, first_or_rest, contains_first, contains_rest}
use Rattle.store.proofs.newest.Newer.{IsApartFrom, apart_newer, same_itself}

pub new_stamp : (s : StampValue) (applied : List Applied) (a : Applied) → IsNewStamp s applied → Contains applied a → is_eq (stamp_cmp s a.stamp) ≡ false
new_stamp s [] a new has = absurd (none_in_empty a has)
new_stamp s (x ∷ rest) a new has =
    let n = neither (is_eq (stamp_cmp s x.stamp)) (list_any (λ b. is_eq (stamp_cmp s b.stamp)) rest) new in
    elim (first_or_rest x a rest has) [
      | inl here ↦ ap (λ (b : Applied). is_eq (stamp_cmp s b.stamp)) (sym here) ∙ n.0
      | inr there ↦ new_stamp s rest a n.1 there
    ]

two_stamps : (s : StampValue) (applied : List Applied) (a : Applied) → IsNewStamp s applied → Contains applied a → s ≡ a.stamp → ⊥
two_stamps s applied a new has e =
    let apart = new_stamp s applied a new has in
    let same : is_eq (stamp_cmp s a.stamp) ≡ true = ap (λ (t : StampValue). is_eq (stamp_cmp s t)) (sym e) ∙ same_itself s in
    cc

-- a stamp names one part
pub one_part : (applied : List Applied) → AreApart applied → (a b : Applied) → Contains applied a → Contains applied b → a.stamp ≡ b.stamp → a ≡ b
one_part [] apart a b has also e = absurd (none_in_empty a has)
one_part (x ∷ rest) apart a b has also e = elim (first_or_rest x a rest has) [
  | inl here ↦ elim (first_or_rest x b rest also) [
    | inl same ↦ sym here ∙ same
    | inr there ↦ absurd (two_stamps x.stamp rest b apart.1 there (ap (λ (c : Applied). c.stamp) here ∙ e))
  ]
  | inr far ↦ elim (first_or_rest x b rest also) [
    | inl same ↦ absurd (two_stamps x.stamp rest a apart.1 far (ap (λ (c : Applied). c.stamp) same ∙ sym e))
    | inr there ↦ one_part rest apart.2 a b far there e
  ]
]

new_by : (t : ℕ) (s : StampValue) (applied : List Applied) → IsNewStamp s applied → IsNewStamp s (applied_by t applied)
new_by t s [] new = refl
new_by t s (x ∷ rest) new =
    let n = neither (is_eq (stamp_cmp s x.stamp)) (list_any (λ b. is_eq (stamp_cmp s b.stamp)) rest) new in
    by_cases (nat_le x.commit t)
    (λ y. rw y (ap (λ (b : Bool). b || list_any (λ a. is_eq (stamp_cmp s a.stamp)) (applied_by t rest)) n.0 ∙ new_by t s rest n.1))
    (λ f. rw f (new_by t s rest n.1))

pub apart_by : (t : ℕ) (applied : List Applied) → AreApart applied → AreApart (applied_by t applied)
apart_by t [] apart = tt
apart_by t (x ∷ rest) apart =
    by_cases (nat_le x.commit t)
    (λ y. rw y (apart.0, new_by t x.stamp rest apart.1, apart_by t rest apart.2))
    (λ f. rw f (apart_by t rest apart.2))

apart_back : (s t : StampValue) → is_eq (stamp_cmp s t) ≡ false → is_eq (stamp_cmp t s) ≡ false
apart_back s t h = grind (arith, nat_tests)

pub apart_more : (all : List Applied) (a : Applied) → IsNormal a.part.batch → IsNewStamp a.stamp all → AreApart all → AreApart (all ++ a ∷ [])
apart_more [] a normal new apart = (normal, refl, tt)
apart_more (x ∷ rest) a normal new apart =
    let n = neither (is_eq (stamp_cmp a.stamp x.stamp)) (list_any (λ b. is_eq (stamp_cmp a.stamp b.stamp)) rest) new in
    let last : is_eq (stamp_cmp x.stamp a.stamp) ≡ false = apart_back a.stamp x.stamp n.0 in (
      apart.0,
      list_any-append (λ (b : Applied). is_eq (stamp_cmp x.stamp b.stamp)) rest (a ∷ [])
          ∙ ap (λ (b : Bool). b || (is_eq (stamp_cmp x.stamp a.stamp) || false)) apart.1
          ∙ ap (λ (b : Bool). b || false) last,
      apart_more rest a normal n.1 apart.2,
    )

apart_stamped : (s : StampValue) (a : Applied) (o : Option Mutation) → is_eq (stamp_cmp s a.stamp) ≡ false → IsApartFrom s (option_map (stamped (committed_of a)) o)
apart_stamped s a None h = tt
apart_stamped s a (Some m) h = h

-- the newest mutation has another stamp than one that no part has
pub apart_newest : (s : StampValue) (q : Change → Bool) (applied : List Applied) → IsNewStamp s applied → IsApartFrom s (newest_of q (history_of applied))
apart_newest s q [] new = tt
apart_newest s q (x ∷ rest) new =
    let n = neither (is_eq (stamp_cmp s x.stamp)) (list_any (λ b. is_eq (stamp_cmp s b.stamp)) rest) new in
    apart_newer s (option_map (stamped (committed_of x)) (last_of q x.part.batch)) (newest_of q (history_of rest))
    (apart_stamped s x (last_of q x.part.batch) n.0) (apart_newest s q rest n.1)

-- the newest mutation comes from one of the parts
pub newest_from : (q : Change → Bool) (applied : List Applied) (y : Stamped) → newest_of q (history_of applied) ≡ Some y → (a : Applied) × Contains applied a × (a.stamp ≡ y.stamp)
newest_from q [] y e = absurd (cc)
newest_from q (x ∷ rest) y e = go (last_of q x.part.batch) (newest_of q (history_of rest)) (newest_from q rest y) e
  where
    later : (a : Applied) × Contains rest a × (a.stamp ≡ y.stamp) → (a : Applied) × Contains (x ∷ rest) a × (a.stamp ≡ y.stamp)
    later (a, has, is) = (a, contains_rest x a rest has, is)

    here : (m : Mutation) → Some (stamped (committed_of x) m) ≡ Some y → (a : Applied) × Contains (x ∷ rest) a × (a.stamp ≡ y.stamp)
    here m f = let same : stamped (committed_of x) m ≡ y = cc in (x, contains_first x rest, ap (λ (z : Stamped). z.stamp) same)

    go : (o : Option Mutation) (n : Option Stamped) → (n ≡ Some y → (a : Applied) × Contains rest a × (a.stamp ≡ y.stamp))
        → newer_of (option_map (stamped (committed_of x)) o) n ≡ Some y → (a : Applied) × Contains (x ∷ rest) a × (a.stamp ≡ y.stamp)
    go None n more f = later (more f)
    go (Some m) None more f = here m f
    go (Some m) (Some z) more f =
        by_cases (is_older x.stamp z.stamp)
        (λ lt. later (more (rw lt at f)))
        (λ ge. here m (rw ge at f))

-- each part is in normal form
pub normal_part : (applied : List Applied) → AreApart applied → (a : Applied) → Contains applied a → IsNormal a.part.batch
normal_part [] apart a has = absurd (none_in_empty a has)
normal_part (x ∷ rest) apart a has = elim (first_or_rest x a rest has) [
  | inl here ↦ subst (λ (b : Applied). IsNormal b.part.batch) here apart.0
  | inr there ↦ normal_part rest apart.2 a there
]

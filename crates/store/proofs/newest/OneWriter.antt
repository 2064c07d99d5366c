-- Where all writers that a read rests on are one.
use Rattle.std.proofs.Common.{◌≡◌, ◌∙◌, sym, subst, Bool, true, false, ◌&&◌, List, [], ◌∷◌, ◌++◌, filter_map, Option, Some, None, option_map, inl, inr}
use Rattle.std.specs.Prelude.{◌↔◌, Contains, IfSome, option_to_list}
use Rattle.std.specs.List.{list_all}
use Rattle.std.specs.List.Sorted.{IsStrictlySortedBy}
use Rattle.std.proofs.lemmas.List.Elements.{Contains-append_cases}
use Rattle.logical_time.specs.Stamps.{WriterValue, writer_cmp}
use Rattle.logical_time.proofs.WriterOrder.{same}
use Rattle.versions.specs.declared.version.Version.{Version}
use Rattle.store.specs.Sight.{has_no_other}
use Rattle.store.proofs.lists.Lists.{contains_first, first_or_rest, given_only, none_in_empty}

both : (a b : Bool) → (a && b) ≡ true → (a ≡ true) × (b ≡ true)
both true true e = (e, e)
both true false e = absurd (cc)
both false b e = absurd (cc)

of_all : {X : Type 0} (q : X → Bool) (xs : List X) (x : X) → list_all q xs ≡ true → Contains xs x → q x ≡ true
of_all q [] x all has = absurd (none_in_empty x has)
of_all q (z ∷ xs) x all has = let parts = both (q z) (list_all q xs) all in elim (first_or_rest z x xs has) [
  | inl here ↦ subst (λ y. q y ≡ true) here parts.0
  | inr there ↦ of_all q xs x parts.1 there
]

this_one : (w v : WriterValue) (o : Option WriterValue) → has_no_other w o ≡ true → o ≡ Some v → v ≡ w
this_one w v None alone e = absurd (cc)
this_one w v (Some u) alone e = let is : u ≡ v = cc in sym is ∙ same u w alone

-- each writer of these is this one, where none has another
only_this : {X : Type 0} (f : X → Option WriterValue) (w : WriterValue) (xs : List X) → list_all (λ x. has_no_other w (f x)) xs ≡ true
    → (v : WriterValue) → Contains (filter_map f xs) v → v ≡ w
only_this f w xs all v has =
    let given = given_only f xs v has in
    this_one w v (f given.0) (of_all (λ x. has_no_other w (f x)) xs given.0 all given.1) given.2

-- of a deletion too
of_deletion : (w v : WriterValue) (d : Option Version) → IfSome d (λ (x : Version). w ≡ x.what.writer) → Contains (option_to_list (option_map (λ (x : Version). x.what.writer) d)) v → v ≡ w
of_deletion w v None is has = absurd (none_in_empty v has)
of_deletion w v (Some x) is has = elim (first_or_rest x.what.writer v [] has) [
  | inl here ↦ sym here ∙ sym is
  | inr there ↦ absurd (none_in_empty v there)
]

-- the writers are this one alone
pub one_writer : {X : Type 0} (f : X → Option WriterValue) (d : Option Version) (w : WriterValue) (xs : List X)
    → Contains (filter_map f xs ++ option_to_list (option_map (λ (x : Version). x.what.writer) d)) w
    → IfSome d (λ (x : Version). w ≡ x.what.writer) → list_all (λ x. has_no_other w (f x)) xs ≡ true
    → (v : WriterValue) → Contains (w ∷ []) v ↔ Contains (filter_map f xs ++ option_to_list (option_map (λ (x : Version). x.what.writer) d)) v
one_writer f d w xs rests is all v = (λ has. there has, λ has. here has)
  where
    writers : List WriterValue
    writers = filter_map f xs ++ option_to_list (option_map (λ (x : Version). x.what.writer) d)

    there : Contains (w ∷ []) v → Contains writers v
    there has = elim (first_or_rest w v [] has) [
      | inl same ↦ subst (Contains writers) same rests
      | inr none ↦ absurd (none_in_empty v none)
    ]

    here : Contains writers v → Contains (w ∷ []) v
    here has =
        let same : v ≡ w = elim (Contains-append_cases (filter_map f xs) (option_to_list (option_map (λ (x : Version). x.what.writer) d)) v has) [
          | inl column ↦ only_this f w xs all v column
          | inr deletion ↦ of_deletion w v d is deletion
        ] in
        subst (Contains (w ∷ [])) (sym same) (contains_first w [])

-- one alone is in order
pub alone_in_order : (w : WriterValue) → IsStrictlySortedBy writer_cmp (w ∷ [])
unfolding IsStrictlySortedBy
alone_in_order w = (tt, tt)

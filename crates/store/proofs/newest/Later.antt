-- What is right at a time stays right when later parts are applied.
use Rattle.std.proofs.Common.{◌≡◌, ◌∙◌, sym, ap, subst, refl, ℕ, ◌<◌, false, nat_le, List, [], ◌∷◌, ◌++◌, arith, append-nil}
use Rattle.std.specs.Prelude.{All}
use Rattle.std.specs.List.{AllByRecursion}
use Rattle.std.proofs.lemmas.Bool.Decides.{nat_tests}
use Rattle.std.proofs.lemmas.List.Elements.{filter-append, recursion_from_All}
use Rattle.column_family.specs.declared.batch.Row.{Row}
use Rattle.slice.specs.declared.predicate.Predicate.{Predicate}
use Rattle.store.specs.declared.part.Applied.{Applied}
use Rattle.store.specs.declared.part.Part.{Part}
use Rattle.store.specs.Part.{applied_by, IsPartOf, IsRightPart}

not_by : (n t : ℕ) → t < n → nat_le n t ≡ false
not_by n t lt = grind (arith, nat_tests)

none_by : (t : ℕ) (later : List Applied) → AllByRecursion (λ a. t < a.commit) later → applied_by t later ≡ []
none_by t [] h = refl
none_by t (a ∷ later) h = rw (not_by a.commit t h.0) (none_by t later h.1)

pub applied_by_later : (t : ℕ) (all later : List Applied) → All (λ a. t < a.commit) later → applied_by t (all ++ later) ≡ applied_by t all
applied_by_later t all later h =
    filter-append (λ (a : Applied). nat_le a.commit t) all later
    ∙ ap (λ (xs : List Applied). applied_by t all ++ xs) (none_by t later (recursion_from_All (λ (a : Applied). t < a.commit) later h))
    ∙ append-nil (applied_by t all)

pub right_lasts : (all later : List Applied) (r : Row) (p : Predicate) (t : ℕ) (part : Part) → All (λ a. t < a.commit) later → IsRightPart all r p t part → IsRightPart (all ++ later) r p t part
right_lasts all later r p t part h right =
    subst (λ (applied : List Applied). IsPartOf applied r p part) (sym (applied_by_later t all later h)) right

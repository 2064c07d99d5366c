-- Writers gathered from what a read came to.
use Rattle.std.proofs.Common.{◌≡◌, ◌∙◌, ap, subst, refl, Bool, true, false, not, ◌&&◌, List, [], ◌∷◌, ◌++◌, filter, filter_map, Option, Some, None, inl, inr}
use Rattle.std.specs.Prelude.{Contains, if◌then◌else◌}
use Rattle.std.specs.List.{cons_option}
use Rattle.std.proofs.lemmas.List.Elements.{Contains-append_cases, Contains-append_left}
use Rattle.logical_time.specs.Stamps.{WriterValue}
use Rattle.slice.specs.declared.column.Column.{Column}
use Rattle.slice.specs.declared.predicate.Predicate.{Predicate}
use Rattle.slice.specs.Rests.{is_within}
use Rattle.versions.specs.declared.version.Version.{Version}
use Rattle.store.specs.declared.sight.Seen.{Seen}
use Rattle.store.specs.Sight.{HaveSameWriters, named, is_covered, uncovered_writer, writer_of}
use Rattle.store.proofs.lists.Lists.{contains_first, contains_rest, first_or_rest, none_in_empty}

pub at_end : {X : Type 0} (xs : List X) (x : X) → Contains (xs ++ x ∷ []) x
at_end [] x = contains_first x []
at_end (z ∷ xs) x = contains_rest z x (xs ++ x ∷ []) (at_end xs x)

last_or_before : {X : Type 0} (xs : List X) (z x : X) (Q : Type 0) → (Contains xs x → Q) → (z ≡ x → Q) → Contains (xs ++ z ∷ []) x → Q
last_or_before xs z x Q before last has = elim (Contains-append_cases xs (z ∷ []) x has) [
  | inl there ↦ before there
  | inr end ↦ (elim (first_or_rest z x [] end) [
    | inl here ↦ last here
    | inr none ↦ absurd (none_in_empty x none)
  ])
]

pub all_there : (xs : List WriterValue) → HaveSameWriters xs xs
all_there xs = λ v. (λ has. has, λ has. has)

-- one writer more
pub one_added : (xs ys : List WriterValue) (w : WriterValue) → HaveSameWriters xs ys → HaveSameWriters (xs ++ w ∷ []) (ys ++ w ∷ [])
one_added xs ys w same = λ v. (more xs ys (λ has. (same v).0 has), more ys xs (λ has. (same v).1 has))
  where
    more : {v : WriterValue} (vs us : List WriterValue) → (Contains vs v → Contains us v) → Contains (vs ++ w ∷ []) v → Contains (us ++ w ∷ []) v
    more {v} vs us moves has = last_or_before vs w v (Contains (us ++ w ∷ []) v) (λ before. Contains-append_left us (w ∷ []) v (moves before)) (λ last. subst (Contains (us ++ w ∷ [])) last (at_end us w)) has

pub then_same : (xs ys zs : List WriterValue) → HaveSameWriters xs ys → HaveSameWriters ys zs → HaveSameWriters xs zs
then_same xs ys zs one two = λ v. (λ has. (two v).0 ((one v).0 has), λ has. (one v).1 ((two v).1 has))

-- of one that is kept what is given of it, and of no other
pub given_next : {X Y : Type 0} (f : X → Option Y) (x : X) (xs : List X) (rest : List Y) (b : Bool) → filter_map f xs ≡ rest
    → filter_map f (if b then x ∷ xs else xs) ≡ cons_option (if b then f x else None) rest
given_next f x xs rest true e = ap (cons_option (f x)) e
given_next f x xs rest false e = e

pub within_only : (within covered : Bool) (w : WriterValue)
    → (if within then (if covered then None else Some w) else None) ≡ (if within && not covered then Some w else None)
within_only true true w = refl
within_only true false w = refl
within_only false covered w = refl

-- the writers of those to which a read came are those on which it rests
pub came_to_writers : (p : Predicate) (columns : List Column) (d : Option Version) (items : List Seen)
    → filter_map (λ s. uncovered_writer d (named s)) (filter (λ s. is_within p columns s.name.now) items) ≡ filter_map (λ s. writer_of p columns d (named s)) items
came_to_writers p columns d [] = refl
came_to_writers p columns d (s ∷ items) =
    given_next (λ (x : Seen). uncovered_writer d (named x)) s (filter (λ x. is_within p columns x.name.now) items) (filter_map (λ x. writer_of p columns d (named x)) items)
    (is_within p columns s.name.now) (came_to_writers p columns d items)
    ∙ ap (λ o. cons_option o (filter_map (λ x. writer_of p columns d (named x)) items))
    (within_only (is_within p columns s.name.now) (is_covered d s.version.now) s.version.now.what.writer)

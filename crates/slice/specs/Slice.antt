-- The slice of a row's live columns, and which predicates may be asked.
use Rattle.std.specs.Prelude.{◌≡◌, ⊤, ℕ, Bool, true, ◌&&◌, ◌||◌, nat_lt, if◌then◌else◌, List, [], ◌∷◌, length, filter, take, reverse, Option, Some, None}
use Rattle.std.specs.List.{list_all, list_any}
use Rattle.std.specs.Str.{bytes_eq}
use Rattle.logical_time.specs.declared.fault.Fault.{Fault}
use Rattle.logical_time.specs.declared.fault.Fault.TheVariants.{NameLength, TooMany, RangeOrder}
use Rattle.column_family.specs.Limits.{is_name, is_end}
pub use Rattle.column_family.specs.Names.{name_le, is_open, is_between}
use Rattle.slice.specs.declared.column.Column.{Column}
use Rattle.slice.specs.declared.predicate.Predicate.{Predicate}
use Rattle.slice.specs.declared.predicate.Predicate.TheVariants.{Names, Range}

-- a walk goes upwards from start to finish or, reversed, downwards from start to finish
abbrev pub is_in_walk : List ℕ → List ℕ → Bool → List ℕ → Bool
is_in_walk start finish reversed name = if reversed then is_between finish start name else is_between start finish name

-- things in name order, as a walk comes past them
abbrev pub walked : {X : Type 0} → Bool → List X → List X
walked reversed xs = if reversed then reverse xs else xs

-- whether the predicate speaks of the column of this name, whatever its count is
abbrev pub is_asked : Predicate → List ℕ → Bool
is_asked (Names names) name = list_any (λ n. bytes_eq n name) names
is_asked (Range start finish reversed count) name = is_in_walk start finish reversed name

-- The slice of a row's live columns, which are given in name order: those with a listed name, or, of those
-- in a walk, the first `count` (Cassandra's slice predicate).
abbrev pub slice_of : Predicate → List Column → List Column
slice_of (Names names) live = filter (λ c. is_asked (Names names) c.name) live
slice_of (Range start finish reversed count) live =
    take count (walked reversed (filter (λ c. is_asked (Range start finish reversed count) c.name) live))

-- the predicate speaks of each of these columns
abbrev pub AreAsked : Predicate → List Column → Type 0
AreAsked p [] = ⊤
AreAsked p (c ∷ cs) = (is_asked p c.name ≡ true) × AreAsked p cs

-- of things in name order that are all asked for, those that a walk comes past first; a list of names takes all
abbrev pub first_of_walk : {X : Type 0} → Predicate → List X → List X
first_of_walk (Names names) xs = xs
first_of_walk (Range start finish reversed count) xs = take count (walked reversed xs)

-- why a list of names is refused, if it is
abbrev pub names_fault : List (List ℕ) → Option Fault
names_fault names =
    if nat_lt 4096 (length names) then Some TooMany
    else (if list_all is_name names then None else Some NameLength)

-- why a walk is refused, if it is: neither end being open, its start lies after its finish
abbrev pub range_fault : List ℕ → List ℕ → Bool → Option Fault
range_fault start finish reversed =
    if is_end start && is_end finish
    then (if is_open start || is_open finish || (if reversed then name_le finish start else name_le start finish) then None else Some RangeOrder)
    else Some NameLength

-- why a predicate is refused, if it is
abbrev pub predicate_fault : Predicate → Option Fault
predicate_fault (Names names) = names_fault names
predicate_fault (Range start finish reversed count) = range_fault start finish reversed

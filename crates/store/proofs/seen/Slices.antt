-- A slice shows no other columns than those that are asked.
use Rattle.std.proofs.Common.{◌≡◌, ◌∙◌, sym, ap, refl, ℕ, Bool, true, false, List, [], ◌∷◌, Option, Some, None, take, if◌then◌else◌}
use Rattle.std.specs.Prelude.{filter, filter_map, is_some, option_map}
use Rattle.std.specs.List.{cons_option}
use Rattle.std.specs.List.Sorted.{IsStrictlySortedBy}
use Rattle.column_family.specs.declared.batch.Row.{Row}
use Rattle.column_family.specs.History.{History, newest, value_of}
use Rattle.column_family.proofs.Options.{by_cases}
use Rattle.slice.specs.declared.column.Column.{Column}
use Rattle.slice.specs.declared.predicate.Predicate.{Predicate}
use Rattle.slice.specs.declared.predicate.Predicate.TheVariants.{Names, Range}
use Rattle.slice.specs.Slice.{is_asked, walked, slice_of}
use Rattle.slice.specs.Live.{live_column}
use Rattle.slice.proofs.Asked.{is_among, KeepsNames, given_alike}
use Rattle.slice.proofs.LiveTable.{at}
use Rattle.store.specs.Stored.{name_cmp}

-- the column that is given of a name, where the name is asked
abbrev pub asked_of : Predicate → (List ℕ → Option Column) → List ℕ → Option Column
asked_of p f n = if is_asked p n then f n else None

slice_by_asked : (p : Predicate) (xs ys : List Column) → filter (λ c. is_asked p c.name) xs ≡ filter (λ c. is_asked p c.name) ys → slice_of p xs ≡ slice_of p ys
slice_by_asked (Names names) xs ys e = e
slice_by_asked (Range start finish reversed count) xs ys e = ap (λ (cs : List Column). take count (walked reversed cs)) e

asked_first : (p : Predicate) (n : List ℕ) (o : Option Column) (rest others : List Column) → ((c : Column) → o ≡ Some c → c.name ≡ n)
    → filter (λ c. is_asked p c.name) rest ≡ others → filter (λ c. is_asked p c.name) (cons_option o rest) ≡ cons_option (if is_asked p n then o else None) others
asked_first p n None rest others keeps e = by_cases (is_asked p n) (λ y. rw y e) (λ f. rw f e)
asked_first p n (Some c) rest others keeps e =
    by_cases (is_asked p n)
    (λ y. let z : is_asked p c.name ≡ true = ap (is_asked p) (keeps c refl) ∙ y in rw (y, z) (ap (λ (cs : List Column). c ∷ cs) e))
    (λ f. let z : is_asked p c.name ≡ false = ap (is_asked p) (keeps c refl) ∙ f in rw (f, z) e)

asked_given : (p : Predicate) (f : List ℕ → Option Column) → KeepsNames f → (ns : List (List ℕ)) → filter (λ c. is_asked p c.name) (filter_map f ns) ≡ filter_map (asked_of p f) ns
asked_given p f keeps [] = refl
asked_given p f keeps (n ∷ ns) = asked_first p n (f n) (filter_map f ns) (filter_map (asked_of p f) ns) (keeps n) (asked_given p f keeps ns)

gives_alike : (f g : List ℕ → Option Column) → ((n : List ℕ) → f n ≡ g n) → (ns : List (List ℕ)) → filter_map f ns ≡ filter_map g ns
gives_alike f g e [] = refl
gives_alike f g e (n ∷ ns) = ap (λ (o : Option Column). cons_option o (filter_map f ns)) (e n) ∙ ap (cons_option (g n)) (gives_alike f g e ns)

asked_alike : (p : Predicate) (f g : List ℕ → Option Column) → ((n : List ℕ) → is_asked p n ≡ true → f n ≡ g n) → (n : List ℕ) → asked_of p f n ≡ asked_of p g n
asked_alike p f g e n = by_cases (is_asked p n) (λ y. rw y (e n y)) (λ x. rw x refl)

-- Two functions that give the same of each name that is asked have the same slice, over any names in order among
-- which are all of which they give an asked column.
pub slice_alike : (p : Predicate) (f g : List ℕ → Option Column) → KeepsNames f → KeepsNames g
    → (ns ms : List (List ℕ)) → IsStrictlySortedBy name_cmp ns → IsStrictlySortedBy name_cmp ms
    → ((n : List ℕ) → is_asked p n ≡ true → f n ≡ g n)
    → ((n : List ℕ) → is_some (asked_of p f n) ≡ true → is_among n ns ≡ true)
    → ((n : List ℕ) → is_some (asked_of p g n) ≡ true → is_among n ms ≡ true)
    → slice_of p (filter_map f ns) ≡ slice_of p (filter_map g ms)
slice_alike p f g keeps keeps' ns ms s t e i j =
    let alike = asked_alike p f g e in
    slice_by_asked p (filter_map f ns) (filter_map g ms)
    (asked_given p f keeps ns
    ∙ given_alike (asked_of p f) ns ms s t i (λ n h. j n (ap is_some (sym (alike n)) ∙ h))
    ∙ gives_alike (asked_of p f) (asked_of p g) alike ms
    ∙ sym (asked_given p g keeps' ms))

-- what is given of an asked name
pub asked_some : (p : Predicate) (f : List ℕ → Option Column) (n : List ℕ) → is_some (asked_of p f n) ≡ true → (is_asked p n ≡ true) × (is_some (f n) ≡ true)
asked_some p f n h = go (is_asked p n) refl h
  where
    go : (b : Bool) → is_asked p n ≡ b → is_some (if b then f n else None) ≡ true → (is_asked p n ≡ true) × (is_some (f n) ≡ true)
    go true e k = (e, k)
    go false e k = absurd (cc)

named_column : (n : List ℕ) (o : Option (List ℕ)) (c : Column) → option_map (λ v. record { name = n; value = v }) o ≡ Some c → c.name ≡ n
named_column n None c e = absurd (cc)
named_column n (Some v) c e = let same : record { name = n; value = v } ≡ c = cc in sym (ap (λ (d : Column). d.name) same)

pub live_keeps_names : (h : History) (r : Row) → KeepsNames (live_column h r)
live_keeps_names h r n c e = named_column n (value_of (newest h (at r n))) c e

-- A part put together from the columns that are seen.
use Rattle.std.proofs.Common.{◌≡◌, ◌∙◌, ap, sym, subst, ℕ, suc, ◌≤◌, arith, length, max, Bool, true, false, List, [], ◌∷◌, ◌++◌, map, filter_map, Option, Some, None, option_map, Contains, Result, Ok, Err, IfOk}
use Rattle.std.specs.Prelude.{if◌then◌else◌, option_to_list, ◌↔◌}
use Rattle.std.specs.List.{cons_option}
use Rattle.std.specs.List.Sorted.{IsStrictlySortedBy}
use Rattle.logical_time.specs.Stamps.{WriterValue, writer_cmp}
use Rattle.slice.specs.declared.column.Column.{Column}
use Rattle.slice.specs.declared.predicate.Predicate.{Predicate}
use Rattle.slice.specs.Slice.{is_asked, AreAsked, slice_of}
use Rattle.versions.specs.declared.version.Version.{Version}
use Rattle.column_family.specs.declared.batch.Row.{Row}
use Rattle.store.specs.declared.part.Applied.{Applied}
use Rattle.store.specs.declared.part.Part.{Part}
use Rattle.store.specs.declared.sight.Seen.{Seen}
use Rattle.store.specs.Stored.{name_cmp}
use Rattle.store.specs.Part.{greatest_of, IsPartOf}
use Rattle.store.specs.Sight.{Sight, NamedVersion, named, AreSeen, AreAskedFor, is_covered, live_of, evt_or_0, writer_of, writers_of, IsMadeOf, IsPartSeen}
use Rattle.store.proofs.lists.Lists.{contains_first, contains_rest, given_seen, map_of_map}

asked_value : (p : Predicate) (covered : Bool) (n : List ℕ) (value : Option (List ℕ)) (rest : List Column) → is_asked p n ≡ true → AreAsked p rest
    → AreAsked p (cons_option (if covered then None else option_map (λ v. record { name = n; value = v }) value) rest)
asked_value p true n value rest asked h = h
asked_value p false n None rest asked h = h
asked_value p false n (Some v) rest asked h = (asked, h)

-- the live columns of those that are asked for are asked for
pub live_asked : (p : Predicate) (d : Option Version) (seen : List NamedVersion) → AreAskedFor p seen → AreAsked p (filter_map (live_of d) seen)
live_asked p d [] asked = tt
live_asked p d (s ∷ seen) asked =
    asked_value p (is_covered d s.1) s.0 s.1.what.value (filter_map (live_of d) seen) (asked s.0 s.1 (contains_first s seen))
    (live_asked p d seen (λ n v has. asked n v (contains_rest s (n, v) seen has)))

pub part_made : (p : Predicate) (part : Part) (items : List Seen) (d : Option Version) (live : List Column) (found : List WriterValue)
    → AreAskedFor p (map named items) → live ≡ filter_map (λ s. live_of d (named s)) items
    → (AreAsked p live → part.columns ≡ slice_of p live)
    → found ≡ filter_map (λ s. writer_of p part.columns d (named s)) items ++ option_to_list (option_map (λ v. v.what.writer) d)
    → ((w : WriterValue) → Contains part.writers w ↔ Contains found w)
    → IsStrictlySortedBy writer_cmp part.writers → part.evt ≡ max (evt_or_0 d) (greatest_of (map (λ s. s.version.now.evt) items)) → IsMadeOf d (map named items) p part
part_made p part items d live found asks lives cut writes same in_order evt =
    let seen = map named items in
    let columns : live ≡ filter_map (live_of d) seen = lives ∙ sym (given_seen (live_of d) named items) in
    let asked = subst (AreAsked p) (sym columns) (live_asked p d seen asks) in
    let writers : found ≡ writers_of p part.columns d seen =
    writes ∙ ap (λ ws. ws ++ option_to_list (option_map (λ (v : Version). v.what.writer) d)) (sym (given_seen (writer_of p part.columns d) named items)) in
    record {
      columns = cut asked ∙ ap (slice_of p) columns;
      writers = λ w. (
        λ has. subst (λ ws. Contains ws w) writers ((same w).0 has),
        λ has. (same w).1 (subst (λ ws. Contains ws w) (sym writers) has),
      );
      in_order = in_order;
      evt = evt ∙ ap (λ ts. max (evt_or_0 d) (greatest_of ts)) (sym (map_of_map (λ (s : NamedVersion). s.1.evt) named items));
    }

-- a part that is made of what is seen is what is seen
pub made_seen : (f : Sight) (p : Predicate) (part : Part) (seen : List NamedVersion) (d : Option Version) → AreSeen f p seen → d ≡ f None
    → (IsStrictlySortedBy name_cmp (map (λ s. s.0) seen) → AreAskedFor p seen → IsMadeOf d seen p part) → IsPartSeen f p part
made_seen f p part seen d are_seen is made = record {
  seen = seen;
  are_seen = are_seen;
  made = subst (λ (o : Option Version). IsMadeOf o seen p part) is (made are_seen.in_order (λ n v has. (are_seen.sound n v has).0));
}

-- a right part stays right whatever its earliest valid time says
pub any_evt : (applied : List Applied) (r : Row) (p : Predicate) (part : Part) (evt : ℕ) → IsPartOf applied r p part
    → IsPartOf applied r p (record { columns = part.columns; writers = part.writers; evt = evt })
any_evt applied r p part evt is = record { columns = is.columns; writers = is.writers; in_order = is.in_order }

-- what holds of a call that succeeds and is enough for another fact of what it gives
pub if_ok : {T E : Type 0} {P Q : T → Type 0} (result : Result T E) → ((x : T) → P x → Q x) → IfOk result P → IfOk result Q
if_ok (Ok x) f h = f x h
if_ok (Err e) f h = tt

-- what a function gives of things is not more than these
pub not_more : {X Y : Type 0} (f : X → Option Y) (xs : List X) → length (filter_map f xs) ≤ length xs
not_more f [] = omega arith
not_more f (x ∷ xs) = at_most (f x) (filter_map f xs) xs (not_more f xs)
  where
    at_most : {X Y : Type 0} (o : Option Y) (ys : List Y) (xs : List X) → length ys ≤ length xs → length (cons_option o ys) ≤ suc (length xs)
    at_most None ys xs le = omega arith
    at_most (Some y) ys xs le = omega arith

-- A column is among those that a history changes exactly if some change of the history changes it.
use Rattle.std.proofs.Common.{◌≡◌, ◌∙◌, sym, ap, refl, ℕ, Bool, true, false, ◌&&◌, ◌||◌, List, [], ◌∷◌, Option, Some, None, option_map}
use Rattle.std.specs.Prelude.{is_some, filter_map, flat_map, if◌then◌else◌}
use Rattle.std.specs.Ordering.{nat_cmp, is_eq}
use Rattle.std.specs.Cmp.Lexicographic.{slice_cmp}
use Rattle.std.specs.List.{list_any, cons_option}
use Rattle.std.specs.Option.{option_map_or, option_or}
use Rattle.std.proofs.lemmas.List.Folds.{list_any-append}
use Rattle.std.proofs.lemmas.Slice.Eq.{bytes_eq-Decides}
use Rattle.logical_time.specs.Stamps.{is_older}
use Rattle.column_family.specs.declared.batch.Row.{Row}
use Rattle.column_family.specs.declared.batch.Change.{Change}
use Rattle.column_family.specs.declared.batch.Committed.{Committed}
use Rattle.column_family.specs.declared.batch.Mutation.{Mutation}
use Rattle.column_family.specs.declared.batch.Mutation.TheVariants.{Insert, DeleteColumn, DeleteRow, DeleteRange}
use Rattle.column_family.specs.Location.{is_same_row, is_column_change, changes_name}
use Rattle.column_family.specs.History.{History, Stamped, newer_of, newest_of, last_of, stamped}
use Rattle.slice.specs.Live.{columns_changed, column_changed, column_named}
use Rattle.slice.proofs.Asked.{is_among}
use Rattle.slice.proofs.LiveTable.{at}
use Rattle.slice.proofs.Selected.{any_in_order, is_eq_named}

-- a name is its own
pub own_name : (q : List ℕ) → is_eq (slice_cmp nat_cmp q q) ≡ true
own_name q = is_eq_named q q ∙ (bytes_eq-Decides q q).1 refl

any_cons_option : {X : Type 0} (t : X → Bool) (o : Option X) (xs : List X) → list_any t (cons_option o xs) ≡ (option_map_or t o false || list_any t xs)
any_cons_option t None xs = refl
any_cons_option t (Some x) xs = refl

named_alike : (q : List ℕ) (m : Mutation) → option_map_or (λ n. is_eq (slice_cmp nat_cmp q n)) (column_named m) false ≡ changes_name m q
named_alike q (Insert n v) = is_eq_named q n
named_alike q (DeleteColumn n) = is_eq_named q n
named_alike q DeleteRow = refl
named_alike q (DeleteRange start finish) = refl

changed_alike : (q : List ℕ) (b : Bool) (m : Mutation) → option_map_or (λ n. is_eq (slice_cmp nat_cmp q n)) (if b then column_named m else None) false ≡ (b && changes_name m q)
changed_alike q true m = named_alike q m
changed_alike q false m = refl

any_changed : (r : Row) (q : List ℕ) (cs : List Change) → is_among q (filter_map (column_changed r) cs) ≡ list_any (is_column_change (at r q)) cs
any_changed r q [] = refl
any_changed r q (c ∷ cs) =
    any_cons_option (λ n. is_eq (slice_cmp nat_cmp q n)) (column_changed r c) (filter_map (column_changed r) cs)
    ∙ ap (λ b. b || is_among q (filter_map (column_changed r) cs)) (changed_alike q (is_same_row r c.row) c.mutation)
    ∙ ap (λ b. is_column_change (at r q) c || b) (any_changed r q cs)

some_or : (o : Option Mutation) (b : Bool) (m : Mutation) → is_some (option_or o (if b then Some m else None)) ≡ (b || is_some o)
some_or None true m = refl
some_or None false m = refl
some_or (Some n) true m = refl
some_or (Some n) false m = refl

pub some_last : (p : Change → Bool) (cs : List Change) → is_some (last_of p cs) ≡ list_any p cs
some_last p [] = refl
some_last p (c ∷ cs) = some_or (last_of p cs) (p c) c.mutation ∙ ap (λ b. p c || b) (some_last p cs)

some_chosen : (b : Bool) (x y : Stamped) → is_some (if b then Some y else Some x) ≡ true
some_chosen true x y = refl
some_chosen false x y = refl

some_newer : (a b : Option Stamped) → is_some (newer_of a b) ≡ (is_some a || is_some b)
some_newer None b = refl
some_newer (Some a) None = refl
some_newer (Some a) (Some b) = some_chosen (is_older a.stamp b.stamp) a b

some_stamped : (c : Committed) (o : Option Mutation) → is_some (option_map (stamped c) o) ≡ is_some o
some_stamped c None = refl
some_stamped c (Some m) = refl

any_of_history : (r : Row) (q : List ℕ) (h : History)
    → is_among q (flat_map (λ c. filter_map (column_changed r) c.batch) h) ≡ is_some (newest_of (is_column_change (at r q)) h)
any_of_history r q [] = refl
any_of_history r q (c ∷ h) =
    list_any-append (λ n. is_eq (slice_cmp nat_cmp q n)) (filter_map (column_changed r) c.batch) (flat_map (λ d. filter_map (column_changed r) d.batch) h)
    ∙ ap (λ b. b || is_among q (flat_map (λ d. filter_map (column_changed r) d.batch) h)) (any_changed r q c.batch ∙ sym (some_last (is_column_change (at r q)) c.batch) ∙ sym (some_stamped c (last_of (is_column_change (at r q)) c.batch)))
    ∙ ap (λ b. is_some (option_map (stamped c) (last_of (is_column_change (at r q)) c.batch)) || b) (any_of_history r q h)
    ∙ sym (some_newer (option_map (stamped c) (last_of (is_column_change (at r q)) c.batch)) (newest_of (is_column_change (at r q)) h))

pub among_if_changed : (r : Row) (q : List ℕ) (h : History) → is_among q (columns_changed h r) ≡ is_some (newest_of (is_column_change (at r q)) h)
among_if_changed r q h =
    any_in_order (λ n. is_eq (slice_cmp nat_cmp q n)) (flat_map (λ c. filter_map (column_changed r) c.batch) h) ∙ any_of_history r q h

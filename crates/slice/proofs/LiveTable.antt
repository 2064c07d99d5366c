-- The live columns of a row are the row's part of the table.
use Rattle.std.proofs.Common.{◌≡◌, ℕ, Bool, true, false, ◌&&◌, ◌||◌, List, [], ◌∷◌, Option, Some, None, option_map, filter_map, flat_map, refl, ap, ◌∙◌, sym, ◌⊎◌, inl, inr, if◌then◌else◌, ◌↔◌}
use Rattle.std.specs.Ordering.{nat_cmp, is_eq}
use Rattle.std.specs.Cmp.Lexicographic.{slice_cmp}
use Rattle.std.specs.List.{cons_option, AllPairs, Contains}
use Rattle.std.specs.List.Sorted.{IsStrictlySortedBy}
use Rattle.std.specs.Option.{is_some, option_or}
use Rattle.std.proofs.lemmas.List.Folds.{list_any-append}
use Rattle.logical_time.specs.Stamps.{is_older}
use Rattle.column_family.specs.declared.batch.Row.{Row}
use Rattle.column_family.specs.declared.batch.Change.{Change}
use Rattle.column_family.specs.declared.batch.Committed.{Committed}
use Rattle.column_family.specs.declared.batch.Mutation.{Mutation}
use Rattle.column_family.specs.declared.batch.Mutation.TheVariants.{Insert, DeleteColumn, DeleteRow, DeleteRange}
use Rattle.column_family.specs.Location.{Location, is_same_row, touches, touches_name}
use Rattle.column_family.specs.Normal.{IsBelow}
use Rattle.column_family.specs.History.{History, Stamped, stamped, newer_of, last_of, newest, up_to, table_at, inserted, live_value, value_of}
use Rattle.slice.specs.declared.column.Column.{Column}
use Rattle.slice.specs.Live.{column_named, column_changed, columns_changed, live_column, live_columns}
use Rattle.slice.proofs.NameOrder.{sorted_in_order}
use Rattle.slice.proofs.Selected.{any_in_order, is_eq_named}
use Rattle.slice.proofs.Asked.{is_among, KeepsNames, given_at_name, given_if_among, given_in_order, given_alike}

abbrev pub at : Row → List ℕ → Location
at r q = record { row = r; name = q }

one_of_both : (o : Bool) (a b s : Stamped) → (if o then Some b else Some a) ≡ Some s → (Some a ≡ Some s) ⊎ (Some b ≡ Some s)
one_of_both true a b s e = inr e
one_of_both false a b s e = inl e

newer_is_one : (a b : Option Stamped) (s : Stamped) → newer_of a b ≡ Some s → (a ≡ Some s) ⊎ (b ≡ Some s)
newer_is_one None b s e = inr e
newer_is_one (Some a) None s e = inl e
newer_is_one (Some a) (Some b) s e = one_of_both (is_older a.stamp b.stamp) a b s e

either_true : (a b : Bool) → a ≡ true → (a || b) ≡ true
either_true a b e = ap (λ c. c || b) e

other_true : (a b : Bool) → b ≡ true → (a || b) ≡ true
other_true true b e = refl
other_true false b e = e

among_more : (q : List ℕ) (o : Option (List ℕ)) (ns : List (List ℕ)) → is_among q ns ≡ true → is_among q (cons_option o ns) ≡ true
among_more q None ns e = e
among_more q (Some n) ns e = other_true (is_eq (slice_cmp nat_cmp q n)) (is_among q ns) e

-- a mutation of the column that inserts it names it
among_inserted : (q v : List ℕ) (ns : List (List ℕ)) (b : Bool) (m : Mutation) → (b && touches_name m q) ≡ true → inserted m ≡ Some v
    → is_among q (cons_option (if b then column_named m else None) ns) ≡ true
among_inserted q v ns true (Insert n w) e i = either_true (is_eq (slice_cmp nat_cmp q n)) (is_among q ns) (is_eq_named q n ∙ e)
among_inserted q v ns true (DeleteColumn n) e i = absurd (cc)
among_inserted q v ns true DeleteRow e i = absurd (cc)
among_inserted q v ns true (DeleteRange x y) e i = absurd (cc)
among_inserted q v ns false m e i = absurd (cc)

among_last : (r : Row) (q v : List ℕ) (m : Mutation) → inserted m ≡ Some v → (o : Option Mutation) (b : Bool) (c : Change) (ns : List (List ℕ))
    → touches (at r q) c ≡ b → option_or o (if b then Some c.mutation else None) ≡ Some m → (o ≡ Some m → is_among q ns ≡ true)
    → is_among q (cons_option (column_changed r c) ns) ≡ true
among_last r q v m i (Some n) b c ns t e h = among_more q (column_changed r c) ns (h e)
among_last r q v m i None true c ns t e h =
    let same : c.mutation ≡ m = cc in among_inserted q v ns (is_same_row r c.row) c.mutation t (ap inserted same ∙ i)
among_last r q v m i None false c ns t e h = absurd (cc)

among_batch : (r : Row) (q v : List ℕ) (m : Mutation) → inserted m ≡ Some v → (cs : List Change) → last_of (touches (at r q)) cs ≡ Some m
    → is_among q (filter_map (column_changed r) cs) ≡ true
among_batch r q v m i [] e = absurd (cc)
among_batch r q v m i (c ∷ cs) e =
    among_last r q v m i (last_of (touches (at r q)) cs) (touches (at r q) c) c (filter_map (column_changed r) cs) refl e (among_batch r q v m i cs)

among_entry : (r : Row) (q v : List ℕ) (c : Committed) (s : Stamped) → inserted s.mutation ≡ Some v → (o : Option Mutation)
    → last_of (touches (at r q)) c.batch ≡ o → option_map (stamped c) o ≡ Some s → is_among q (filter_map (column_changed r) c.batch) ≡ true
among_entry r q v c s i None e f = absurd (cc)
among_entry r q v c s i (Some m) e f =
    let same : stamped c m ≡ s = cc in among_batch r q v m (ap (λ (t : Stamped). inserted t.mutation) same ∙ i) c.batch e

among_history : (r : Row) (q v : List ℕ) (s : Stamped) → inserted s.mutation ≡ Some v → (h : History) → newest h (at r q) ≡ Some s
    → is_among q (flat_map (λ c. filter_map (column_changed r) c.batch) h) ≡ true
among_history r q v s i [] e = absurd (cc)
among_history r q v s i (c ∷ h) e =
    list_any-append (λ n. is_eq (slice_cmp nat_cmp q n)) (filter_map (column_changed r) c.batch) (flat_map (λ d. filter_map (column_changed r) d.batch) h)
    ∙ elim (newer_is_one (option_map (stamped c) (last_of (touches (at r q)) c.batch)) (newest h (at r q)) s e) [
      | inl f ↦ either_true _ _ (among_entry r q v c s i (last_of (touches (at r q)) c.batch) refl f)
      | inr f ↦ other_true _ _ (among_history r q v s i h f)
    ]

value_changed : (h : History) (r : Row) (q v : List ℕ) (o : Option Stamped) → newest h (at r q) ≡ o → value_of o ≡ Some v → is_among q (columns_changed h r) ≡ true
value_changed h r q v None e f = absurd (cc)
value_changed h r q v (Some s) e f =
    any_in_order (λ n. is_eq (slice_cmp nat_cmp q n)) (flat_map (λ c. filter_map (column_changed r) c.batch) h) ∙ among_history r q v s f h e

column_of : (n : List ℕ) (o : Option (List ℕ)) (c : Column) → option_map (λ v. record { name = n; value = v }) o ≡ Some c → (c.name ≡ n) × (o ≡ Some c.value)
column_of n None c e = absurd (cc)
column_of n (Some v) c e =
    let same : record { name = n; value = v } ≡ c = cc in (sym (ap (λ (d : Column). d.name) same), ap (λ (d : Column). Some d.value) same)

live_keeps_names : (h : History) (r : Row) → KeepsNames (live_column h r)
live_keeps_names h r n c e = (column_of n (value_of (newest h (at r n))) c e).0

some_changed : (h : History) (r : Row) (q : List ℕ) (o : Option (List ℕ)) → value_of (newest h (at r q)) ≡ o
    → is_some {T = Column} (option_map (λ v. record { name = q; value = v }) o) ≡ true → is_among q (columns_changed h r) ≡ true
some_changed h r q None e f = absurd (cc)
some_changed h r q (Some v) e f = value_changed h r q v (newest h (at r q)) refl e

live_changed : (h : History) (r : Row) (q : List ℕ) → is_some (live_column h r q) ≡ true → is_among q (columns_changed h r) ≡ true
live_changed h r q e = some_changed h r q (value_of (newest h (at r q))) refl e

column_alike : (h k : History) (r : Row) → ((n : List ℕ) → value_of (newest h (at r n)) ≡ value_of (newest k (at r n))) → (n : List ℕ) → live_column h r n ≡ live_column k r n
column_alike h k r e n = ap (option_map (λ v. record { name = n; value = v })) (e n)

gives_alike : (f g : List ℕ → Option Column) → ((n : List ℕ) → f n ≡ g n) → (ns : List (List ℕ)) → filter_map f ns ≡ filter_map g ns
gives_alike f g e [] = refl
gives_alike f g e (n ∷ ns) = ap (λ o. cons_option o (filter_map f ns)) (e n) ∙ ap (cons_option (g n)) (gives_alike f g e ns)

names_in_order : (h : History) (r : Row) → IsStrictlySortedBy (slice_cmp nat_cmp) (columns_changed h r)
names_in_order h r = sorted_in_order (flat_map (λ c. filter_map (column_changed r) c.batch) h)

-- live columns depend on the table alone
pub live_columns_alike : (h k : History) (r : Row)
    → ((n : List ℕ) → value_of (newest h (record { row = r; name = n })) ≡ value_of (newest k (record { row = r; name = n })))
    → live_columns h r ≡ live_columns k r
live_columns_alike h k r e =
    given_alike (live_column h r) (columns_changed h r) (columns_changed k r) (names_in_order h r) (names_in_order k r) (live_changed h r)
    (λ q f. live_changed k r q (ap is_some (sym (column_alike h k r e q)) ∙ f))
    ∙ gives_alike (live_column h r) (live_column k r) (column_alike h k r e) (columns_changed k r)

pub live_in_order : (h : History) (r : Row) → AllPairs (λ c d. IsBelow c.name d.name) (live_columns h r)
live_in_order h r = given_in_order (live_column h r) (live_keeps_names h r) (columns_changed h r) (names_in_order h r)

-- the live columns are those whose location is live with their value
pub live_if_in_table : (h : History) (r : Row) (c : Column)
    → Contains (live_columns h r) c ↔ (value_of (newest h (record { row = r; name = c.name })) ≡ Some c.value)
live_if_in_table h r c = (
  (λ i. (column_of c.name (value_of (newest h (at r c.name))) c (given_at_name (live_column h r) (live_keeps_names h r) (columns_changed h r) c i)).1),
  (λ e. given_if_among (live_column h r) c.name c (ap (option_map (λ v. record { name = c.name; value = v })) e) (columns_changed h r)
      (value_changed h r c.name c.value (newest h (at r c.name)) refl e)),
)

live_value_of : (o : Option Stamped) → live_value (option_map (λ s. s.mutation) o) ≡ value_of o
live_value_of None = refl
live_value_of (Some s) = refl

-- the same at a time, by the table
pub live_if_in_table_at : (h : History) (t : ℕ) (r : Row) (c : Column)
    → Contains (live_columns (up_to t h) r) c ↔ (live_value (table_at h t (at r c.name)) ≡ Some c.value)
live_if_in_table_at h t r c =
    let known = live_if_in_table (up_to t h) r c in
    let same = live_value_of (newest (up_to t h) (at r c.name)) in
    (λ has. same ∙ known.0 has, λ is. known.1 (sym same ∙ is))

-- Whether a batch deletes a range with a location and no row later, change by change; and in a normal form, where no row is.
use Rattle.std.proofs.Common.{◌≡◌, ◌∙◌, ℕ, suc, ◌<◌, ap, sym, refl, inl, inr, Bool, true, false, ◌&&◌, ◌||◌, not, List, [], ◌∷◌, length, Option, Some, None, if◌then◌else◌, ◌⊎◌, arith}
use Rattle.std.specs.Prelude.{AllPairs}
use Rattle.std.specs.List.{AllByRecursion, list_any, slice_index_or}
use Rattle.std.specs.Option.{option_or}
use Rattle.column_family.specs.declared.batch.Row.{Row}
use Rattle.column_family.specs.declared.batch.Change.{Change}
use Rattle.column_family.specs.declared.batch.Mutation.{Mutation}
use Rattle.column_family.specs.declared.batch.Mutation.TheVariants.{Insert, DeleteColumn, DeleteRow, DeleteRange}
use Rattle.column_family.specs.Location.{Location, is_same_row, deletes_row, deletes_range, ranges_over, is_row_deletion, strikes}
use Rattle.column_family.specs.History.{last_of, keeps_row, leaves_range}
use Rattle.column_family.specs.Normal.{changes_before, StandsBefore, IsInOrderOf, IsNormal}
use Rattle.column_family.proofs.Options.{first_holds, second_holds}
use Rattle.column_family.proofs.Kept.{one_row}

-- ---- a batch's last deletion that strikes a location is that of a range, or none of a row follows one of a range
abbrev pub leaves_one : Location → List Change → Bool
leaves_one l [] = false
leaves_one l (c ∷ cs) = (is_same_row l.row c.row && (ranges_over c.mutation l.name && not (list_any (is_row_deletion l.row) cs))) || leaves_one l cs

-- what the last deletion that strikes says of those of the row
row_found : (l : Location) (cs : List Change) (m : Mutation) → last_of (strikes l) cs ≡ Some m → deletes_row m ≡ true → list_any (is_row_deletion l.row) cs ≡ true
row_found l [] m e d = absurd (cc)
row_found l (c ∷ cs) m e d = go (λ f. row_found l cs m f d) (last_of (strikes l) cs) refl e
  where
    here : (b : Bool) (n : Mutation) → (if b && (deletes_row n || ranges_over n l.name) then Some n else None) ≡ Some m → (b && deletes_row n) ≡ true
    here true (Insert n v) f = absurd (cc)
    here true (DeleteColumn n) f = absurd (cc)
    here true DeleteRow f = refl
    here true (DeleteRange s f) g = ranged (ranges_over (DeleteRange s f) l.name) g
      where
        ranged : (t : Bool) → (if t then Some (DeleteRange s f) else None) ≡ Some m → (true && deletes_row (DeleteRange s f)) ≡ true
        ranged true g = let same : DeleteRange s f ≡ m = cc in let not_so : deletes_row m ≡ false = ap (λ (x : Mutation). deletes_row x) (sym same) in absurd (cc)
        ranged false g = absurd (cc)
    here false n f = absurd (cc)

    go : (last_of (strikes l) cs ≡ Some m → list_any (is_row_deletion l.row) cs ≡ true) → (o : Option Mutation) → last_of (strikes l) cs ≡ o
        → option_or o (if is_same_row l.row c.row && (deletes_row c.mutation || ranges_over c.mutation l.name) then Some c.mutation else None) ≡ Some m
        → (is_row_deletion l.row c || list_any (is_row_deletion l.row) cs) ≡ true
    go ih (Some x) f g = second_holds (is_row_deletion l.row c) (list_any (is_row_deletion l.row) cs) (ih (f ∙ g))
    go ih None f g = first_holds (is_row_deletion l.row c) (list_any (is_row_deletion l.row) cs) (here (is_same_row l.row c.row) c.mutation g)

none_found : (l : Location) (cs : List Change) → last_of (strikes l) cs ≡ None → list_any (is_row_deletion l.row) cs ≡ false
none_found l [] e = refl
none_found l (c ∷ cs) e = go (λ f. none_found l cs f) (last_of (strikes l) cs) refl e
  where
    here : (b : Bool) (n : Mutation) → (if b && (deletes_row n || ranges_over n l.name) then Some n else None) ≡ None → (b && deletes_row n) ≡ false
    here true (Insert n v) f = refl
    here true (DeleteColumn n) f = refl
    here true DeleteRow f = absurd (cc)
    here true (DeleteRange s f) g = refl
    here false n f = refl

    go : (last_of (strikes l) cs ≡ None → list_any (is_row_deletion l.row) cs ≡ false) → (o : Option Mutation) → last_of (strikes l) cs ≡ o
        → option_or o (if is_same_row l.row c.row && (deletes_row c.mutation || ranges_over c.mutation l.name) then Some c.mutation else None) ≡ None
        → (is_row_deletion l.row c || list_any (is_row_deletion l.row) cs) ≡ false
    go ih (Some x) f g = absurd (cc)
    go ih None f g = rw (here (is_same_row l.row c.row) c.mutation g) (ih f)

pub leaves_same : (l : Location) (cs : List Change) → leaves_range l cs ≡ leaves_one l cs
leaves_same l [] = refl
leaves_same l (c ∷ cs) = go (leaves_same l cs) (last_of (strikes l) cs) refl
  where
    -- nothing strikes later
    alone : (b : Bool) (n : Mutation) (any rest : Bool) → any ≡ false → rest ≡ false → keeps_row (if b && (deletes_row n || ranges_over n l.name) then Some n else None) ≡ ((b && (ranges_over n l.name && not any)) || rest)
    alone true (Insert n v) any rest h k = sym k
    alone true (DeleteColumn n) any rest h k = sym k
    alone true DeleteRow any rest h k = sym k
    alone true (DeleteRange s f) any rest h k = rw (h, k) (ranged (ranges_over (DeleteRange s f) l.name))
      where
        ranged : (t : Bool) → keeps_row (if t then Some (DeleteRange s f) else None) ≡ ((t && true) || false)
        ranged true = refl
        ranged false = refl
    alone false n any rest h k = sym k

    -- something does
    hidden : (a t any rest : Bool) → (rest ≡ false → any ≡ true) → rest ≡ ((a && (t && not any)) || rest)
    hidden true true true true h = refl
    hidden true true true false h = refl
    hidden true true false true h = refl
    hidden true true false false h = let no = h refl in absurd (cc)
    hidden true false any rest h = refl
    hidden false t any rest h = refl

    later : (m : Mutation) → last_of (strikes l) cs ≡ Some m → not (deletes_row m) ≡ false → list_any (is_row_deletion l.row) cs ≡ true
    later m f g = row_found l cs m f (undone (deletes_row m) g)
      where
        undone : (t : Bool) → not t ≡ false → t ≡ true
        undone true h = refl
        undone false h = absurd (cc)

    go : keeps_row (last_of (strikes l) cs) ≡ leaves_one l cs → (o : Option Mutation) → last_of (strikes l) cs ≡ o
        → keeps_row (option_or o (if is_same_row l.row c.row && (deletes_row c.mutation || ranges_over c.mutation l.name) then Some c.mutation else None))
        ≡ ((is_same_row l.row c.row && (ranges_over c.mutation l.name && not (list_any (is_row_deletion l.row) cs))) || leaves_one l cs)
    go ih None f = alone (is_same_row l.row c.row) c.mutation (list_any (is_row_deletion l.row) cs) (leaves_one l cs) (none_found l cs f) (sym ih ∙ ap keeps_row f)
    go ih (Some m) f =
        let rest : not (deletes_row m) ≡ leaves_one l cs = sym (ap keeps_row f) ∙ ih in
        rest ∙ hidden (is_same_row l.row c.row) (ranges_over c.mutation l.name) (list_any (is_row_deletion l.row) cs) (leaves_one l cs) (λ h. later m f (rest ∙ h))

-- ---- in a normal form no deletion of a row follows one of a range of it
abbrev Follows : List Change → Change → Change → Type 0
Follows batch c d = (changes_before batch c.row < changes_before batch d.row) ⊎ ((c.row ≡ d.row) × StandsBefore c.mutation d.mutation)

each_follows : (R : Change → Change → Type 0) (x : Change) (xs : List Change) → ((j : ℕ) (d : Change) → j < length xs → R x (slice_index_or xs j d)) → AllByRecursion (R x) xs
each_follows R x [] f = tt
each_follows R x (y ∷ ys) f = (f 0 y (omega arith), each_follows R x ys (λ j d lt. f (suc j) d (omega arith)))

tail_pairs : (R : Change → Change → Type 0) (x : Change) (xs : List Change) → AllPairs R (x ∷ xs) → AllPairs R xs
tail_pairs R x xs h = λ i j d lt in'. h (suc i) (suc j) d (omega arith) (omega arith)

not_after : (m n : Mutation) → deletes_range m ≡ true → StandsBefore m n → deletes_row n ≡ false
not_after (Insert k v) n r h = absurd (cc)
not_after (DeleteColumn k) n r h = absurd (cc)
not_after DeleteRow n r h = absurd (cc)
not_after (DeleteRange s f) (Insert n v) r h = refl
not_after (DeleteRange s f) (DeleteColumn n) r h = refl
not_after (DeleteRange s f) DeleteRow r h = absurd h
not_after (DeleteRange s f) (DeleteRange s' f') r h = refl

none_of_row : (batch : List Change) (r : Row) (c : Change) → is_same_row r c.row ≡ true → deletes_range c.mutation ≡ true → (cs : List Change) → AllByRecursion (Follows batch c) cs → list_any (is_row_deletion r) cs ≡ false
none_of_row batch r c same range [] h = refl
none_of_row batch r c same range (d ∷ cs) h = rw (here (is_same_row r d.row) refl h.0) (none_of_row batch r c same range cs h.1)
  where
    here : (b : Bool) → is_same_row r d.row ≡ b → Follows batch c d → (is_same_row r d.row && deletes_row d.mutation) ≡ false
    here false u f = rw u refl
    here true u (inr f) = rw (u, not_after c.mutation d.mutation range f.1) refl
    here true u (inl f) =
        let rows : c.row ≡ d.row = sym (one_row r c.row same) ∙ one_row r d.row u in
        let numbers = ap (changes_before batch) rows in
        absurd (omega arith)

-- a deletion of a range in the order of a normal form isn't followed by one of its row
pub none_follows : (batch : List Change) (r : Row) (c : Change) (cs : List Change) → IsInOrderOf batch (c ∷ cs) → is_same_row r c.row ≡ true → deletes_range c.mutation ≡ true → list_any (is_row_deletion r) cs ≡ false
none_follows batch r c cs h same range = none_of_row batch r c same range cs (each_follows (Follows batch) c cs (λ j d lt. h 0 (suc j) d (omega arith) (omega arith)))

pub order_of_rest : (batch : List Change) (c : Change) (cs : List Change) → IsInOrderOf batch (c ∷ cs) → IsInOrderOf batch cs
order_of_rest batch c cs h = tail_pairs (Follows batch) c cs h

over_range : (m : Mutation) (name : List ℕ) → ranges_over m name ≡ true → deletes_range m ≡ true
over_range (Insert n v) name h = absurd (cc)
over_range (DeleteColumn n) name h = absurd (cc)
over_range DeleteRow name h = absurd (cc)
over_range (DeleteRange s f) name h = refl

-- a test that passes only where nothing follows needn't ask that
pub unasked : (a b any : Bool) → (a ≡ true → b ≡ true → any ≡ false) → (a && (b && not any)) ≡ (a && b)
unasked true true any h = ap (λ (x : Bool). not x) (h refl refl)
unasked true false any h = refl
unasked false b any h = refl

ordered_leaves : (batch : List Change) (l : Location) (cs : List Change) → IsInOrderOf batch cs → leaves_one l cs ≡ list_any (λ c. is_same_row l.row c.row && ranges_over c.mutation l.name) cs
ordered_leaves batch l [] h = refl
ordered_leaves batch l (c ∷ cs) h =
    ap (λ (x : Bool). x || leaves_one l cs) (unasked (is_same_row l.row c.row) (ranges_over c.mutation l.name) (list_any (is_row_deletion l.row) cs) (λ s o. none_follows batch l.row c cs h s (over_range c.mutation l.name o)))
    ∙ ap (λ (x : Bool). (is_same_row l.row c.row && ranges_over c.mutation l.name) || x) (ordered_leaves batch l cs (order_of_rest batch c cs h))

-- a normal form leaves each range that it deletes
pub normal_leaves : (cs : List Change) → IsNormal cs → (l : Location) → leaves_range l cs ≡ list_any (λ c. is_same_row l.row c.row && ranges_over c.mutation l.name) cs
normal_leaves cs h l = leaves_same l cs ∙ ordered_leaves cs l cs h

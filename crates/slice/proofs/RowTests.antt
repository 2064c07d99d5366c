-- Tests of changes of one row: what a batch last does under one, its normal form does too, and what has the row's part of
-- the normal form.
use Rattle.std.proofs.Common.{◌≡◌, ◌∙◌, sym, ap, refl, Bool, true, false, cond, ◌||◌, List, [], ◌∷◌, Option, Some, None}
use Rattle.std.specs.Prelude.{if◌then◌else◌, option_map, is_some}
use Rattle.std.specs.List.{list_any}
use Rattle.std.specs.Option.{option_or}
use Rattle.std.proofs.lemmas.Bool.{false≢true, and_parts}
use Rattle.logical_time.specs.Stamps.{StampValue}
use Rattle.column_family.specs.declared.batch.Row.{Row}
use Rattle.column_family.specs.declared.batch.Change.{Change}
use Rattle.column_family.specs.declared.batch.Mutation.{Mutation}
use Rattle.column_family.specs.Location.{Location, is_same_row, touches, touches_name, is_row_deletion, deletes_row, ranges_over, strikes}
use Rattle.column_family.specs.History.{Stamped, stamped, newer_of, last_of, newest_of}
use Rattle.column_family.specs.Normal.{committed}
use Rattle.column_family.specs.Places.{normal_of}
use Rattle.column_family.proofs.Options.{or_none}
use Rattle.column_family.proofs.Order.{normal_stands, normal_strikes}
use Rattle.slice.specs.Parts.{has_row, changes_of}
use Rattle.slice.proofs.Changed.{some_last}

-- a test of changes of this row: the normal form of a batch has the last of those that pass it
pub record IsRowTest (r : Row) (q : Change → Bool) : Type 0 where
  pub own : (c : Change) → q c ≡ true → is_same_row r c.row ≡ true
  pub normal : (batch : List Change) → last_of q (normal_of batch) ≡ last_of q batch

-- ---- the tests that tables are made by
nothing : StampValue
nothing = record { time = 0; node = 0 }

alone : (q : Change → Bool) (cs : List Change) → option_map (λ x. x.mutation) (newest_of q (committed cs nothing 0 ∷ [])) ≡ last_of q cs
alone q cs = go (last_of q cs)
  where
    go : (o : Option Mutation) → option_map (λ x. x.mutation) (newer_of (option_map (stamped (committed cs nothing 0)) o) None) ≡ o
    go None = refl
    go (Some m) = refl

same_last : (q : Change → Bool) (cs ds : List Change) → newest_of q (committed cs nothing 0 ∷ []) ≡ newest_of q (committed ds nothing 0 ∷ [])
    → last_of q cs ≡ last_of q ds
same_last q cs ds e = sym (alone q cs) ∙ ap (λ (o : Option Stamped). option_map (λ x. x.mutation) o) e ∙ alone q ds

pub touches_test : (l : Location) → IsRowTest l.row (touches l)
touches_test l =
    record {
      own = λ c h. (and_parts (is_same_row l.row c.row) (touches_name c.mutation l.name) h).0;
      normal = λ batch. same_last (touches l) (normal_of batch) batch ((normal_stands batch).newest [] [] nothing 0 0 l);
    }

pub deletion_test : (r : Row) → IsRowTest r (is_row_deletion r)
deletion_test r =
    record {
      own = λ c h. (and_parts (is_same_row r c.row) (deletes_row c.mutation) h).0;
      normal = λ batch. same_last (is_row_deletion r) (normal_of batch) batch ((normal_stands batch).deletion [] [] nothing 0 0 r);
    }

pub strikes_test : (l : Location) → IsRowTest l.row (strikes l)
strikes_test l =
    record {
      own = λ c h. (and_parts (is_same_row l.row c.row) (deletes_row c.mutation || ranges_over c.mutation l.name) h).0;
      normal = λ batch. normal_strikes batch l;
    }

-- ---- the changes of the row are all that count
of_row : (r : Row) (q : Change → Bool) → IsRowTest r q → (cs : List Change) → last_of q (changes_of r cs) ≡ last_of q cs
of_row r q test [] = refl
of_row r q test (c ∷ cs) = go (is_same_row r c.row) refl (of_row r q test cs)
  where
    none : is_same_row r c.row ≡ false → (b : Bool) → q c ≡ b → (if b then Some c.mutation else None) ≡ None
    none off false e = refl
    none off true e = absurd (false≢true (sym off ∙ test.own c e))

    go : (b : Bool) → is_same_row r c.row ≡ b → last_of q (changes_of r cs) ≡ last_of q cs
        → last_of q (cond b (c ∷ changes_of r cs) (changes_of r cs)) ≡ option_or (last_of q cs) (if q c then Some c.mutation else None)
    go true on ih = ap (λ (o : Option Mutation). option_or o (if q c then Some c.mutation else None)) ih
    go false off ih = ih ∙ or_none (last_of q cs) ∙ ap (option_or (last_of q cs)) (sym (none off (q c) refl))

-- what has the row's part of a batch's normal form has the last of the batch
pub last_alike : (r : Row) (q : Change → Bool) → IsRowTest r q → (part batch : List Change) → changes_of r part ≡ changes_of r (normal_of batch)
    → last_of q part ≡ last_of q batch
last_alike r q test part batch e =
    sym (of_row r q test part) ∙ ap (last_of q) e ∙ of_row r q test (normal_of batch) ∙ test.normal batch

-- ---- a change that passes is of the row
passed_row : (r : Row) (q : Change → Bool) → IsRowTest r q → (cs : List Change) → list_any q cs ≡ true → has_row r cs ≡ true
passed_row r q test [] e = absurd (cc)
passed_row r q test (c ∷ cs) e = go (q c) refl (passed_row r q test cs) e
  where
    right : (b : Bool) → has_row r cs ≡ true → (b || has_row r cs) ≡ true
    right true h = refl
    right false h = h

    go : (b : Bool) → q c ≡ b → (list_any q cs ≡ true → has_row r cs ≡ true) → (b || list_any q cs) ≡ true → (is_same_row r c.row || has_row r cs) ≡ true
    go true is later g = rw (test.own c is) refl
    go false is later g = right (is_same_row r c.row) (later g)

pub row_of_last : (r : Row) (q : Change → Bool) → IsRowTest r q → (cs : List Change) (m : Mutation) → last_of q cs ≡ Some m → has_row r cs ≡ true
row_of_last r q test cs m e = passed_row r q test cs (sym (some_last q cs) ∙ ap is_some e)

-- so what touches a location is of its row, in a batch and in its normal form
pub touched_row : (l : Location) (cs : List Change) → list_any (touches l) cs ≡ true → has_row l.row cs ≡ true
touched_row l cs e = passed_row l.row (touches l) (touches_test l) cs e

pub touched_normal : (l : Location) (batch : List Change) → list_any (touches l) batch ≡ true → has_row l.row (normal_of batch) ≡ true
touched_normal l batch e =
    touched_row l (normal_of batch)
    (sym (some_last (touches l) (normal_of batch)) ∙ ap is_some ((touches_test l).normal batch) ∙ some_last (touches l) batch ∙ e)

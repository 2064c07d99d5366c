-- The places that a mutation is of.
use Rattle.std.proofs.Common.{◌≡◌, ℕ, ◌∙◌, ap, refl, subst, Bool, true, false, ◌&&◌, ◌⊎◌, ◌<◌, ◌≤◌, length, inl, inr, List, Some, None, Result, Ok, Err, OnOk, arith}
use Rattle.std.specs.Str.{bytes_eq}
use Rattle.std.proofs.lemmas.Slice.Eq.{bytes_eq-Decides}
use Rattle.logical_time.specs.Stamps.{StampValue}
use Rattle.column_family.specs.declared.batch.Row.{Row}
use Rattle.column_family.specs.declared.batch.Change.{Change}
use Rattle.column_family.specs.declared.batch.Mutation.{Mutation}
use Rattle.column_family.specs.declared.batch.Mutation.TheVariants.{Insert, DeleteColumn, DeleteRow, DeleteRange}
use Rattle.column_family.specs.Location.{is_same_row}
use Rattle.versions.specs.Chain.{Held}
use Rattle.versions.specs.Newest.{has_stamp}
use Rattle.column_family.specs.Places.{row_cmp}
use Rattle.store.specs.Stored.{Place, Chains, no_row, held_by, chain_of, chain_at, column_held, is_of_place, is_at, leaves_version}

-- a version of the stamp can be put: there is room, or the stamp is held
abbrev pub IsReady : StampValue → Held → Type 0
IsReady s h = (0 < h.room) ⊎ (has_stamp h.versions s ≡ true)

pub same_bytes : (n : List ℕ) → bytes_eq n n ≡ true
same_bytes n = (bytes_eq-Decides n n).1 refl

-- what holds at each place of a mutation holds at its column
pub at_insertion : (P : Held → Type 0) (row : Chains) (m : Mutation) (n v : List ℕ) → m ≡ Insert n v
    → ((p : Place) → is_of_place p m ≡ true → P (chain_of row p)) → P (column_held row.columns n)
at_insertion P row m n v e h = h (Some n) (ap (is_of_place (Some n)) e ∙ same_bytes n)

pub at_deletion : (P : Held → Type 0) (row : Chains) (m : Mutation) (n : List ℕ) → m ≡ DeleteColumn n
    → ((p : Place) → is_of_place p m ≡ true → P (chain_of row p)) → P (column_held row.columns n)
at_deletion P row m n e h = h (Some n) (ap (is_of_place (Some n)) e ∙ same_bytes n)

pub at_row_deletion : (P : Held → Type 0) (row : Chains) (m : Mutation) → m ≡ DeleteRow
    → ((p : Place) → is_of_place p m ≡ true → P (chain_of row p)) → P row.deletions
at_row_deletion P row m e h = h None (ap (is_of_place None) e)

both_true : (a b : Bool) → a ≡ true → b ≡ true → (a && b) ≡ true
both_true true b e f = f
both_true false b e f = absurd (cc)

-- a change is at its own row
pub own_at : (c : Change) (p : Place) → is_of_place p c.mutation ≡ true → is_at c.row p c ≡ true
own_at c p e =
    both_true (is_same_row c.row c.row) (is_of_place p c.mutation)
    (both_true (bytes_eq c.row.key c.row.key) (bytes_eq c.row.family c.row.family) (same_bytes c.row.key) (same_bytes c.row.family)) e

own_place : (m : Mutation) → leaves_version m ≡ true → (p : Place) × (is_of_place p m ≡ true)
own_place (Insert n v) e = (Some n, same_bytes n)
own_place (DeleteColumn n) e = (Some n, same_bytes n)
own_place DeleteRow e = (None, refl)
own_place (DeleteRange start finish) e = absurd (cc)

no_room : (p : Place) → 0 < (chain_of no_row p).room → ⊥
no_room None lt = absurd (omega arith)
no_room (Some n) lt = absurd (omega arith)

-- a row that isn't there has no room
pub no_room_missing : (rows : List (Row × Chains)) (c : Change) → leaves_version c.mutation ≡ true → held_by row_cmp no_row rows c.row ≡ no_row
    → ((r : Row) (p : Place) → is_at r p c ≡ true → 0 < (chain_at rows r p).room) → ⊥
no_room_missing rows c leaves missing room =
    let at = own_place c.mutation leaves in
    no_room at.0 (subst (λ (row : Chains). 0 < (chain_of row at.0).room) missing (room c.row at.0 (own_at c at.0 at.1)))

-- what holds of a call that succeeds and is enough for another fact
pub on_ok : {T E P Q : Type 0} (result : Result T E) → (P → Q) → OnOk result P → OnOk result Q
on_ok (Ok x) f h = f h
on_ok (Err e) f h = tt

unready : (s : StampValue) (p : Place) → IsReady s (chain_of no_row p) → ⊥
unready s None (inl lt) = absurd (omega (arith, lt))
unready s None (inr e) = absurd (cc)
unready s (Some n) (inl lt) = absurd (omega (arith, lt))
unready s (Some n) (inr e) = absurd (cc)

place_if : (b : Bool) → (b ≡ true → ⊥) → b ≡ false
place_if true never = absurd (never refl)
place_if false never = refl

not_both : (a b : Bool) → b ≡ false → (a && b) ≡ false
not_both true b e = e
not_both false b e = refl

-- a mutation for which all is ready at a row that isn't there is of no place
pub nowhere : (rows : List (Row × Chains)) (row : Row) (m : Mutation) (s : StampValue) → held_by row_cmp no_row rows row ≡ no_row
    → ((p : Place) → is_of_place p m ≡ true → IsReady s (chain_at rows row p)) → (r : Row) (p : Place) → (is_same_row r row && is_of_place p m) ≡ false
nowhere rows row m s missing ready r p =
    not_both (is_same_row r row) (is_of_place p m)
    (place_if (is_of_place p m) (λ at. unready s p (subst (λ (here : Chains). IsReady s (chain_of here p)) missing (ready p at))))

-- nothing is held at a row that isn't there
pub nothing_there : (rows : List (Row × Chains)) (row : Row) → held_by row_cmp no_row rows row ≡ no_row → (p : Place) → length (chain_at rows row p).versions ≤ 1
nothing_there rows row missing None = rw missing (omega arith)
nothing_there rows row missing (Some n) = rw missing (omega arith)

-- Places in a round, step by step.
use Rattle.std.proofs.Common.{◌≡◌, ◌∙◌, ◌<◌, ◌+◌, ℕ, zero, suc, List, All, [], ◌∷◌, ◌++◌, take, drop, length, Bool, true, false, Option, Some, None, Result, Ok, Err, refl, sym, ap, subst, inl, inr, arith}
use Rattle.std.specs.Prelude.{◌⊎◌, slice_get, slice_set}
use Rattle.std.specs.List.{Contains}
use Rattle.std.proofs.lemmas.List.{take-append-drop}
use Rattle.std.proofs.lemmas.List.Elements.{All-head, All-tail, Contains-push, Contains-push_cases, Contains-append_left, Contains-append_right, Contains-append_cases}
use Rattle.std.proofs.lemmas.Bool.{cases_eq}
use Rattle.readiness.specs.declared.connection.Connection.{Connection}
use Rattle.logical_time.specs.declared.fault.Fault.{Fault}
use Rattle.messages.specs.declared.op.Op.{Op}
use Rattle.wire.specs.Replies.{Reply}
use Rattle.readiness.specs.declared.connection.Stage.TheVariants.{Open, Failed}
use Rattle.readiness.specs.Exchanges.{Exchange, Entry, only}
use Rattle.readiness.specs.Lines.{ReadyValue}
use Rattle.readiness.specs.Places.{PlaceTurned, Turns, Rests, SettledFirst}
use Rattle.readiness.specs.Kept.{view, IsNew}
use Rattle.readiness.specs.Turns.{IsOver, is_open}
use Rattle.readiness.proofs.Lists.{get_set_same, get_set_other, got_within}
use Rattle.doors.specs.declared.listening.Doors.{Doors}
use Rattle.doors.specs.Silence.{AreMarked, IsSentAway}
use Rattle.doors.specs.Rounds.{Place, Closed, Given, OnlyAt, GoesOn, AllGoOn, AreNoted, AreTaken, IsSound, MayWait, Round}
use Rattle.doors.proofs.Silent.{Vacated}

no_one : {A : Type 0} (c : A) (y : Option (Option A)) → y ≡ Some None → y ≡ Some (Some c) → ⊥
no_one c y e f = cc

-- ## Those that leave

closed_then : {L : Type 0} (seen : L → ReadyValue) (x y z : Place L) → Closed seen x y → Closed seen y z → Closed seen x z
closed_then {L = L} seen x y z h k =
    elim k [
      | inl e ↦ subst (λ (u : Place L). Closed seen x u) (sym e) h
      | inr m ↦ elim h [
        | inl e ↦ inr (m.0, sym e ∙ m.1, m.2, m.3)
        | inr n ↦ absurd (no_one m.0 y n.3 m.1)
      ]
    ]

pub closed_more : {L : Type 0} (seen : L → ReadyValue) (xs ys zs : List (Option (Connection L))) → ((k : ℕ) → Closed seen (slice_get xs k) (slice_get ys k)) → ((k : ℕ) → Closed seen (slice_get ys k) (slice_get zs k))
    → (k : ℕ) → Closed seen (slice_get xs k) (slice_get zs k)
closed_more seen xs ys zs h j k = closed_then seen (slice_get xs k) (slice_get ys k) (slice_get zs k) (h k) (j k)

-- nothing changes
pub closed_none : {L : Type 0} (seen : L → ReadyValue) (xs : List (Option (Connection L))) (k : ℕ) → Closed seen (slice_get xs k) (slice_get xs k)
closed_none seen xs k = inl refl

-- nothing was changed
pub closed_same : {L : Type 0} (seen : L → ReadyValue) (xs ys : List (Option (Connection L))) → ys ≡ xs → (k : ℕ) → Closed seen (slice_get xs k) (slice_get ys k)
closed_same {L = L} seen xs ys same k = inl (ap (λ (u : List (Option (Connection L))). slice_get u k) same)

-- the connection at a place leaves
pub closed_at : {L : Type 0} (seen : L → ReadyValue) (xs ys : List (Option (Connection L))) (place : ℕ) (c : Connection L) → slice_get xs place ≡ Some (Some c) → IsOver (view seen c) → ys ≡ slice_set xs place None
    → (k : ℕ) → Closed seen (slice_get xs k) (slice_get ys k)
closed_at {L = L} seen xs ys place c was over is k =
    subst (λ (zs : List (Option (Connection L))). Closed seen (slice_get xs k) (slice_get zs k)) (sym is)
    (elim (cases_eq place k) [
      | inl e ↦
          let here : slice_get (slice_set xs place None) k ≡ Some None = subst (λ (i : ℕ). slice_get (slice_set xs place None) i ≡ Some None) e (get_set_same xs place None (got_within xs place (Some c) was)) in
          inr (c, subst (λ (i : ℕ). slice_get xs i ≡ Some (Some c)) e was, over, here)
      | inr ne ↦ inl (get_set_other xs place k None ne)
    ])

-- ## Those that come

given_then : {L : Type 0} (x y z : Place L) → Given x y → Given y z → Given x z
given_then {L = L} x y z h k =
    elim k [
      | inl e ↦ subst (λ (u : Place L). Given x u) (sym e) h
      | inr m ↦ elim h [
        | inl e ↦ inr (m.0, m.1, m.2, sym e ∙ m.3, m.4)
        | inr n ↦ absurd (no_one n.1 y m.3 n.4)
      ]
    ]

pub given_more : {L : Type 0} (xs ys zs : List (Option (Connection L))) → ((k : ℕ) → Given (slice_get xs k) (slice_get ys k)) → ((k : ℕ) → Given (slice_get ys k) (slice_get zs k)) → (k : ℕ) → Given (slice_get xs k) (slice_get zs k)
given_more xs ys zs h j k = given_then (slice_get xs k) (slice_get ys k) (slice_get zs k) (h k) (j k)

-- nothing changes
pub given_none : {L : Type 0} (xs : List (Option (Connection L))) (k : ℕ) → Given (slice_get xs k) (slice_get xs k)
given_none xs k = inl refl

-- no place was given
pub given_same : {L : Type 0} (xs ys : List (Option (Connection L))) → ys ≡ xs → (k : ℕ) → Given (slice_get xs k) (slice_get ys k)
given_same {L = L} xs ys same k = inl (ap (λ (u : List (Option (Connection L))). slice_get u k) same)

-- a free place is given to the connection of a line
pub given_at : {L : Type 0} (xs ys : List (Option (Connection L))) (place : ℕ) (line : L) → slice_get xs place ≡ Some None → ((c : Connection L) × IsNew line c × (ys ≡ slice_set xs place (Some c)))
    → (k : ℕ) → Given (slice_get xs k) (slice_get ys k)
given_at {L = L} xs ys place line was h k =
    subst (λ (zs : List (Option (Connection L))). Given (slice_get xs k) (slice_get zs k)) (sym h.2)
    (elim (cases_eq place k) [
      | inl e ↦
          let here : slice_get (slice_set xs place (Some h.0)) k ≡ Some (Some h.0) = subst (λ (i : ℕ). slice_get (slice_set xs place (Some h.0)) i ≡ Some (Some h.0)) e (get_set_same xs place (Some h.0) (got_within xs place None was)) in
          inr (line, h.0, h.1, subst (λ (i : ℕ). slice_get xs i ≡ Some None) e was, here)
      | inr ne ↦ inl (get_set_other xs place k (Some h.0) ne)
    ])

-- no other place changes
pub others_at : {L : Type 0} (xs ys : List (Option (Connection L))) (place : ℕ) (line : L) → ((c : Connection L) × IsNew line c × (ys ≡ slice_set xs place (Some c))) → (k : ℕ) → (place ≡ k → ⊥) → slice_get ys k ≡ slice_get xs k
others_at {L = L} xs ys place line h k ne = ap (λ (u : List (Option (Connection L))). slice_get u k) h.2 ∙ get_set_other xs place k (Some h.0) ne

-- ## Those that were told

-- nothing changes
pub only_none : {L : Type 0} (fresh : List ℕ) (xs : List (Option (Connection L))) → OnlyAt fresh xs xs
only_none fresh xs k = inl refl

-- a place is told, and no other changes
pub only_at : {L : Type 0} (fresh more : List ℕ) (place : ℕ) (xs ys : List (Option (Connection L))) → more ≡ fresh ++ place ∷ [] → ((k : ℕ) → (place ≡ k → ⊥) → slice_get ys k ≡ slice_get xs k) → OnlyAt more xs ys
only_at fresh more place xs ys told others k =
    elim (cases_eq place k) [
      | inl e ↦ inr (subst (λ (t : List ℕ). Contains t k) (sym told) (subst (λ (i : ℕ). Contains (fresh ++ place ∷ []) i) e (Contains-push fresh place)))
      | inr ne ↦ inl (others k ne)
    ]

-- whatever was told is told still
pub told_more : (fresh more : List ℕ) (place : ℕ) → more ≡ fresh ++ place ∷ [] → (k : ℕ) → Contains fresh k → Contains more k
told_more fresh more place told k h = subst (λ (t : List ℕ). Contains t k) (sym told) (Contains-append_left fresh (place ∷ []) k h)

pub only_more : {L : Type 0} (fresh more : List ℕ) (xs ys zs : List (Option (Connection L))) → OnlyAt fresh xs ys → OnlyAt more ys zs → ((k : ℕ) → Contains fresh k → Contains more k) → OnlyAt more xs zs
only_more fresh more xs ys zs h j kept k = elim (j k) [
  | inl e ↦ elim (h k) [
    | inl f ↦ inl (e ∙ f)
    | inr has ↦ inr (kept k has)
  ]
  | inr has ↦ inr has
]

-- ## Free places

-- a place that was given is free no longer
pub taken_at : {L : Type 0} (xs ys : List (Option (Connection L))) (place : ℕ) (line : L) → slice_get xs place ≡ Some None → ((c : Connection L) × IsNew line c × (ys ≡ slice_set xs place (Some c))) → slice_get ys place ≡ Some None → ⊥
taken_at {L = L} xs ys place line was h free =
    no_one h.0 (slice_get ys place) free (ap (λ (u : List (Option (Connection L))). slice_get u place) h.2 ∙ get_set_same xs place (Some h.0) (got_within xs place None was))

free_before : {L : Type 0} (x y : Place L) → Given x y → y ≡ Some None → x ≡ Some None
free_before x y h free = elim h [
  | inl e ↦ sym e ∙ free
  | inr m ↦ absurd (no_one m.1 y free m.4)
]

-- where places were given, the free ones are noted still
pub noted_given : {L : Type 0} (xs ys : List (Option (Connection L))) (free : List ℕ) → ((k : ℕ) → Given (slice_get xs k) (slice_get ys k)) → AreNoted xs free → AreNoted ys free
noted_given xs ys free h noted k is = noted k (free_before (slice_get xs k) (slice_get ys k) (h k) is)

-- the last that was noted isn't free, and is forgotten
pub noted_fewer : {L : Type 0} (xs : List (Option (Connection L))) (free rest : List ℕ) (place : ℕ) → free ≡ rest ++ place ∷ [] → (slice_get xs place ≡ Some None → ⊥) → AreNoted xs free → AreNoted xs rest
noted_fewer {L = L} xs free rest place split taken noted k is =
    elim (Contains-push_cases rest place k (subst (λ (t : List ℕ). Contains t k) split (noted k is))) [
      | inl h ↦ h
      | inr e ↦ absurd (taken (subst (λ (i : ℕ). slice_get xs i ≡ Some None) (sym e) is))
    ]

-- the last ones are put before all others
pub noted_put_off : {L : Type 0} (xs : List (Option (Connection L))) (free : List ℕ) (n : ℕ) → AreNoted xs free → AreNoted xs (drop n free ++ take n free)
noted_put_off {L = L} xs free n noted k is =
    elim (Contains-append_cases (take n free) (drop n free) k (subst (λ (t : List ℕ). Contains t k) (sym (take-append-drop n free)) (noted k is))) [
      | inl first ↦ Contains-append_right (drop n free) (take n free) k first
      | inr last ↦ Contains-append_left (drop n free) (take n free) k last
    ]

-- a place is freed, and noted
pub noted_more : {L : Type 0} (xs ys : List (Option (Connection L))) (free more : List ℕ) (place : ℕ) → ys ≡ slice_set xs place None → more ≡ free ++ place ∷ [] → AreNoted xs free → AreNoted ys more
noted_more {L = L} xs ys free more place set push noted k is =
    subst (λ (t : List ℕ). Contains t k) (sym push)
    (elim (cases_eq place k) [
      | inl e ↦ subst (λ (i : ℕ). Contains (free ++ place ∷ []) i) e (Contains-push free place)
      | inr ne ↦ Contains-append_left free (place ∷ []) k (noted k (sym (get_set_other xs place k None ne) ∙ ap (λ (u : List (Option (Connection L))). slice_get u k) (sym set) ∙ is))
    ])

nothing_noted : {A : Type 0} (x : A) → Contains [] x → ⊥
nothing_noted x (i, lt, e) = absurd (omega (arith, lt))

-- where none is noted, none is free
pub none_noted : {L : Type 0} (xs : List (Option (Connection L))) (free : List ℕ) → free ≡ [] → AreNoted xs free → AreTaken xs
none_noted xs free none noted k is = nothing_noted k (subst (λ (t : List ℕ). Contains t k) none (noted k is))

-- no place was noted last
pub noted_same : {L : Type 0} (xs : List (Option (Connection L))) (free rest : List ℕ) → rest ≡ free → AreNoted xs free → AreNoted xs rest
noted_same {L = L} xs free rest same noted k is = subst (λ (t : List ℕ). Contains t k) (sym same) (noted k is)

-- all places are noted
pub all_noted : {L : Type 0} (xs : List (Option (Connection L))) (free : List ℕ) (n : ℕ) → length xs ≡ n → ((k : ℕ) → k < n → Contains free k) → AreNoted xs free
all_noted xs free n len h k is = h k (let lt = got_within xs k None is in omega (arith, lt, len))

nowhere : {A : Type 0} (x : A) → None ≡ Some x → ⊥
nowhere x e = cc

free_after : {L : Type 0} (seen : L → ReadyValue) (more : List Exchange) (x y : Place L) → PlaceTurned seen more x y → y ≡ Some None → x ≡ Some None
free_after {L = L} seen more None y h free = absurd (nowhere None (sym h.0 ∙ free))
free_after seen more (Some None) y h free = refl
free_after seen more (Some (Some c)) None h free = absurd h
free_after seen more (Some (Some c)) (Some None) h free = absurd h
free_after seen more (Some (Some c)) (Some (Some d)) h free = absurd cc

-- turns free no place
pub noted_turned : {L : Type 0} {P : Type 0} (seen : L → ReadyValue) (steps : ℕ → P → Op → Reply → P → Type 0) (old : List (Option (Connection L))) (p : P) (new : List (Option (Connection L))) (q : P) (free : List ℕ) → ((log : List Entry) × Turns seen steps log old p new q) → AreNoted old free → AreNoted new free
noted_turned seen steps old p new q free h noted k is = noted k (free_after seen (only k h.0) (slice_get old k) (slice_get new k) (h.1.places k) is)

-- ## Who stays

pub stays_on : {L : Type 0} (seen : L → ReadyValue) (x y : Place L) → Closed seen x y → GoesOn seen x → GoesOn seen y
stays_on seen x y h on c is = elim h [
  | inl e ↦ on c (sym e ∙ is)
  | inr m ↦ absurd (no_one c y m.3 is)
]

-- whoever stands there was found not to be over
pub same_on : {L : Type 0} (seen : L → ReadyValue) (xs ys : List (Option (Connection L))) (place : ℕ) → ys ≡ xs → GoesOn seen (slice_get xs place) → GoesOn seen (slice_get ys place)
same_on {L = L} seen xs ys place same on = subst (λ (u : List (Option (Connection L))). GoesOn seen (slice_get u place)) (sym same) on

-- nobody stands at a place that was freed
pub freed_on : {L : Type 0} (seen : L → ReadyValue) (xs ys : List (Option (Connection L))) (place : ℕ) (c : Connection L) → slice_get xs place ≡ Some (Some c) → ys ≡ slice_set xs place None → GoesOn seen (slice_get ys place)
freed_on {L = L} seen xs ys place c was is d there =
    absurd (no_one d (slice_get ys place) (ap (λ (u : List (Option (Connection L))). slice_get u place) is ∙ get_set_same xs place None (got_within xs place (Some c) was)) there)

-- one place more
pub away_more : {L : Type 0} (seen : L → ReadyValue) (over : List ℕ) (i place : ℕ) (ys zs : List (Option (Connection L))) → take (i + 1) over ≡ take i over ++ place ∷ []
    → ((k : ℕ) → Contains (take i over) k → GoesOn seen (slice_get ys k)) → ((k : ℕ) → Closed seen (slice_get ys k) (slice_get zs k)) → GoesOn seen (slice_get zs place) → (k : ℕ) → Contains (take (i + 1) over) k → GoesOn seen (slice_get zs k)
away_more {L = L} seen over i place ys zs next away closed here k h =
    elim (Contains-push_cases (take i over) place k (subst (λ (t : List ℕ). Contains t k) next h)) [
      | inl b ↦ stays_on seen (slice_get ys k) (slice_get zs k) (closed k) (away k b)
      | inr e ↦ subst (λ (j : ℕ). GoesOn seen (slice_get zs j)) e here
    ]

pub away_none : {L : Type 0} (seen : L → ReadyValue) (ys : List (Option (Connection L))) (k : ℕ) → Contains [] k → GoesOn seen (slice_get ys k)
away_none seen ys k h = absurd (nothing_noted k h)

-- whoever stands there and is over had no turn, and was there before
stood_before : {L : Type 0} (limit : ℕ) (seen : L → ReadyValue) (ready again over : List ℕ) (old turned closed : List (Option (Connection L)))
    → Rests limit seen ready again over old turned → ((k : ℕ) → Closed seen (slice_get turned k) (slice_get closed k)) → ((k : ℕ) → Contains over k → GoesOn seen (slice_get closed k))
    → (k : ℕ) (c : Connection L) → slice_get closed k ≡ Some (Some c) → IsOver (view seen c) → (Contains ready k → ⊥) × (slice_get old k ≡ Some (Some c))
stood_before seen_limit seen ready again over old turned closed rests leaves away k c is ended =
    elim (leaves k) [
      | inl e ↦ elim (rests k c (sym e ∙ is)) [
        | inl on ↦ absurd (on.0 ended)
        | inr more ↦ elim more [
          | inl o ↦ absurd (away k o.1 c is ended)
          | inr stood ↦ stood
        ]
      ]
      | inr m ↦ absurd (no_one c (slice_get closed k) m.3 is)
    ]

-- ## A round

-- that no free place is noted
pub taken_then : {L : Type 0} {P : Type 0} (seen : L → ReadyValue) (steps : ℕ → P → Op → Reply → P → Type 0) (old turned closed : List (Option (Connection L))) (p q : P) (free noted : List ℕ) → ((log : List Entry) × Turns seen steps log old p turned q)
    → (AreNoted turned free → AreNoted closed noted) → noted ≡ [] → AreNoted old free → AreTaken closed
taken_then seen steps old turned closed p q free noted turns closes none sound = none_noted closed noted none (closes (noted_turned seen steps old p turned q free turns sound))

pub round_of : {L : Type 0} {P : Type 0} {D : Type 0} (limit : ℕ) (seen : L → ReadyValue) (steps : ℕ → P → Op → Reply → P → Type 0) (nobody announces : D → Type 0) (now : ℕ) (old new : Doors L D) (p q : P) (turned closed left : List (Option (Connection L))) (over : List ℕ)
    → ((log : List Entry) × Turns seen steps log old.hall.places.places.items p turned q) → Rests limit seen new.ready.items new.again.items over old.hall.places.places.items turned
    → ((k : ℕ) → Closed seen (slice_get turned k) (slice_get closed k)) → ((k : ℕ) → Contains over k → GoesOn seen (slice_get closed k))
    → AreMarked now ((old.ready.items ++ old.hall.fresh.items) ++ new.ready.items) old.since.items new.since.items
    → ((left ≡ closed) ⊎ (MayWait announces old × (IsSound seen nobody old → AreTaken closed) × IsSentAway seen old.idle now new.since.items new.again.items closed left))
    → ((k : ℕ) → Given (slice_get left k) (slice_get new.hall.places.places.items k)) → OnlyAt new.hall.fresh.items left new.hall.places.places.items
    → (log : List Entry) × Round limit seen steps nobody announces now log old p new q
round_of limit seen steps nobody announces now old new p q turned closed left over turns rests leaves away marked room comes fresh = (
  turns.0,
  record {
    turned = turned;
    closed = closed;
    left = left;
    over = over;
    turns = turns.1;
    rests = rests;
    leaves = leaves;
    away = λ k had c is ended. (stood_before limit seen new.ready.items new.again.items over old.hall.places.places.items turned closed rests leaves away k c is ended).0 had;
    marked = marked;
    room = room;
    comes = comes;
    fresh = fresh;
  },
)

-- what made room, as a round tells it
pub room_of : {L : Type 0} {D : Type 0} (seen : L → ReadyValue) (nobody announces : D → Type 0) (now : ℕ) (old : Doors L D) (more : Bool) (noted since again : List ℕ) (closed left : List (Option (Connection L)))
    → (left ≡ closed) ⊎ ((more ≡ true) × (noted ≡ []) × IsSentAway seen old.idle now since again closed left) → (more ≡ true → MayWait announces old) → (noted ≡ [] → IsSound seen nobody old → AreTaken closed)
    → (left ≡ closed) ⊎ (MayWait announces old × (IsSound seen nobody old → AreTaken closed) × IsSentAway seen old.idle now since again closed left)
room_of seen nobody announces now old more noted since again closed left h may taken = elim h [
  | inl e ↦ inl e
  | inr m ↦ inr (may m.0, taken m.1, m.2)
]

open_failed : Open None ≡ Failed → ⊥
open_failed e = cc

open_ends : true ≡ false → ⊥
open_ends e = cc

new_goes_on : {L : Type 0} (seen : L → ReadyValue) (line : L) (c : Connection L) → IsNew line c → IsOver (view seen c) → ⊥
new_goes_on seen line c new h = elim h [
  | inl e ↦ open_failed (sym new.3 ∙ e)
  | inr e ↦ open_ends (ap is_open (sym new.3) ∙ e.0)
]

some_one : {A : Type 0} (x y : A) → Some (Some x) ≡ Some (Some y) → x ≡ y
some_one x y e = cc

-- no connection is over behind a round, if none was before
pub all_go_on : {L : Type 0} (limit : ℕ) (seen : L → ReadyValue) (old turned closed left new : List (Option (Connection L))) (ready again over : List ℕ) → Rests limit seen ready again over old turned
    → ((k : ℕ) → Closed seen (slice_get turned k) (slice_get closed k)) → ((k : ℕ) → Contains over k → GoesOn seen (slice_get closed k)) → ((k : ℕ) → Vacated (slice_get closed k) (slice_get left k))
    → ((k : ℕ) → Given (slice_get left k) (slice_get new k)) → AllGoOn seen old → AllGoOn seen new
all_go_on {L = L} limit seen old turned closed left new ready again over rests leaves away vacates comes on k c is ended =
    elim (comes k) [
      | inl e ↦ elim (vacates k) [
        | inl f ↦ on k c (stood_before limit seen ready again over old turned closed rests leaves away k c (sym f ∙ sym e ∙ is) ended).1 ended
        | inr m ↦ absurd (no_one c (slice_get left k) m.2 (sym e ∙ is))
      ]
      | inr m ↦ new_goes_on seen m.0 m.1 m.2 (subst (λ (d : Connection L). IsOver (view seen d)) (some_one c m.1 (sym is ∙ m.4)) ended)
    ]

nobody_at : {L : Type 0} (places : List (Option (Connection L))) (k : ℕ) (c : Connection L) → All (λ (x : Option (Connection L)). x ≡ None) places → slice_get places k ≡ Some (Some c) → ⊥
nobody_at [] k c free is = absurd cc
nobody_at {L = L} (x ∷ places) zero c free is = let none = All-head (λ (y : Option (Connection L)). y ≡ None) x places free in absurd cc
nobody_at {L = L} (x ∷ places) (suc k) c free is = nobody_at places k c (All-tail (λ (y : Option (Connection L)). y ≡ None) x places free) is

-- where all places are free
pub none_stand : {L : Type 0} (seen : L → ReadyValue) (places : List (Option (Connection L))) → All (λ (x : Option (Connection L)). x ≡ None) places → AllGoOn seen places
none_stand seen places free k c is over = nobody_at places k c free is

-- ## What is said

ok_err : {T E : Type 0} (x : T) (e : E) → Ok x ≡ Err e → ⊥
ok_err x e h = cc

-- turns that weren't refused had settled, whatever comes of the round
pub settled_on : {L P K T U : Type 0} (seen : L → ReadyValue) (kept : P → K) (settles : P → Result (Unit {0}) Fault → P → Type 0) (old : List (Option (Connection L))) (p : P) (turned new : List (Option (Connection L))) (q : P) (x : T) (r : Result U Fault) → SettledFirst seen kept settles old p turned q (Ok x) → SettledFirst seen kept settles old p new q r
settled_on seen kept settles old p turned new q x r h = (
  h.0,
  h.1,
  elim h.2 [
    | inl s ↦ inl s
    | inr m ↦ absurd (ok_err x m.0 m.3)
  ],
)

-- ## How many places there are

abbrev Agree : {A : Type 0} → Option A → Option A → Type 0
Agree None None = Unit {0}
Agree None (Some y) = ⊥
Agree (Some x) None = ⊥
Agree (Some x) (Some y) = Unit {0}

as_long : {A : Type 0} (xs ys : List A) → ((k : ℕ) → Agree (slice_get xs k) (slice_get ys k)) → length ys ≡ length xs
as_long [] [] h = refl
as_long [] (y ∷ ys) h = absurd (h 0)
as_long (x ∷ xs) [] h = absurd (h 0)
as_long (x ∷ xs) (y ∷ ys) h = ap suc (as_long xs ys (λ k. h (suc k)))

agree_same : {A : Type 0} (x : Option A) → Agree x x
agree_same None = tt
agree_same (Some x) = tt

agree_turned : {L : Type 0} (seen : L → ReadyValue) (more : List Exchange) (x y : Place L) → PlaceTurned seen more x y → Agree x y
agree_turned {L = L} seen more None y h = subst (λ (u : Place L). Agree None u) (sym h.0) tt
agree_turned {L = L} seen more (Some None) y h = subst (λ (u : Place L). Agree (Some None) u) (sym h.0) tt
agree_turned seen more (Some (Some c)) None h = absurd h
agree_turned seen more (Some (Some c)) (Some None) h = absurd h
agree_turned seen more (Some (Some c)) (Some (Some d)) h = tt

agree_closed : {L : Type 0} (seen : L → ReadyValue) (x y : Place L) → Closed seen x y → Agree x y
agree_closed {L = L} seen x y h = elim h [
  | inl e ↦ subst (λ (u : Place L). Agree x u) (sym e) (agree_same x)
  | inr m ↦ subst (λ (u : Place L). Agree u y) (sym m.1) (subst (λ (u : Place L). Agree (Some (Some m.0)) u) (sym m.3) tt)
]

agree_given : {L : Type 0} (x y : Place L) → Given x y → Agree x y
agree_given {L = L} x y h = elim h [
  | inl e ↦ subst (λ (u : Place L). Agree x u) (sym e) (agree_same x)
  | inr m ↦ subst (λ (u : Place L). Agree u y) (sym m.3) (subst (λ (u : Place L). Agree (Some None) u) (sym m.4) tt)
]

pub count_turned : {L : Type 0} {P : Type 0} (seen : L → ReadyValue) (steps : ℕ → P → Op → Reply → P → Type 0) (old : List (Option (Connection L))) (p : P) (new : List (Option (Connection L))) (q : P) → ((log : List Entry) × Turns seen steps log old p new q) → length new ≡ length old
count_turned seen steps old p new q h = as_long old new (λ k. agree_turned seen (only k h.0) (slice_get old k) (slice_get new k) (h.1.places k))

pub count_closed : {L : Type 0} (seen : L → ReadyValue) (old new : List (Option (Connection L))) → ((k : ℕ) → Closed seen (slice_get old k) (slice_get new k)) → length new ≡ length old
count_closed seen old new h = as_long old new (λ k. agree_closed seen (slice_get old k) (slice_get new k) (h k))

pub count_given : {L : Type 0} (old new : List (Option (Connection L))) → ((k : ℕ) → Given (slice_get old k) (slice_get new k)) → length new ≡ length old
count_given old new h = as_long old new (λ k. agree_given (slice_get old k) (slice_get new k) (h k))

agree_vacated : {L : Type 0} (x y : Place L) → Vacated x y → Agree x y
agree_vacated {L = L} x y h = elim h [
  | inl e ↦ subst (λ (u : Place L). Agree x u) (sym e) (agree_same x)
  | inr m ↦ subst (λ (u : Place L). Agree u y) (sym m.1) (subst (λ (u : Place L). Agree (Some (Some m.0)) u) (sym m.2) tt)
]

pub count_vacated : {L : Type 0} (old new : List (Option (Connection L))) → ((k : ℕ) → Vacated (slice_get old k) (slice_get new k)) → length new ≡ length old
count_vacated old new h = as_long old new (λ k. agree_vacated (slice_get old k) (slice_get new k) (h k))

-- Turns in two halves: what taking in noted, and what writing tells.
use Rattle.std.proofs.Common.{◌≡◌, ℕ, ◌+◌, ◌<◌, ◌≤◌, List, [], ◌∷◌, ◌++◌, length, take, drop, false, Option, Some, None, refl, sym, ap, subst, ◌∙◌, inl, inr, ◌⊎◌, arith}
use Rattle.std.specs.Prelude.{slice_get, slice_set, slice_index_or}
use Rattle.std.specs.List.{Contains}
use Rattle.std.proofs.lemmas.Bool.{cases_eq}
use Rattle.std.proofs.lemmas.List.{append-nil, take-append-drop}
use Rattle.std.proofs.lemmas.List.Elements.{Contains-push, Contains-push_cases, Contains-append_left}
use Rattle.messages.specs.declared.op.Op.{Op}
use Rattle.wire.specs.Replies.{Reply}
use Rattle.readiness.specs.declared.connection.Connection.{Connection}
use Rattle.readiness.specs.declared.connection.Stop.{Stop}
use Rattle.readiness.specs.declared.connection.Stop.TheVariants as stop
use Rattle.readiness.specs.declared.turning.After.{After}
use Rattle.readiness.specs.declared.turning.After.TheVariants.{Waits, Again, Over}
use Rattle.readiness.specs.Lines.{ReadyValue}
use Rattle.readiness.specs.Exchanges.{Exchange, Entry, only}
use Rattle.readiness.specs.Kept.{View, view}
use Rattle.readiness.specs.Turns.{Keeps, Flushed, IsOver, IsBounded, WaitsFor, TakesNoMore, StopsFor, HasStopped, IsLeft, is_open}
use Rattle.readiness.specs.Places.{PlaceTurned, Turns, Rests, StoppedAt, AreStopped, AreHeard, LeftAt, ToldAt, AreTold}
use Rattle.readiness.proofs.Lists.{get_set_same, get_set_other, set_set, got_within, place_is}
use Rattle.readiness.proofs.Turned.{extends-keeps}
use Rattle.readiness.proofs.Positions.{place-none, place-then}

-- ## Why taking in stopped

pub stops_so : (limit : ℕ) (s : Stop) (v : View) → StopsFor limit s v → HasStopped s v
stops_so limit stop.Dry v h = h
stops_so limit stop.Full v h = tt
stops_so limit stop.Over v h = h
stops_so limit stop.Spent v h = tt

closed_flushed : (v w : View) → Flushed v w → is_open v.stage ≡ false → is_open w.stage ≡ false
closed_flushed v w f h = elim f [
  | inl e ↦ ap is_open e
  | inr e ↦ e.0 ∙ h
]

stopped_flushed : (s : Stop) (v w : View) → w.line.dry ≡ v.line.dry → Flushed v w → HasStopped s v → HasStopped s w
stopped_flushed stop.Dry v w dry f h = dry ∙ h
stopped_flushed stop.Full v w dry f h = tt
stopped_flushed stop.Over v w dry f h = closed_flushed v w f h
stopped_flushed stop.Spent v w dry f h = tt

-- it holds still when something was written
pub stays_so : (s t : Stop) (v w : View) → t ≡ s → w.line.dry ≡ v.line.dry → Flushed v w → HasStopped s v → HasStopped t w
stays_so s t v w same dry f h = subst (λ (x : Stop). HasStopped x w) (sym same) (stopped_flushed s v w dry f h)

pub takes-dry : (limit : ℕ) (s : Stop) (v : View) → s ≡ stop.Dry → HasStopped s v → TakesNoMore limit v
takes-dry limit s v is h = inr (inl (subst (λ (x : Stop). HasStopped x v) is h))

pub takes-over : (limit : ℕ) (s : Stop) (v : View) → s ≡ stop.Over → HasStopped s v → TakesNoMore limit v
takes-over limit s v is h = inl (subst (λ (x : Stop). HasStopped x v) is h)

-- it waits for its line
pub waits_so : (limit : ℕ) (v w : View) → Flushed v w → (IsOver w → ⊥) → TakesNoMore limit w → WaitsFor limit w
waits_so limit v w f on none = (
  elim f [
    | inl e ↦ absurd (on (inl e))
    | inr e ↦ e.1
  ],
  none,
)

pub shrunk_bounded : (limit : ℕ) (v w : View) → length w.waiting ≤ length v.waiting → IsBounded limit v → IsBounded limit w
shrunk_bounded limit v w le h = omega (arith, le, h)

-- ## Who stands at a place

some_one : {A : Type 0} (x y : A) → Some (Some x) ≡ Some (Some y) → x ≡ y
some_one x y e = cc

some_none : {A : Type 0} (x : A) → Some None ≡ Some (Some x) → ⊥
some_none x e = cc

-- nobody does past the last place
pub nobody_past : {A : Type 0} (xs : List (Option A)) (at n : ℕ) (c : A) → n ≡ length xs → n ≤ at → slice_get xs at ≡ Some (Some c) → ⊥
nobody_past xs at n c len le is = let lt = got_within xs at (Some c) is in absurd (omega (arith, lt, le, len))

-- nobody does at a place that was found free
pub nobody_there : {A : Type 0} (old : List (Option A)) (at n : ℕ) (x left : Option A) (c : A) → n ≡ length old → at < n → x ≡ slice_index_or old at x → x ≡ None → left ≡ None → slice_get (slice_set old at left) at ≡ Some (Some c) → ⊥
nobody_there {A = A} old at n x left c len lt is none free there =
    some_none c (sym (ap (λ (u : Option A). slice_get (slice_set old at u) at) free ∙ get_set_same old at None (omega (arith, len, lt))) ∙ there)

put_back : {A : Type 0} (old : List (Option A)) (at n : ℕ) (left : Option A) (c d : A) → n ≡ length old → at < n → slice_get (slice_set (slice_set old at left) at (Some c)) at ≡ Some (Some d) → c ≡ d
put_back {A = A} old at n left c d len lt is =
    some_one c d (sym (ap (λ (u : List (Option A)). slice_get u at) (set_set old at left (Some c)) ∙ get_set_same old at (Some c) (omega (arith, len, lt))) ∙ is)

-- a connection that was put back has stopped
pub stopped_at : {L : Type 0} (seen : L → ReadyValue) (old : List (Option (Connection L))) (at n : ℕ) (left : Option (Connection L)) (d : Connection L)
    → n ≡ length old → at < n → HasStopped d.stop (view seen d) → StoppedAt seen (slice_set (slice_set old at left) at (Some d)) at
stopped_at {L = L} seen old at n left d len lt h c is = subst (λ (x : Connection L). HasStopped x.stop (view seen x)) (put_back old at n left d c len lt is) h

-- what a turn leaves of a connection that was put back
pub left_at : {L : Type 0} (limit : ℕ) (seen : L → ReadyValue) (old : List (Option (Connection L))) (at n : ℕ) (left : Option (Connection L)) (d : Connection L) (result : After)
    → n ≡ length old → at < n → IsLeft limit (view seen d) result → LeftAt limit seen (slice_set (slice_set old at left) at (Some d)) at result
left_at {L = L} limit seen old at n left d result len lt h c is = subst (λ (x : Connection L). IsLeft limit (view seen x) result) (put_back old at n left d c len lt is) h

-- who was found at a place had stopped
pub had_stopped : {L : Type 0} (seen : L → ReadyValue) (old : List (Option (Connection L))) (at n : ℕ) (x : Option (Connection L)) (c : Connection L)
    → n ≡ length old → at < n → x ≡ slice_index_or old at x → x ≡ Some c → StoppedAt seen old at → HasStopped c.stop (view seen c)
had_stopped seen old at n x c len lt is some h = h c (place_is old n at x (Some c) len lt is some)

-- ## What is written

pub written-same : {L : Type 0} (seen : L → ReadyValue) (old new : List (Option (Connection L))) → new ≡ old → (k : ℕ) → PlaceTurned seen [] (slice_get old k) (slice_get new k)
written-same {L = L} seen old new same k = subst (λ (u : List (Option (Connection L))). PlaceTurned seen [] (slice_get old k) (slice_get u k)) (sym same) (place-none seen (slice_get old k))

pub written-then : {L : Type 0} (seen : L → ReadyValue) (x y z : List (Option (Connection L))) → ((k : ℕ) → PlaceTurned seen [] (slice_get x k) (slice_get y k)) → ((k : ℕ) → PlaceTurned seen [] (slice_get y k) (slice_get z k))
    → (k : ℕ) → PlaceTurned seen [] (slice_get x k) (slice_get z k)
written-then seen x y z h j k = place-then seen [] [] (slice_get x k) (slice_get y k) (slice_get z k) (h k) (j k)

written_set : {L : Type 0} (seen : L → ReadyValue) (old : List (Option (Connection L))) (at : ℕ) (c d : Connection L) → slice_get old at ≡ Some (Some c) → Keeps (view seen c) (view seen d) → (k : ℕ) → PlaceTurned seen [] (slice_get old k) (slice_get (slice_set old at (Some d)) k)
written_set {L = L} seen old at c d was keeps k =
    elim (cases_eq at k) [
      | inl e ↦
          let here : slice_get (slice_set old at (Some d)) k ≡ Some (Some d) = subst (λ (i : ℕ). slice_get (slice_set old at (Some d)) i ≡ Some (Some d)) e (get_set_same old at (Some d) (got_within old at (Some c) was)) in
          let there : slice_get old k ≡ Some (Some c) = subst (λ (i : ℕ). slice_get old i ≡ Some (Some c)) e was in
          subst (λ (u : Option (Option (Connection L))). PlaceTurned seen [] u (slice_get (slice_set old at (Some d)) k)) (sym there)
          (subst (λ (u : Option (Option (Connection L))). PlaceTurned seen [] (Some (Some c)) u) (sym here) (extends-keeps (view seen c) (view seen d) keeps))
      | inr ne ↦ subst (λ (u : Option (Option (Connection L))). PlaceTurned seen [] (slice_get old k) u) (sym (get_set_other old at k (Some d) ne)) (place-none seen (slice_get old k))
    ]

-- a place is read and emptied, and the connection writes and is put back
pub written-at : {L : Type 0} (seen : L → ReadyValue) (old : List (Option (Connection L))) (at n : ℕ) (x left : Option (Connection L)) (c d : Connection L)
    → n ≡ length old → at < n → x ≡ slice_index_or old at x → x ≡ Some c → Keeps (view seen c) (view seen d) → (k : ℕ) → PlaceTurned seen [] (slice_get old k) (slice_get (slice_set (slice_set old at left) at (Some d)) k)
written-at {L = L} seen old at n x left c d len lt is some keeps k =
    subst (λ (u : List (Option (Connection L))). PlaceTurned seen [] (slice_get old k) (slice_get u k)) (sym (set_set old at left (Some d))) (written_set seen old at c d (place_is old n at x (Some c) len lt is some) keeps k)

-- turns, behind which the port has settled, and what waits is written
pub turns-written : {L : Type 0} {P : Type 0} (seen : L → ReadyValue) (steps : ℕ → P → Op → Reply → P → Type 0) (old : List (Option (Connection L))) (p : P) (mid : List (Option (Connection L))) (q : P) (new : List (Option (Connection L))) (r : P)
    → ((log : List Entry) × Turns seen steps log old p mid q) → r ≡ q → ((k : ℕ) → PlaceTurned seen [] (slice_get mid k) (slice_get new k)) → (log : List Entry) × Turns seen steps log old p new r
turns-written {L = L} {P = P} seen steps old p mid q new r h same written =
    subst (λ (u : P). (log : List Entry) × Turns seen steps log old p new u) (sym same) (
      h.0,
      record {
        chain = h.1.chain;
        places = λ j. subst (λ (u : List Exchange). PlaceTurned seen u (slice_get old j) (slice_get new j)) (append-nil (only j h.0)) (place-then seen (only j h.0) [] (slice_get old j) (slice_get mid j) (slice_get new j) (h.1.places j) (written j));
      },
    )

-- ## At which places

nothing_in : (k : ℕ) → Contains [] k → ⊥
nothing_in k (i, lt, e) = absurd (omega (arith, lt))

in_more : (some : List ℕ) (place k : ℕ) → (place ≡ k → ⊥) → (Contains some k → ⊥) → Contains (some ++ place ∷ []) k → ⊥
in_more some place k ne none h = elim (Contains-push_cases some place k h) [
  | inl b ↦ none b
  | inr e ↦ ne e
]

-- the place that comes next is one of them
pub comes_next : (ready : List ℕ) (i place : ℕ) → take (i + 1) ready ≡ take i ready ++ place ∷ [] → Contains ready place
comes_next ready i place next =
    let some : Contains (take (i + 1) ready) place = subst (λ (t : List ℕ). Contains t place) (sym next) (Contains-push (take i ready) place) in
    subst (λ (t : List ℕ). Contains t place) (take-append-drop (i + 1) ready) (Contains-append_left (take (i + 1) ready) (drop (i + 1) ready) place some)

pub heard-none : {L : Type 0} (seen : L → ReadyValue) (xs : List (Option (Connection L))) → AreHeard seen [] xs xs
heard-none seen xs k = inr (nothing_in k, refl)

pub heard-more : {L : Type 0} (seen : L → ReadyValue) (ready : List ℕ) (i place : ℕ) (old mid new : List (Option (Connection L))) → take (i + 1) ready ≡ take i ready ++ place ∷ [] → AreHeard seen (take i ready) old mid → StoppedAt seen new place
    → ((k : ℕ) → (place ≡ k → ⊥) → slice_get new k ≡ slice_get mid k) → AreHeard seen (take (i + 1) ready) old new
heard-more {L = L} seen ready i place old mid new next before here others =
    subst (λ (t : List ℕ). AreHeard seen t old new) (sym next)
    (λ k. elim (cases_eq place k) [
      | inl e ↦ inl (subst (λ (j : ℕ). Contains (take i ready ++ place ∷ []) j) e (Contains-push (take i ready) place), subst (λ (j : ℕ). StoppedAt seen new j) e here)
      | inr ne ↦ elim (before k) [
        | inl h ↦ inl (Contains-append_left (take i ready) (place ∷ []) k h.0, λ c is. h.1 c (sym (others k ne) ∙ is))
        | inr h ↦ inr (in_more (take i ready) place k ne h.0, others k ne ∙ h.1)
      ]
    ])

pub stopped-more : {L : Type 0} (seen : L → ReadyValue) (ready : List ℕ) (place : ℕ) (old new : List (Option (Connection L))) → AreStopped seen ready old → (StoppedAt seen old place → StoppedAt seen new place)
    → ((k : ℕ) → (place ≡ k → ⊥) → slice_get new k ≡ slice_get old k) → AreStopped seen ready new
stopped-more {L = L} seen ready place old new h stays others k has c is =
    elim (cases_eq place k) [
      | inl e ↦ stays (λ d there. h k has d (subst (λ (j : ℕ). slice_get old j ≡ Some (Some d)) e there)) c (subst (λ (j : ℕ). slice_get new j ≡ Some (Some c)) (sym e) is)
      | inr ne ↦ h k has c (sym (others k ne) ∙ is)
    ]

pub told-none : {L : Type 0} (limit : ℕ) (seen : L → ReadyValue) (again over : List ℕ) (xs : List (Option (Connection L))) → AreTold limit seen [] again over xs xs
told-none limit seen again over xs k = inr (nothing_in k, refl)

left_told : (limit : ℕ) (v : View) (result : After) (again over : List ℕ) (k : ℕ) → IsLeft limit v result → (result ≡ Again → Contains again k) → (result ≡ Over → Contains over k) → ((IsOver v → ⊥) × (WaitsFor limit v ⊎ Contains again k)) ⊎ (IsOver v × Contains over k)
left_told limit v Waits again over k h a o = inl (h.0, inl h.1)
left_told limit v Again again over k h a o = inl (h, inr (a refl))
left_told limit v Over again over k h a o = inr (h, o refl)

-- whatever was told is told still
told_still : {L : Type 0} (limit : ℕ) (seen : L → ReadyValue) (again more over most : List ℕ) (mid new : List (Option (Connection L))) (k : ℕ) → ((j : ℕ) → Contains again j → Contains more j) → ((j : ℕ) → Contains over j → Contains most j)
    → slice_get new k ≡ slice_get mid k → ToldAt limit seen again over mid k → ToldAt limit seen more most new k
told_still limit seen again more over most mid new k kept held same h c is =
    elim (h c (sym same ∙ is)) [
      | inl w ↦ elim w.1 [
        | inl s ↦ inl (w.0, inl s)
        | inr a ↦ inl (w.0, inr (kept k a))
      ]
      | inr o ↦ inr (o.0, held k o.1)
    ]

-- one place more
pub told-more : {L : Type 0} (limit : ℕ) (seen : L → ReadyValue) (ready : List ℕ) (i place : ℕ) (again more over most : List ℕ) (old mid new : List (Option (Connection L))) (result : After)
    → take (i + 1) ready ≡ take i ready ++ place ∷ []
    → AreTold limit seen (take i ready) again over old mid
    → LeftAt limit seen new place result
    → ((k : ℕ) → (place ≡ k → ⊥) → slice_get new k ≡ slice_get mid k)
    → ((k : ℕ) → Contains again k → Contains more k)
    → ((k : ℕ) → Contains over k → Contains most k)
    → (result ≡ Again → Contains more place)
    → (result ≡ Over → Contains most place)
    → AreTold limit seen (take (i + 1) ready) more most old new
told-more {L = L} limit seen ready i place again more over most old mid new result next before here others kept held told ended =
    subst (λ (t : List ℕ). AreTold limit seen t more most old new) (sym next)
    (λ k. elim (cases_eq place k) [
      | inl e ↦ inl (
        subst (λ (j : ℕ). Contains (take i ready ++ place ∷ []) j) e (Contains-push (take i ready) place),
        λ c is. left_told limit (view seen c) result more most k (here c (subst (λ (j : ℕ). slice_get new j ≡ Some (Some c)) (sym e) is)) (λ r. subst (λ (j : ℕ). Contains more j) e (told r)) (λ r. subst (λ (j : ℕ). Contains most j) e (ended r)),
      )
      | inr ne ↦ elim (before k) [
        | inl h ↦ inl (Contains-append_left (take i ready) (place ∷ []) k h.0, told_still limit seen again more over most mid new k kept held (others k ne) h.1)
        | inr h ↦ inr (in_more (take i ready) place k ne h.0, others k ne ∙ h.1)
      ]
    ])

pub stopped_of : {L : Type 0} (seen : L → ReadyValue) (ready : List ℕ) (old new : List (Option (Connection L))) → AreHeard seen ready old new → AreStopped seen ready new
stopped_of seen ready old new heard k has c is =
    elim (heard k) [
      | inl h ↦ h.1 c is
      | inr h ↦ absurd (h.0 has)
    ]

-- no readiness is lost
pub rests_of : {L : Type 0} (limit : ℕ) (seen : L → ReadyValue) (ready again over : List ℕ) (old mid new : List (Option (Connection L))) → AreHeard seen ready old mid → AreTold limit seen ready again over mid new → Rests limit seen ready again over old new
rests_of limit seen ready again over old mid new heard told k c is =
    elim (told k) [
      | inl t ↦ elim (t.1 c is) [
        | inl a ↦ inl a
        | inr o ↦ inr (inl o)
      ]
      | inr t ↦ elim (heard k) [
        | inl h ↦ absurd (t.0 h.0)
        | inr h ↦ inr (inr (h.0, sym h.1 ∙ (sym t.1 ∙ is)))
      ]
    ]

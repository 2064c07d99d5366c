-- Times that are noted for places, and who is sent away.
use Rattle.std.proofs.Common.{◌≡◌, ◌∙◌, ◌<◌, ◌+◌, ◌++◌, ◌∷◌, ℕ, List, [], take, length, Option, Some, None, sym, ap, subst, inl, inr, arith}
use Rattle.std.specs.Prelude.{◌⊎◌, slice_get, slice_set}
use Rattle.std.specs.List.{Contains}
use Rattle.std.proofs.lemmas.Bool.{cases_eq}
use Rattle.std.proofs.lemmas.List.Elements.{Contains-push, Contains-push_cases, Contains-append_left, Contains-append_right, Contains-append_cases}
use Rattle.readiness.proofs.Lists.{get_set_same, get_set_other, got_within}
use Rattle.readiness.specs.declared.connection.Connection.{Connection}
use Rattle.readiness.specs.Lines.{ReadyValue}
use Rattle.doors.specs.Silence.{AreMarked, IsSentAway}

nothing_in : (k : ℕ) → Contains [] k → ⊥
nothing_in k (i, lt, e) = absurd (omega (arith, lt))

-- nothing is noted
pub marked_none : (now : ℕ) (x : List ℕ) → AreMarked now [] x x
marked_none now x k last is = inr (nothing_in k, is)

in_more : (some : List ℕ) (place k : ℕ) → (place ≡ k → ⊥) → (Contains some k → ⊥) → Contains (some ++ place ∷ []) k → ⊥
in_more some place k ne none h = elim (Contains-push_cases some place k h) [
  | inl b ↦ none b
  | inr e ↦ ne e
]

noted_more : (now : ℕ) (some : List ℕ) (place : ℕ) (x y z : List ℕ) → AreMarked now some x y → ((last : ℕ) → slice_get z place ≡ Some last → last ≡ now) → ((k : ℕ) → (place ≡ k → ⊥) → slice_get z k ≡ slice_get y k)
    → AreMarked now (some ++ place ∷ []) x z
noted_more now some place x y z before here others k last is =
    elim (cases_eq place k) [
      | inl e ↦ inl (subst (λ (j : ℕ). Contains (some ++ place ∷ []) j) e (Contains-push some place), here last (subst (λ (j : ℕ). slice_get z j ≡ Some last) (sym e) is))
      | inr ne ↦ elim (before k last (sym (others k ne) ∙ is)) [
        | inl m ↦ inl (Contains-append_left some (place ∷ []) k m.0, m.1)
        | inr m ↦ inr (in_more some place k ne m.0, m.1)
      ]
    ]

-- one place more is noted
pub marked_more : (now : ℕ) (places : List ℕ) (i place : ℕ) (x y z : List ℕ) → take (i + 1) places ≡ take i places ++ place ∷ [] → AreMarked now (take i places) x y
    → ((last : ℕ) → slice_get z place ≡ Some last → last ≡ now) → ((k : ℕ) → (place ≡ k → ⊥) → slice_get z k ≡ slice_get y k) → AreMarked now (take (i + 1) places) x z
marked_more now places i place x y z next before here others =
    subst (λ (t : List ℕ). AreMarked now t x z) (sym next) (noted_more now (take i places) place x y z before here others)

some_is : (a b : ℕ) (u : Option ℕ) → u ≡ Some a → u ≡ Some b → b ≡ a
some_is a b u e f = cc

-- what is written at a place stands there
pub set_here : (y z : List ℕ) (place now : ℕ) → place < length y → z ≡ slice_set y place now → (last : ℕ) → slice_get z place ≡ Some last → last ≡ now
set_here y z place now lt set last is = some_is now last (slice_get z place) (ap (λ (u : List ℕ). slice_get u place) set ∙ get_set_same y place now lt) is

pub set_others : (y z : List ℕ) (place now : ℕ) → z ≡ slice_set y place now → (k : ℕ) → (place ≡ k → ⊥) → slice_get z k ≡ slice_get y k
set_others y z place now set k ne = ap (λ (u : List ℕ). slice_get u k) set ∙ get_set_other y place k now ne

-- nothing stands past the last place
pub past_here : (y : List ℕ) (place now : ℕ) → (place < length y → ⊥) → (last : ℕ) → slice_get y place ≡ Some last → last ≡ now
past_here y place now past last is = absurd (past (got_within y place last is))

-- some are noted, and then others
pub marked_then : (now : ℕ) (a b x y z : List ℕ) → AreMarked now a x y → AreMarked now b y z → AreMarked now (a ++ b) x z
marked_then now a b x y z h j k last is = elim (j k last is) [
  | inl m ↦ inl (Contains-append_right a b k m.0, m.1)
  | inr m ↦ elim (h k last m.1) [
    | inl n ↦ inl (Contains-append_left a b k n.0, n.1)
    | inr n ↦ inr (
      λ has. elim (Contains-append_cases a b k has) [
        | inl l ↦ n.0 l
        | inr r ↦ m.0 r
      ],
      n.1,
    )
  ]
]

-- a place stays as it is; or a connection stood there, and nobody does
abbrev pub Vacated : {L : Type 0} → Option (Option (Connection L)) → Option (Option (Connection L)) → Type 0
Vacated {L = L} before after = (after ≡ before) ⊎ ((c : Connection L) × (before ≡ Some (Some c)) × (after ≡ Some None))

vacated_at : {L : Type 0} (xs ys : List (Option (Connection L))) (place : ℕ) (c : Connection L) → slice_get xs place ≡ Some (Some c) → ys ≡ slice_set xs place None → (k : ℕ) → Vacated (slice_get xs k) (slice_get ys k)
vacated_at {L = L} xs ys place c was is k =
    subst (λ (zs : List (Option (Connection L))). Vacated (slice_get xs k) (slice_get zs k)) (sym is)
    (elim (cases_eq place k) [
      | inl e ↦
          let here : slice_get (slice_set xs place None) k ≡ Some None = subst (λ (i : ℕ). slice_get (slice_set xs place None) i ≡ Some None) e (get_set_same xs place None (got_within xs place (Some c) was)) in
          inr (c, subst (λ (i : ℕ). slice_get xs i ≡ Some (Some c)) e was, here)
      | inr ne ↦ inl (get_set_other xs place k None ne)
    ])

-- where one was sent away, or nobody was
pub vacated : {L : Type 0} {A : Type 0} {B : Type 0} (seen : L → ReadyValue) (idle : Option ℕ) (now : ℕ) (since again : List ℕ) (xs ys : List (Option (Connection L))) → (ys ≡ xs) ⊎ (A × B × IsSentAway seen idle now since again xs ys)
    → (k : ℕ) → Vacated (slice_get xs k) (slice_get ys k)
vacated {L = L} seen idle now since again xs ys h k = elim h [
  | inl e ↦ inl (ap (λ (u : List (Option (Connection L))). slice_get u k) e)
  | inr m ↦ vacated_at xs ys m.2.place m.2.connection m.2.stood m.2.left k
]

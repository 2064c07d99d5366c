-- Those who stood at places are gone.
use Rattle.std.proofs.Common.{◌≡◌, ◌∙◌, ◌<◌, ◌+◌, ℕ, List, [], ◌∷◌, ◌++◌, take, length, slice_get, Option, Some, None, inl, inr, refl, sym, ap, subst, arith}
use Rattle.std.specs.Prelude.{◌⊎◌, get_or, Contains}
use Rattle.std.proofs.lemmas.Bool.{cases_eq}
use Rattle.std.proofs.lemmas.Option.{slice_get_within, slice_get-get_or}
use Rattle.std.proofs.lemmas.List.Elements.{Contains-push, Contains-push_cases, Contains-append_left}
use Rattle.messages.specs.declared.op.Op.{Op}
use Rattle.site.specs.Sites.{SiteValue}
use Rattle.site.specs.Ends.{op_at}
use Rattle.site_port.specs.declared.waiting.Late.{Late}
use Rattle.site_port.specs.declared.waiting.Waiting.{Waiting}
use Rattle.site_port.specs.Port.{unasked, AreLeft, Holds}

nothing_in : (k : ℕ) → Contains [] k → ⊥
nothing_in k (i, lt, e) = absurd (omega (arith, lt))

in_more : (some : List ℕ) (place k : ℕ) → (place ≡ k → ⊥) → (Contains some k → ⊥) → Contains (some ++ place ∷ []) k → ⊥
in_more some place k ne none h = elim (Contains-push_cases some place k h) [
  | inl b ↦ none b
  | inr e ↦ ne e
]

unasked_twice : (w : Option Waiting) → unasked (unasked w) ≡ unasked w
unasked_twice None = refl
unasked_twice (Some w) = refl

-- nobody left
pub left_none : (x : List (Option Waiting)) → AreLeft [] x x
left_none x = (refl, λ k w at. inr (nothing_in k, at))

left_push : (some : List ℕ) (place : ℕ) (x y z : List (Option Waiting)) → AreLeft some x y → length z ≡ length y → ((w : Option Waiting) → slice_get y place ≡ Some w → slice_get z place ≡ Some (unasked w))
    → ((k : ℕ) → (place ≡ k → ⊥) → slice_get z k ≡ slice_get y k) → AreLeft (some ++ place ∷ []) x z
left_push some place x y z before count here others = (count ∙ before.0, λ k w at. at_place k w at)
  where
    here_at : (k : ℕ) (w : Option Waiting) → place ≡ k → slice_get y k ≡ Some w → slice_get z k ≡ Some (unasked w)
    here_at k w e is = subst (λ j. slice_get z j ≡ Some (unasked w)) e (here w (subst (λ j. slice_get y j ≡ Some w) (sym e) is))

    at_place : (k : ℕ) (w : Option Waiting) → slice_get x k ≡ Some w → (Contains (some ++ place ∷ []) k × (slice_get z k ≡ Some (unasked w))) ⊎ ((Contains (some ++ place ∷ []) k → ⊥) × (slice_get z k ≡ Some w))
    at_place k w at =
        elim (cases_eq place k) [
          | inl e ↦ inl (
            subst (λ (j : ℕ). Contains (some ++ place ∷ []) j) e (Contains-push some place),
            elim (before.1 k w at) [
              | inl m ↦ here_at k (unasked w) e m.1 ∙ ap Some (unasked_twice w)
              | inr m ↦ here_at k w e m.1
            ],
          )
          | inr ne ↦ elim (before.1 k w at) [
            | inl m ↦ inl (Contains-append_left some (place ∷ []) k m.0, others k ne ∙ m.1)
            | inr m ↦ inr (in_more some place k ne m.0, others k ne ∙ m.1)
          ]
        ]

-- one more left
pub left_more : (places : List ℕ) (i place : ℕ) (x y z : List (Option Waiting)) → take (i + 1) places ≡ take i places ++ place ∷ [] → AreLeft (take i places) x y → length z ≡ length y
    → ((w : Option Waiting) → slice_get y place ≡ Some w → slice_get z place ≡ Some (unasked w)) → ((k : ℕ) → (place ≡ k → ⊥) → slice_get z k ≡ slice_get y k) → AreLeft (take (i + 1) places) x z
left_more places i place x y z next before count here others = subst (λ (t : List ℕ). AreLeft t x z) (sym next) (left_push (take i places) place x y z before count here others)

unasked_op : (w : Option Waiting) (v : Waiting) → unasked w ≡ Some v → v.op ≡ None
unasked_op None v q = absurd (none_some q)
  where
    none_some : ◌≡◌ {A = Option Waiting} None (Some v) → ⊥
    none_some e = cc
unasked_op (Some w) v q = sym (ap op_of (inside q))
  where
    inside : ◌≡◌ {A = Option Waiting} (Some (record { number = w.number; op = None })) (Some v) → ◌≡◌ {A = Waiting} (record { number = w.number; op = None }) v
    inside e = cc

    op_of : Waiting → Option Op
    op_of z = z.op

no_op : (v : Waiting) (o : Op) → v.op ≡ None → v.op ≡ Some o → ⊥
no_op v o none some = cc

some_same : (w : Option Waiting) (v : Waiting) (y : Option (Option Waiting)) → y ≡ Some w → y ≡ Some (Some v) → w ≡ Some v
some_same w v y a b = cc

-- what is open was submitted still
pub holds_left : (site : SiteValue) (sessions : List ℕ) (x y : List (Option Waiting)) (late : List Late) (places : List ℕ) → Holds site sessions x late → AreLeft places x y → Holds site sessions y late
holds_left site sessions x y late places h l =
    record { sessions_are = h.sessions_are; places = l.0 ∙ h.places; submitted = λ p n v o at is has. still p n v o at is has; ended = h.ended }
  where
    still : (p n : ℕ) (v : Waiting) (o : Op) → slice_get sessions p ≡ Some n → slice_get y p ≡ Some (Some v) → v.op ≡ Some o → op_at site.story n v.number ≡ Some o
    still p n v o at is has =
        let lt : p < length x = subst (λ m. p < m) l.0 (slice_get_within y p (Some v) is) in
        let there : slice_get x p ≡ Some (get_or x p None) = slice_get-get_or x p None lt in
        elim (l.1 p (get_or x p None) there) [
          | inl m ↦ absurd (no_op v o (unasked_op (get_or x p None) v (some_same (unasked (get_or x p None)) v (slice_get y p) m.1 is)) has)
          | inr m ↦ h.submitted p n v o at (there ∙ ap Some (some_same (get_or x p None) v (slice_get y p) m.1 is)) has
        ]

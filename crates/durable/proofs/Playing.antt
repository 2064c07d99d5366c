-- Entries lead one way.
use Rattle.std.proofs.Common.{◌≡◌, ◌∙◌, ℕ, ◌<◌, List, [], ◌∷◌, ◌++◌, Option, Some, None, refl, ap, sym, subst}
use Rattle.messages.specs.Topology.{TopologyValue}
use Rattle.readiness.specs.Exchanges.{Entry as Exchanged}
use Rattle.world.specs.declared.run_event.RunEvent.{RunEvent}
use Rattle.world.specs.declared.run_event.RunEvent.TheVariants.{Deliver}
use Rattle.world.specs.Run.{Run, step, run, opening, continued}
use Rattle.world.specs.Journals.{IsBeginning}
use Rattle.world.specs.Lookups.{first_unhandled}
use Rattle.service.specs.Sessions.{SessionReplies}
use Rattle.service.proofs.Meant.{begins_so}
use Rattle.service.proofs.Together.{answered_later}
use Rattle.ledger.specs.declared.entry.Entry.{Entry}
use Rattle.durable.specs.Playing.{event_of, next_of, Plays, IsLed, Outlives}

-- what is next stays next, however many entries come behind
next_more : (top : TopologyValue) (w : Run) (f : Option ℕ) (es more rest : List Entry) (x : RunEvent) → next_of top w f es ≡ Some (x, rest) → next_of top w f (es ++ more) ≡ Some (x, rest ++ more)
next_more top w (Some k) es more rest x is = let p : (Deliver k, es) ≡ (x, rest) = some_is is in ap (λ (z : RunEvent × List Entry). Some (z.0, z.1 ++ more)) p
  where
    some_is : {X : Type 0} {a b : X} → Some a ≡ Some b → a ≡ b
    some_is h = cc
next_more top w None [] more rest x is = absurd (none_some is)
  where
    none_some : {X : Type 0} {b : X} → None ≡ Some b → ⊥
    none_some h = cc
next_more top w None (e ∷ es) more rest x is = let p : (event_of top w e, es) ≡ (x, rest) = some_is is in ap (λ (z : RunEvent × List Entry). Some (z.0, z.1 ++ more)) p
  where
    some_is : {X : Type 0} {a b : X} → Some a ≡ Some b → a ≡ b
    some_is h = cc

same_next : {X Y : Type 0} (o : Option (X × Y)) (x y : X) (r s : Y) → o ≡ Some (x, r) → o ≡ Some (y, s) → (y ≡ x) × (s ≡ r)
same_next {X = X} {Y = Y} o x y r s p q = let both : Some (y, s) ≡ Some (x, r) = sym q ∙ p in let pair : (y, s) ≡ (x, r) = some_is both in (ap (λ (z : X × Y). z.0) pair, ap (λ (z : X × Y). z.1) pair)
  where
    some_is : {Z : Type 0} {a b : Z} → Some a ≡ Some b → a ≡ b
    some_is h = cc

-- nothing is next of nothing
nothing_next : (top : TopologyValue) (w : Run) (x : RunEvent) (es rest : List Entry) → first_unhandled w ≡ None → es ≡ [] → next_of top w (first_unhandled w) es ≡ Some (x, rest) → ⊥
nothing_next top w x es rest quiet none is = none_some (sym (ap (λ (f : Option ℕ). next_of top w f es) quiet ∙ ap (next_of top w None) none) ∙ is)
  where
    none_some : {X : Type 0} {b : X} → None ≡ Some b → ⊥
    none_some h = cc

no_more : {X : Type 0} (xs ys : List X) → xs ++ ys ≡ [] → xs ≡ []
no_more [] ys is = refl
no_more (x ∷ xs) ys is = absurd cc

one_way_from : (top : TopologyValue) (w : Run) (xs ys : List RunEvent) (es more : List Entry) → Plays top w xs es → Plays top w ys (es ++ more) → first_unhandled (continued top w ys) ≡ None → IsBeginning xs ys
one_way_from top w [] ys es more p q quiet = (ys, refl)
one_way_from top w (x ∷ xs) [] es more p q quiet = absurd (nothing_next top w x es p.0 quiet (no_more es more q) p.1)
one_way_from top w (x ∷ xs) (y ∷ ys) es more p q quiet =
    let same = same_next (next_of top w (first_unhandled w) (es ++ more)) x y (p.0 ++ more) q.0 (next_more top w (first_unhandled w) es more p.0 x p.1) q.1 in
    let there : Plays top (step top w x) ys (p.0 ++ more) = subst (λ (r : List Entry). Plays top (step top w x) ys r) same.1 (subst (λ (z : RunEvent). Plays top (step top w z) ys q.0) same.0 q.2) in
    let ends : first_unhandled (continued top (step top w x) ys) ≡ None = subst (λ (z : RunEvent). first_unhandled (continued top (step top w z) ys) ≡ None) same.0 quiet in
    let rest = one_way_from top (step top w x) xs ys p.0 more p.2 there ends in
    (rest.0, ap (λ (z : RunEvent). z ∷ ys) same.0 ∙ ap (λ (l : List RunEvent). x ∷ l) rest.1)

-- what entries led to is a beginning of what they and more lead to, once all is handled
pub one_way : (top : TopologyValue) (before after : List RunEvent) (es more : List Entry) → IsLed top before es → IsLed top after (es ++ more) → first_unhandled (run top after) ≡ None → IsBeginning before after
one_way top before after es more p q quiet = one_way_from top (opening top) before after es more p q quiet

-- so all that was answered means its request there too
pub outlives : (top : TopologyValue) (before after : List RunEvent) (es more : List Entry) → 0 < top.shards → IsLed top before es → IsLed top after (es ++ more) → first_unhandled (run top after) ≡ None
    → Outlives top before after
outlives top before after es more some p q quiet =
    let begins = one_way top before after es more p q quiet in
    record {
      events = begins;
      answers = λ place from to o a b r.
          let one : Exchanged = record { place = place; exchange = record { asked = o; told = a } } in
          let k = answered_later top (run top before) some after from (one ∷ []) to (to, r, refl) (begins_so to before after b begins) in
          subst (λ (z : List RunEvent). SessionReplies top (run top after) place from o a z) k.2 k.1;
    }

-- ## Entries, and then more

pub plays_on : (top : TopologyValue) (w : Run) (xs ys : List RunEvent) (es fs : List Entry) → Plays top w xs es → Plays top (continued top w xs) ys fs → Plays top w (xs ++ ys) (es ++ fs)
plays_on top w [] ys es fs p q = subst (λ (l : List Entry). Plays top w ys (l ++ fs)) (sym p) q
plays_on top w (x ∷ xs) ys es fs p q = (p.0 ++ fs, next_more top w (first_unhandled w) es fs p.0 x p.1, plays_on top (step top w x) xs ys p.0 fs p.2 q)

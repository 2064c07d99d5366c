-- The rings to an actor, where one of them was looked at.
use Rattle.std.proofs.Common.{◌≡◌, ℕ, ◌+◌, ◌≤◌, ◌<◌, ◌⊎◌, List, ◌∷◌, [], length, set, get_or, ◌++◌, Option, Some, None, refl, ap, sym, subst, ◌∙◌, inl, inr, arith}
use Rattle.std.specs.Prelude.{All, IfSome, IsSome}
use Rattle.std.specs.List.{slice_get}
use Rattle.std.proofs.lemmas.Bool.{cases_lt}
use Rattle.std.proofs.lemmas.Bool.Decides.{eqb_tells}
use Rattle.messages.specs.declared.envelope.Envelope.{Envelope}
use Rattle.messages.specs.declared.event.ActorEvent.{ActorEvent}
use Rattle.messages.specs.declared.event.ActorEvent.TheVariants.{Handle}
use Rattle.links.specs.Links.{InLinkValue}
use Rattle.actors.specs.Seats.{SeatValue}
use Rattle.actors.specs.Resting.{WasEmpty}
use Rattle.actors.specs.Looking.{WereEmpty, IsFound, IsFoundInTurn, IsNext, IsNextOf}
use Rattle.actors.specs.Turns.{HasLooked}
use Rattle.actors.specs.declared.turn.Turn.TheVariants.{Handled}
use Rattle.actors.proofs.Lists.{all_of, set_at, set_here, set_away}
use Rattle.actors.proofs.Receiving.{source_at}

-- one that was looked at before
pub looked_before : (links : List InLinkValue) (first k : ℕ) (l : InLinkValue) → WereEmpty links first k → WereEmpty (set links k l) first k
looked_before links first k l before j m above below at =
    before j m above below (sym (set_away links k j l (λ is. absurd (omega (arith, is, below)))) ∙ at)

-- one more, in which nothing was found
pub looked_more : (links : List InLinkValue) (first k : ℕ) (l : InLinkValue) → k < length links → WereEmpty links first k → WasEmpty l
    → WereEmpty (set links k l) first (k + 1)
looked_more links first k l lt before empty j m above below at = elim (eqb_tells j k) [
  | inl same ↦
      let m_is : m ≡ l = set_here links k l m lt (subst (λ (i : ℕ). slice_get (set links k l) i ≡ Some m) same.1 at) in
      rw m_is empty
  | inr away ↦ before j m above (grind (arith, away.1, below)) (sym (set_away links k j l away.1) ∙ at)
]

-- those at other places
pub others_stay : (start links : List InLinkValue) (first end k : ℕ) (l : InLinkValue) → first ≤ k → k < end
    → ((j : ℕ) → (j < first) ⊎ (end ≤ j) → slice_get links j ≡ slice_get start j) → (j : ℕ) → (j < first) ⊎ (end ≤ j) → slice_get (set links k l) j ≡ slice_get start j
others_stay start links first end k l above below before j out =
    set_away links k j l (λ is. elim out [ inl low ↦ absurd (omega (arith, is, low, above)) | inr high ↦ absurd (omega (arith, is, high, below)) ]) ∙ before j out

-- the one in which an envelope was found
pub found_at : (links : List InLinkValue) (first end k next : ℕ) (d l : InLinkValue) (e : Envelope) → first ≤ k → k < end → k < length links → d ≡ get_or links k d → l.from ≡ d.from
    → e.from ≡ d.from → next ≡ k + 1 → WereEmpty links first k → IsFound (set links k l) first end next e
found_at links first end k next d l e above below lt is from of next_is before = record {
  place = k;
  above = above;
  below = below;
  from = source_at (set links k l) k l (set_at links k l lt) ∙ ap Some (from ∙ sym of);
  before = looked_before links first k l before;
  next = next_is;
}

-- the same, of what was taken there
pub popped_at : (links : List InLinkValue) (first end k next : ℕ) (d l : InLinkValue) (o : Option Envelope) → first ≤ k → k < end → k < length links → d ≡ get_or links k d → l.from ≡ d.from
    → IfSome o (λ e. e.from ≡ d.from) → next ≡ k + 1 → WereEmpty links first k → IfSome o (λ e. IsFound (set links k l) first end next e)
popped_at links first end k next d l None above below lt is from of next_is before = tt
popped_at links first end k next d l (Some e) above below lt is from of next_is before = found_at links first end k next d l e above below lt is from of next_is before

-- all of them were looked at, those before a place after the others
pub looked_at_all : (old new : List InLinkValue) (first count : ℕ) → length new ≡ count → WereEmpty old first count
    → ((j : ℕ) → (j < 0) ⊎ (first ≤ j) → slice_get new j ≡ slice_get old j) → WereEmpty new 0 first → All WasEmpty new
looked_at_all old new first count length_is high others low =
    all_of WasEmpty new (λ k l lt at. elim (cases_lt k first) [
      | inl below ↦ low k l (omega arith) below at
      | inr above ↦ high k l above (rw (← length_is) lt) (sym (others k (inr above)) ∙ at)
    ])

pub looked_up_to : (links : List InLinkValue) (first end place : ℕ) → end ≤ place → WereEmpty links first place → WereEmpty links first end
looked_up_to links first end place past before k l above below at = before k l above (omega (arith, below, past)) at

-- the next envelope, where one was held back or was looked for
pub next_held : (d n : SeatValue) → (d.held ≡ None → IfSome n.held (λ e. IsFoundInTurn n.incoming d.next n.next e)) → (IsSome d.held → n.held ≡ d.held)
    → IfSome n.held (λ e. IsNext d n e)
next_held d n found kept = by d.held n.held found kept
  where
    by : (o h : Option Envelope) → (o ≡ None → IfSome h (λ e. IsFoundInTurn n.incoming d.next n.next e)) → (IsSome o → h ≡ o) → IfSome h (λ e. IsNextOf o d n e)
    by None h found kept = found refl
    by (Some x) h found kept = rw (kept refl) refl

-- the same, seen from before and after steps that touch neither what is held nor the rings
next_from : (d s m n : SeatValue) (e : Envelope) → s.held ≡ d.held → s.next ≡ d.next → n.incoming ≡ m.incoming → n.next ≡ m.next → IsNext s m e → IsNext d n e
next_from d s m n e held place incoming after next = by d.held (subst (λ (o : Option Envelope). IsNextOf o s m e) held next)
  where
    by : (o : Option Envelope) → IsNextOf o s m e → IsNextOf o d n e
    by None found = rw (incoming, after, ← place) found
    by (Some x) is = is

-- it is handled
pub next_handled : (d s m n : SeatValue) → IsSome m.held → IfSome m.held (λ e. IsNext s m e) → IfSome m.held (λ e. n.journal ≡ m.journal ++ Handle e ∷ [])
    → s.held ≡ d.held → s.next ≡ d.next → m.journal ≡ d.journal → n.incoming ≡ m.incoming → n.next ≡ m.next → HasLooked Handled d n
next_handled d s m n some next event held place journal incoming after = by m.held some next event
  where
    by : (h : Option Envelope) → IsSome h → IfSome h (λ e. IsNext s m e) → IfSome h (λ e. n.journal ≡ m.journal ++ Handle e ∷ []) → HasLooked Handled d n
    by None some next event = absurd cc
    by (Some e) some next event =
        (e, event ∙ ap (λ (j : List ActorEvent). j ++ Handle e ∷ []) journal, next_from d s m n e held place incoming after next)

-- The links to an actor, where an envelope is taken from one.
use Rattle.std.proofs.Common.{◌≡◌, ℕ, zero, suc, ◌<◌, List, [], ◌∷◌, ◌++◌, length, get_or, set, Option, Some, None, refl, ap, sym, subst, ◌∙◌, inl, inr}
use Rattle.std.specs.Prelude.{◌≢◌, IfSome, IfNone}
use Rattle.std.specs.List.{slice_get}
use Rattle.std.proofs.lemmas.List.{append-nil}
use Rattle.std.proofs.Math.Seq.{map-set_same}
use Rattle.std.proofs.lemmas.Bool.Decides.{eqb_tells}
use Rattle.messages.specs.declared.envelope.Envelope.{Envelope}
use Rattle.messages.specs.declared.event.ActorEvent.{ActorEvent}
use Rattle.links.specs.Links.{InLinkValue}
use Rattle.actors.specs.Journals.{receipts_from, held_from}
use Rattle.actors.specs.Seats.{IsApart, Received, sources_of}
use Rattle.actors.proofs.Lists.{set_here, set_away, here}
use Rattle.actors.proofs.Sending.{test_true, test_false}

abbrev source : Option InLinkValue → Option ℕ
source None = None
source (Some l) = Some l.from

pub source_at : (links : List InLinkValue) (k : ℕ) (l : InLinkValue) → slice_get links k ≡ Some l → slice_get (sources_of links) k ≡ Some l.from
source_at [] k l at = absurd cc
source_at (m ∷ links) zero l at = ap (λ (o : Option InLinkValue). source o) at
source_at (m ∷ links) (suc k) l at = source_at links k l at

pub same_sources : (links : List InLinkValue) (k : ℕ) (d l : InLinkValue) → d ≡ get_or links k d → l.from ≡ d.from → sources_of (set links k l) ≡ sources_of links
same_sources links k d l is from = map-set_same (λ (x : InLinkValue). x.from) links k l d (from ∙ ap (λ (x : InLinkValue). x.from) is)

held_at : (n : ℕ) (e : Envelope) → e.from ≡ n → held_from n (Some e) ≡ e ∷ []
held_at n e at = rw (test_true e.from n at) refl

held_away : (n : ℕ) (e : Envelope) → e.from ≢ n → held_from n (Some e) ≡ []
held_away n e away = rw (test_false e.from n away) refl

pub polled : (links : List InLinkValue) (k : ℕ) (d l : InLinkValue) (e : Envelope) → k < length links → d ≡ get_or links k d → l.from ≡ d.from → l.received ≡ d.received ++ e ∷ [] → e.from ≡ d.from
    → (journal : List ActorEvent) → IsApart (sources_of links) → Received journal links None → Received journal (set links k l) (Some e)
polled links k d l e lt is from received of journal apart kept j m at =
    let d_at = here links k d lt is in
    elim (eqb_tells j k) [
      | inl same ↦
          let at_k : slice_get (set links k l) k ≡ Some m = subst (λ (i : ℕ). slice_get (set links k l) i ≡ Some m) same.1 at in
          let m_is : m ≡ l = set_here links k l m lt at_k in
          let old : d.received ≡ receipts_from d.from journal = kept k d d_at ∙ append-nil _ in
          let new : l.received ≡ receipts_from l.from journal ++ held_from l.from (Some e) = rw (received, from, old, held_at d.from e of) refl in
          rw m_is new
      | inr away ↦
          let at_j : slice_get links j ≡ Some m = sym (set_away links k j l away.1) ∙ at in
          let apart_from : e.from ≢ m.from = λ h. away.1 (apart j k d.from (source_at links j m at_j ∙ ap Some (sym h ∙ of)) (source_at links k d d_at)) in
          rw (held_away m.from e apart_from) (kept j m at_j)
    ]

-- where the same was taken from a link, the same was received
pub unpolled : (links : List InLinkValue) (k : ℕ) (d l : InLinkValue) → k < length links → d ≡ get_or links k d → l.from ≡ d.from → l.received ≡ d.received
    → (journal : List ActorEvent) (held : Option Envelope) → Received journal links held → Received journal (set links k l) held
unpolled links k d l lt is from received journal held kept j m at =
    let d_at = here links k d lt is in
    elim (eqb_tells j k) [
      | inl same ↦
          let at_k : slice_get (set links k l) k ≡ Some m = subst (λ (i : ℕ). slice_get (set links k l) i ≡ Some m) same.1 at in
          let m_is : m ≡ l = set_here links k l m lt at_k in
          let old : d.received ≡ receipts_from d.from journal ++ held_from d.from held = kept k d d_at in
          let new : l.received ≡ receipts_from l.from journal ++ held_from l.from held = rw (received, from, old) refl in
          rw m_is new
      | inr away ↦ kept j m (sym (set_away links k j l away.1) ∙ at)
    ]

-- where one envelope was taken from a link, or none
pub popped : (links : List InLinkValue) (k : ℕ) (d l : InLinkValue) (o : Option Envelope) → k < length links → d ≡ get_or links k d → l.from ≡ d.from
    → IfSome o (λ e. l.received ≡ d.received ++ e ∷ []) → IfSome o (λ e. e.from ≡ d.from) → IfNone o (l.received ≡ d.received)
    → (journal : List ActorEvent) → IsApart (sources_of links) → Received journal links None → Received journal (set links k l) o
popped links k d l None lt is from taken of none journal apart kept = unpolled links k d l lt is from none journal None kept
popped links k d l (Some e) lt is from taken of none journal apart kept = polled links k d l e lt is from taken of journal apart kept

-- What a turn tells of an event.
use Rattle.std.proofs.Common.{◌≡◌, ◌∙◌, ℕ, Bool, true, false, List, [], ◌∷◌, ◌++◌, Option, Some, None, ◌⊎◌, inl, inr, refl, sym, ap, subst}
use Rattle.logical_time.specs.declared.fault.Fault.{Fault}
use Rattle.logical_time.specs.declared.fault.Fault.TheVariants.{Memory, StrangerEnd}
use Rattle.messages.specs.declared.envelope.Envelope.{Envelope}
use Rattle.messages.specs.declared.outcome.Outcome.{Outcome}
use Rattle.messages.specs.declared.event.ActorEvent.TheVariants.{Handle}
use Rattle.messages.specs.Topology.{TopologyValue}
use Rattle.actors.specs.Machines.{Refuses}
use Rattle.site.specs.Story.{Story, Happening, Did, arrivals, handled, journal}
use Rattle.site.specs.Sites.{SiteValue}
use Rattle.site.specs.Turns.{goes_on, is_sound, HasDone, IsFirst, turn_of, HasTurned, IsTurnRefused}
use Rattle.site.proofs.Values.{site}

-- the value after an event
event_value : (top2 top : TopologyValue) (dc2 dc : ℕ) (b sound : Bool) (s s2 : Story) (h : Happening) (now : SiteValue) → top2 ≡ top → dc2 ≡ dc → b ≡ sound → site top dc sound s ≡ now → s2 ≡ s ++ h ∷ []
    → site top2 dc2 b s2 ≡ goes_on now h
event_value top2 top dc2 dc b sound s s2 h now t d q is told =
    ap (λ z. site z dc2 b s2) t ∙ ap (λ z. site top z b s2) d ∙ ap (λ z. site top dc z s2) q ∙ ap (λ z. site top dc sound z) told ∙ ap (λ v. goes_on v h) is

module _ (top2 top : TopologyValue) (dc2 dc : ℕ) (sound : Bool) (s : Story) (now : SiteValue) (t : top2 ≡ top) (d : dc2 ≡ dc) (is : site top dc sound s ≡ now) (good : sound ≡ true)
    (e : Envelope) (rest : List Envelope) (first : arrivals top dc s ≡ handled s ++ e ∷ rest) where
  is_first : IsFirst now e
  is_first = (rest, subst (λ (v : SiteValue). arrivals v.top v.dc v.story ≡ handled v.story ++ e ∷ rest) is first)

  now_good : now.sound ≡ true
  now_good = sym (ap (λ (v : SiteValue). v.sound) is) ∙ good

  module _ (b : Bool) (s2 : Story) (sends : List Envelope) (ended : Option (ℕ × Outcome)) (told : s2 ≡ s ++ Did e.to (Handle e) sends ended ∷ []) (tested : b ≡ is_sound s e.to (Handle e) sends) where
    pub turned : (answer : _) → answer ≡ turn_of e.to ended → b ≡ true → HasTurned now answer (site top2 dc2 b s2)
    turned answer told_is all = subst (λ z. HasTurned now z (site top2 dc2 b s2)) (sym told_is) (by ended done)
      where
        done : HasDone now e.to (Handle e) ended (site top2 dc2 b s2)
        done = (
          sends,
          subst (λ (v : SiteValue). is_sound v.story e.to (Handle e) sends ≡ true) is (sym tested ∙ all),
          event_value top2 top dc2 dc b sound s s2 (Did e.to (Handle e) sends ended) now t d (all ∙ sym good) is told,
        )

        by : (o : Option (ℕ × Outcome)) → HasDone now e.to (Handle e) o (site top2 dc2 b s2) → HasTurned now (turn_of e.to o) (site top2 dc2 b s2)
        by None h = (e.to, (e, is_first, refl, h))
        by (Some p) h = (e, is_first, refl, h)

    pub broken : (refuses : Refuses) → b ≡ false → IsTurnRefused refuses now StrangerEnd (site top2 dc2 b s2)
    broken refuses none = inr (
      e,
      is_first,
      inr (
        now_good,
        (
          refl,
          (
            sends,
            ended,
            subst (λ (v : SiteValue). is_sound v.story e.to (Handle e) sends ≡ false) is (sym tested ∙ none),
            ap (λ z. site z dc2 b s2) t ∙ ap (λ z. site top z b s2) d ∙ ap (λ z. site top dc z s2) none ∙ ap (λ z. site top dc false z) told
                ∙ ap (λ (v : SiteValue). record (goes_on v (Did e.to (Handle e) sends ended)) { sound = false }) is,
          ),
        ),
      ),
    )

  pub refused : (refuses : Refuses) (s2 : Story) (fault : Fault) → s2 ≡ s → ((fault ≡ Memory) ⊎ refuses top e.to (journal s e.to) (Handle e) fault) → IsTurnRefused refuses now fault (site top2 dc2 sound s2)
  refused refuses s2 fault told why = inr (
    e,
    is_first,
    inl (
      ap (λ z. site z dc2 sound s2) t ∙ ap (λ z. site top z sound s2) d ∙ ap (λ z. site top dc sound z) told ∙ is,
      inr (elim why [ inl memory ↦ inl memory | inr f ↦ inr (subst (λ (v : SiteValue). refuses v.top e.to (journal v.story e.to) (Handle e) fault) is f) ]),
    ),
  )

-- One thing more happens at one of the sites.
use Rattle.std.proofs.Common.{◌≡◌, ◌∙◌, ℕ, ◌<◌, Bool, true, false, ◌&&◌, List, [], ◌∷◌, ◌++◌, length, set, slice_get, Option, Some, None, inl, inr, refl, sym, ap, subst}
use Rattle.std.specs.Prelude.{◌==◌, filter_map, flat_map, option_to_list, Contains}
use Rattle.std.proofs.lemmas.Bool.Decides.{eqb_tells}
use Rattle.std.proofs.lemmas.List.{append-nil, length-set}
use Rattle.std.proofs.lemmas.List.Elements.{filter-append, Contains-append_left}
use Rattle.messages.specs.declared.envelope.Envelope.{Envelope}
use Rattle.messages.specs.Topology.{TopologyValue}
use Rattle.actors.specs.Journals.{IsBeginning}
use Rattle.actors.proofs.Lists.{set_at, set_away, set_here}
use Rattle.site.specs.Story.{Story, Happening, site_of, heard, heard_by, given, given_by, departures, departures_by}
use Rattle.site.specs.Sites.{SiteValue}
use Rattle.site.specs.Turns.{goes_on}
use Rattle.site.proofs.Lists.{old_or_last, mapped_more, flat_more}
use Rattle.sites.specs.Sites.{DoMeet}
use Rattle.by_sites.specs.Sites.{story_at, stories_of, AreSites}
use Rattle.by_sites.specs.Holds.{between, DidPass}
use Rattle.by_sites.proofs.Lists.{apart, filter_none, begins_more}

module _ (sites : List SiteValue) (p : ℕ) (d : SiteValue) (h : Happening) (lt : p < length sites) (at : slice_get sites p ≡ Some d) where
  abbrev pub was : ℕ → Story
  was dc = stories_of sites dc

  abbrev pub now : ℕ → Story
  now dc = stories_of (set sites p (goes_on d h)) dc

  -- at its place the story goes on
  pub here : now p ≡ was p ++ h ∷ []
  here = ap story_at (set_at sites p (goes_on d h) lt) ∙ ap (λ o. story_at o ++ h ∷ []) (sym at)

  -- and elsewhere nothing happened
  pub away : (dc : ℕ) → (dc ≡ p → ⊥) → now dc ≡ was dc
  away dc ne = ap story_at (set_away sites p dc (goes_on d h) ne)

  pub flat_grows : {X : Type 0} (f : Happening → List X) (dc : ℕ) (x : X) → Contains (flat_map f (was dc)) x → Contains (flat_map f (now dc)) x
  flat_grows f dc x has = elim (eqb_tells dc p) [
    | inl same ↦
        let more : flat_map f (now dc) ≡ flat_map f (was dc) ++ f h =
        ap (λ k. flat_map f (now k)) same.1 ∙ ap (flat_map f) here ∙ flat_more f (was p) h ∙ ap (λ k. flat_map f (was k) ++ f h) (sym same.1) in
        subst (λ l. Contains l x) (sym more) (Contains-append_left (flat_map f (was dc)) (f h) x has)
    | inr other ↦ subst (λ s. Contains (flat_map f s) x) (sym (away dc other.1)) has
  ]

  pub mapped_here : {X : Type 0} (f : Happening → Option X) (o : Option X) (dc : ℕ) → dc ≡ p → f h ≡ o → filter_map f (now dc) ≡ filter_map f (was dc) ++ option_to_list o
  mapped_here f o dc same is =
      ap (λ k. filter_map f (now k)) same ∙ ap (filter_map f) here ∙ mapped_more f (was p) h o is ∙ ap (λ k. filter_map f (was k) ++ option_to_list o) (sym same)

  pub mapped_same : {X : Type 0} (f : Happening → Option X) → f h ≡ None → (dc : ℕ) → filter_map f (now dc) ≡ filter_map f (was dc)
  mapped_same f none dc = elim (eqb_tells dc p) [
    | inl same ↦ mapped_here f None dc same.1 none ∙ append-nil (filter_map f (was dc))
    | inr other ↦ ap (filter_map f) (away dc other.1)
  ]

  pub begins_still : (dc : ℕ) (before : Story) → IsBeginning before (was dc) → IsBeginning before (now dc)
  begins_still dc before begun = elim (eqb_tells dc p) [
    | inl same ↦ subst (λ s. IsBeginning before s) (sym (ap now same.1 ∙ here)) (begins_more before (was p) (h ∷ []) (subst (λ k. IsBeginning before (was k)) same.1 begun))
    | inr other ↦ subst (λ s. IsBeginning before s) (sym (away dc other.1)) begun
  ]

  pub are_still : (top : TopologyValue) → AreSites top sites → AreSites top (set sites p (goes_on d h))
  are_still top are = record { count = length-set sites p (goes_on d h) ∙ are.count; each = each }
    where
      each : (dc : ℕ) (s : SiteValue) → slice_get (set sites p (goes_on d h)) dc ≡ Some s → (s.top ≡ top) × (s.dc ≡ dc)
      each dc s there = elim (eqb_tells dc p) [
        | inl same ↦
            let is : s ≡ goes_on d h = set_here sites p (goes_on d h) s lt (subst (λ k. slice_get (set sites p (goes_on d h)) k ≡ Some s) same.1 there) in
            let old = are.each p d at in
            (ap (λ (z : SiteValue). z.top) is ∙ old.0, ap (λ (z : SiteValue). z.dc) is ∙ old.1 ∙ sym same.1)
        | inr other ↦ are.each dc s (sym (set_away sites p dc (goes_on d h) other.1) ∙ there)
      ]

  -- ## What was sent and came

  module _ (top : TopologyValue) where
    departed : (dc : ℕ) (e : Envelope) → Contains (departures top dc (was dc)) e → Contains (departures top dc (now dc)) e
    departed dc e has = flat_grows (departures_by top dc) dc e has

    -- nothing came
    pub meet_same : heard_by h ≡ None → DoMeet top was → DoMeet top now
    meet_same none meet dc e below has =
        departed (site_of top e.from) e (meet dc e below (subst (λ l. Contains l e) (mapped_same heard_by none dc) has))

    -- this came, which was sent
    pub meet_more : (e : Envelope) → heard_by h ≡ Some e → Contains (departures top (site_of top e.from) (was (site_of top e.from))) e → DoMeet top was → DoMeet top now
    meet_more e is sent meet dc x below has = elim (eqb_tells dc p) [
      | inl same ↦ elim (old_or_last (heard (was dc)) e x (subst (λ l. Contains l x) (mapped_here heard_by (Some e) dc same.1 is) has)) [
        | inl old ↦ departed (site_of top x.from) x (meet dc x below old)
        | inr last ↦ subst (λ (z : Envelope). Contains (departures top (site_of top z.from) (now (site_of top z.from))) z) last (departed (site_of top e.from) e sent)
      ]
      | inr other ↦ departed (site_of top x.from) x (meet dc x below (subst (λ s. Contains (heard s) x) (away dc other.1) has))
    ]

    -- neither came or was given
    pub pass_same : (way : List Envelope) → heard_by h ≡ None → given_by h ≡ None → DidPass top was way → DidPass top now way
    pass_same way unheard ungiven passed from to =
        ap (λ l. between from to l ++ between from to way) (mapped_same heard_by unheard (site_of top to))
        ∙ passed from to ∙ ap (between from to) (sym (mapped_same given_by ungiven (site_of top from)))

    not_from : (from to : ℕ) (e : Envelope) → (e.from ≡ from → ⊥) → between from to (e ∷ []) ≡ []
    not_from from to e ne = filter_none (λ (z : Envelope). (z.from == from) && (z.to == to)) e (ap (λ b. b && (e.to == to)) (apart e.from from ne))

    not_to : (from to : ℕ) (e : Envelope) → (e.to ≡ to → ⊥) → between from to (e ∷ []) ≡ []
    not_to from to e ne = filter_none (λ (z : Envelope). (z.from == from) && (z.to == to)) e (by (e.from == from))
      where
        by : (b : Bool) → (b && (e.to == to)) ≡ false
        by true = apart e.to to ne
        by false = refl

    -- what is between two actors, with one more
    more_between : (from to : ℕ) (xs : List Envelope) (e : Envelope) → between from to (xs ++ e ∷ []) ≡ between from to xs ++ between from to (e ∷ [])
    more_between from to xs e = filter-append (λ (z : Envelope). (z.from == from) && (z.to == to)) xs (e ∷ [])

    -- this was given, and is under way
    pub pass_given : (e : Envelope) → heard_by h ≡ None → given_by h ≡ Some e → site_of top e.from ≡ p → DidPass top was [] → DidPass top now (e ∷ [])
    pass_given e unheard is its passed from to =
        ap (λ l. between from to l ++ between from to (e ∷ [])) (mapped_same heard_by unheard (site_of top to))
        ∙ ap (λ l. l ++ between from to (e ∷ [])) (sym (append-nil (between from to (heard (was (site_of top to))))) ∙ passed from to)
        ∙ sym grown
      where
        old : List Envelope
        old = given (was (site_of top from))

        grown : between from to (given (now (site_of top from))) ≡ between from to old ++ between from to (e ∷ [])
        grown = elim (eqb_tells (site_of top from) p) [
          | inl same ↦ ap (between from to) (mapped_here given_by (Some e) (site_of top from) same.1 is) ∙ more_between from to old e
          | inr other ↦
              ap (λ s. between from to (given s)) (away (site_of top from) other.1) ∙ sym (append-nil (between from to old))
              ∙ ap (λ l. between from to old ++ l) (sym (not_from from to e (λ q. other.1 (ap (site_of top) (sym q) ∙ its))))
        ]

    -- this was under way, and came
    pub pass_come : (e : Envelope) → heard_by h ≡ Some e → given_by h ≡ None → site_of top e.to ≡ p → DidPass top was (e ∷ []) → DidPass top now []
    pass_come e is ungiven its passed from to =
        append-nil (between from to (heard (now (site_of top to)))) ∙ grown ∙ passed from to ∙ ap (between from to) (sym (mapped_same given_by ungiven (site_of top from)))
      where
        old : List Envelope
        old = heard (was (site_of top to))

        grown : between from to (heard (now (site_of top to))) ≡ between from to old ++ between from to (e ∷ [])
        grown = elim (eqb_tells (site_of top to) p) [
          | inl same ↦ ap (between from to) (mapped_here heard_by (Some e) (site_of top to) same.1 is) ∙ more_between from to old e
          | inr other ↦
              ap (λ s. between from to (heard s)) (away (site_of top to) other.1) ∙ sym (append-nil (between from to old))
              ∙ ap (λ l. between from to old ++ l) (sym (not_to from to e (λ q. other.1 (ap (site_of top) (sym q) ∙ its))))
        ]

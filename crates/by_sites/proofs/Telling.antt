-- What is told of sessions as sites go on.
use Rattle.std.proofs.Common.{◌≡◌, ◌∙◌, ℕ, ◌<◌, true, false, cond, List, [], ◌∷◌, ◌++◌, map, length, slice_get, Option, Some, None, inl, inr, refl, sym, ap}
use Rattle.std.specs.Prelude.{◌==◌, filter, option_to_list}
use Rattle.std.proofs.lemmas.Bool.Decides.{eqb_tells}
use Rattle.std.proofs.lemmas.List.{append-nil}
use Rattle.std.proofs.lemmas.List.Elements.{filter-append}
use Rattle.messages.specs.declared.envelope.Envelope.{Envelope}
use Rattle.messages.specs.declared.outcome.Outcome.{Outcome}
use Rattle.messages.specs.declared.outcome.Outcome.TheVariants as outcome
use Rattle.messages.specs.declared.event.ActorEvent.{ActorEvent}
use Rattle.messages.specs.Topology.{TopologyValue}
use Rattle.site.specs.Story.{Happening, Did, site_of, end_of, outcomes}
use Rattle.site.specs.Sites.{SiteValue}
use Rattle.workload.specs.declared.transcript.Entry.{Entry}
use Rattle.workload.specs.Simulation.{is_outcome, is_refusal, entry_by}
use Rattle.by_sites.specs.Sites.{stories_of}
use Rattle.by_sites.specs.Asked.{session_in, told_of, entry_in, noted}
use Rattle.by_sites.specs.Holds.{AreTold}
use Rattle.by_sites.proofs.Lists.{map_more, self, apart, filter_one, filter_none}
use Rattle.by_sites.proofs.Growing.{now, mapped_here, mapped_same}

-- ## Entries

session_is : (node number : ℕ) (o : Outcome) → session_in (entry_by node number o) ≡ node
session_is node number (outcome.Wrote commit stamp) = refl
session_is node number (outcome.Read time answer) = refl
session_is node number outcome.Collected = refl
session_is node number (outcome.Moved dc floor) = refl

is_one : (node number : ℕ) (o : Outcome) → is_outcome (entry_by node number o) ≡ true
is_one node number (outcome.Wrote commit stamp) = refl
is_one node number (outcome.Read time answer) = refl
is_one node number outcome.Collected = refl
is_one node number (outcome.Moved dc floor) = refl

is_none : (node number : ℕ) (o : Outcome) → is_refusal (entry_by node number o) ≡ false
is_none node number (outcome.Wrote commit stamp) = refl
is_none node number (outcome.Read time answer) = refl
is_none node number outcome.Collected = refl
is_none node number (outcome.Moved dc floor) = refl

pub told_more : (node : ℕ) (entries more : List Entry) → told_of node (entries ++ more) ≡ told_of node entries ++ told_of node more
told_more node entries more = filter-append (λ e. session_in e == node) entries more

pub told_one : (node : ℕ) (e : Entry) → session_in e ≡ node → told_of node (e ∷ []) ≡ e ∷ []
told_one node e is = filter_one (λ x. session_in x == node) e (ap (λ n. n == node) is ∙ self node)

pub told_none : (node : ℕ) (e : Entry) → (session_in e ≡ node → ⊥) → told_of node (e ∷ []) ≡ []
told_none node e ne = filter_none (λ x. session_in x == node) e (apart (session_in e) node ne)

noted_here : (node : ℕ) (ended : Option (ℕ × Outcome)) → told_of node (noted node ended) ≡ noted node ended
noted_here node None = refl
noted_here node (Some o) = told_one node (entry_in node o) (session_is node o.0 o.1)

noted_outcomes : (node : ℕ) (ended : Option (ℕ × Outcome)) → filter is_outcome (noted node ended) ≡ map (entry_in node) (option_to_list ended)
noted_outcomes node None = refl
noted_outcomes node (Some o) = filter_one is_outcome (entry_in node o) (is_one node o.0 o.1)

pub noted_away : (n node : ℕ) (ended : Option (ℕ × Outcome)) → (n ≡ node → ⊥) → told_of node (noted n ended) ≡ []
noted_away n node None ne = refl
noted_away n node (Some o) ne = told_none node (entry_in n o) (λ q. ne (sym (session_is n o.0 o.1) ∙ q))

no_refusal : (node : ℕ) (ended : Option (ℕ × Outcome)) → filter is_refusal (noted node ended) ≡ []
no_refusal node None = refl
no_refusal node (Some o) = filter_none is_refusal (entry_in node o) (is_none node o.0 o.1)

-- what an event ended is no refusal
pub unrefused : (n node : ℕ) (ended : Option (ℕ × Outcome)) (entries : List Entry) → filter is_refusal (told_of node (entries ++ noted n ended)) ≡ filter is_refusal (told_of node entries)
unrefused n node ended entries =
    ap (filter is_refusal) (told_more node entries (noted n ended)) ∙ filter-append is_refusal (told_of node entries) (told_of node (noted n ended))
    ∙ ap (λ l. filter is_refusal (told_of node entries) ++ l) none ∙ append-nil (filter is_refusal (told_of node entries))
  where
    none : filter is_refusal (told_of node (noted n ended)) ≡ []
    none = elim (eqb_tells n node) [
      | inl same ↦ ap (λ k. filter is_refusal (told_of node (noted k ended))) same.1 ∙ ap (filter is_refusal) (noted_here node ended) ∙ no_refusal node ended
      | inr other ↦ ap (filter is_refusal) (noted_away n node ended other.1)
    ]

-- ## Outcomes

module _ (sites : List SiteValue) (p : ℕ) (d : SiteValue) (h : Happening) (lt : p < length sites) (at : slice_get sites p ≡ Some d) (top : TopologyValue) (entries : List Entry) where
  -- nothing ended
  pub told_same : ((node : ℕ) → end_of node h ≡ None) → AreTold top (stories_of sites) entries → AreTold top (now sites p d h lt at) entries
  told_same none told node = told node ∙ ap (map (entry_in node)) (sym (mapped_same sites p d h lt at (end_of node) (none node) (site_of top node)))

module _ (sites : List SiteValue) (p : ℕ) (d : SiteValue) (n : ℕ) (x : ActorEvent) (sends : List Envelope) (ended : Option (ℕ × Outcome))
    (lt : p < length sites) (at : slice_get sites p ≡ Some d) (top : TopologyValue) (its : site_of top n ≡ p) (entries : List Entry) where
  abbrev pub h : Happening
  h = Did n x sends ended

  -- an event of an actor ended this, which is told
  pub told_did : AreTold top (stories_of sites) entries → AreTold top (now sites p d h lt at) (entries ++ noted n ended)
  told_did told node = elim (eqb_tells n node) [ inl same ↦ this same.1 | inr other ↦ another other.1 ]
    where
      this : n ≡ node → filter is_outcome (told_of node (entries ++ noted n ended)) ≡ map (entry_in node) (outcomes (now sites p d h lt at (site_of top node)) node)
      this same =
          let there : site_of top node ≡ p = ap (site_of top) (sym same) ∙ its in
          let one : end_of node h ≡ ended = ap (λ b. cond b ended None) (ap (λ k. k == node) same ∙ self node) in
          let old = outcomes (stories_of sites (site_of top node)) node in
          ap (filter is_outcome) (told_more node entries (noted n ended))
          ∙ filter-append is_outcome (told_of node entries) (told_of node (noted n ended))
          ∙ ap (λ l. l ++ filter is_outcome (told_of node (noted n ended))) (told node)
          ∙ ap (λ k. map (entry_in node) old ++ filter is_outcome (told_of node (noted k ended))) same
          ∙ ap (λ l. map (entry_in node) old ++ filter is_outcome l) (noted_here node ended)
          ∙ ap (λ l. map (entry_in node) old ++ l) (noted_outcomes node ended)
          ∙ sym (map_more (entry_in node) old (option_to_list ended))
          ∙ ap (map (entry_in node)) (sym (mapped_here sites p d h lt at (end_of node) ended (site_of top node) there one))

      another : (n ≡ node → ⊥) → filter is_outcome (told_of node (entries ++ noted n ended)) ≡ map (entry_in node) (outcomes (now sites p d h lt at (site_of top node)) node)
      another ne =
          let none : end_of node h ≡ None = ap (λ b. cond b ended None) (apart n node ne) in
          ap (filter is_outcome) (told_more node entries (noted n ended))
          ∙ ap (λ l. filter is_outcome (told_of node entries ++ l)) (noted_away n node ended ne)
          ∙ ap (filter is_outcome) (append-nil (told_of node entries))
          ∙ told node ∙ ap (map (entry_in node)) (sym (mapped_same sites p d h lt at (end_of node) none (site_of top node)))

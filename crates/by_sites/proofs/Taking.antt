-- What becomes of what was asked as sites go on.
use Rattle.std.proofs.Common.{◌≡◌, ◌∙◌, ℕ, ◌<◌, cond, List, [], ◌∷◌, ◌++◌, map, length, slice_get, Option, Some, None, inl, inr, refl, sym, ap, subst}
use Rattle.std.specs.Prelude.{◌==◌, filter, filter_map, option_to_list, Contains}
use Rattle.std.specs.Option.{is_none}
use Rattle.std.proofs.lemmas.Bool.Decides.{eqb_tells}
use Rattle.std.proofs.lemmas.List.{append-nil}
use Rattle.std.proofs.lemmas.List.Elements.{filter-append, filter_map-append, Contains-append_cases}
use Rattle.logical_time.specs.declared.fault.Fault.{Fault}
use Rattle.messages.specs.declared.envelope.Envelope.{Envelope}
use Rattle.messages.specs.declared.op.Op.{Op}
use Rattle.messages.specs.declared.outcome.Outcome.{Outcome}
use Rattle.messages.specs.declared.event.ActorEvent.{ActorEvent}
use Rattle.messages.specs.declared.event.ActorEvent.TheVariants as event
use Rattle.messages.specs.Topology.{TopologyValue}
use Rattle.messages.specs.Actors.{envelope_of}
use Rattle.actors.specs.Journals.{IsBeginning}
use Rattle.threaded.specs.Machines.{Refuses}
use Rattle.world.proofs.lists.Members.{mapped_from}
use Rattle.site.specs.Story.{Story, Happening, Did, site_of, event_of, journal}
use Rattle.site.specs.Sites.{SiteValue}
use Rattle.site.proofs.Lists.{whole, old_or_last}
use Rattle.workload.specs.declared.script.ScriptEvent.{ScriptEvent}
use Rattle.workload.specs.declared.script.ScriptEvent.TheVariants.{Submit}
use Rattle.workload.specs.declared.transcript.Entry.{Entry}
use Rattle.workload.specs.declared.transcript.Entry.TheVariants as entry
use Rattle.workload.specs.Simulation.{is_outcome, is_refusal}
use Rattle.by_sites.specs.Sites.{stories_of}
use Rattle.by_sites.specs.Asked.{asked_by, asked_in, own_events, told_of, noted, Fate, done_by, refused_by, DidAsked}
use Rattle.by_sites.specs.Holds.{AreTold}
use Rattle.by_sites.proofs.Lists.{map_more, self, apart}
use Rattle.by_sites.proofs.Growing.{now, mapped_here, mapped_same, begins_still}
use Rattle.by_sites.proofs.Telling.{told_more, told_one, told_none, unrefused}

-- ## Fates

abbrev done_fate : ActorEvent → Fate
done_fate x = (x, None)

events_done : (xs : List ActorEvent) → map (λ (p : Fate). p.0) (map done_fate xs) ≡ xs
events_done [] = refl
events_done (x ∷ xs) = ap (λ l. x ∷ l) (events_done xs)

all_done : (xs : List ActorEvent) → filter_map done_by (map done_fate xs) ≡ xs
all_done [] = refl
all_done (x ∷ xs) = ap (λ l. x ∷ l) (all_done xs)

none_refused : (xs : List ActorEvent) → filter_map refused_by (map done_fate xs) ≡ []
none_refused [] = refl
none_refused (x ∷ xs) = none_refused xs

not_refused : (y z : ActorEvent) (f : Fault) → (y, Some f) ≡ done_fate z → ⊥
not_refused y z f q = let e : Some f ≡ None = ap (λ (p : Fate). p.1) q in absurd (cc)

asked_more : (node : ℕ) (events more : List ScriptEvent) → asked_in node (events ++ more) ≡ asked_in node events ++ asked_in node more
asked_more node events more = filter_map-append (asked_by node) events more

own_more : (xs ys : List ActorEvent) → own_events (xs ++ ys) ≡ own_events xs ++ own_events ys
own_more xs ys = filter-append (λ x. is_none (envelope_of x)) xs ys

-- ## Nothing is asked

module _ (sites : List SiteValue) (p : ℕ) (d : SiteValue) (h : Happening) (lt : p < length sites) (at : slice_get sites p ≡ Some d) (top : TopologyValue) (events : List ScriptEvent) (entries : List Entry) where
  pub asked_same : ((node : ℕ) → event_of node h ≡ None) → ((node : ℕ) → DidAsked top events node (stories_of sites (site_of top node)) entries)
      → (node : ℕ) → DidAsked top events node (now sites p d h lt at (site_of top node)) entries
  asked_same none asked node =
      let old = asked node in
      record {
        fates = old.fates;
        all = old.all;
        own = ap own_events (mapped_same sites p d h lt at (event_of node) (none node) (site_of top node)) ∙ old.own;
        refused = old.refused;
        why = λ x f has. let w = old.why x f has in (w.0, begins_still sites p d h lt at (site_of top node) w.0 w.1, w.2);
      }

-- ## An event

module _ (sites : List SiteValue) (p : ℕ) (d : SiteValue) (n : ℕ) (x : ActorEvent) (sends : List Envelope) (ended : Option (ℕ × Outcome))
    (lt : p < length sites) (at : slice_get sites p ≡ Some d) (top : TopologyValue) (its : site_of top n ≡ p) (events more : List ScriptEvent) (entries : List Entry) where
  abbrev pub h : Happening
  h = Did n x sends ended

  -- what no message brought of it is what was asked
  abbrev pub AreAskedBy : Type 0
  AreAskedBy = (node : ℕ) → asked_in node more ≡ own_events (option_to_list (event_of node h))

  own_grows : (node : ℕ) → own_events (journal (now sites p d h lt at (site_of top node)) node)
      ≡ own_events (journal (stories_of sites (site_of top node)) node) ++ own_events (option_to_list (event_of node h))
  own_grows node = elim (eqb_tells n node) [
    | inl same ↦
        let there : site_of top node ≡ p = ap (site_of top) (sym same.1) ∙ its in
        ap own_events (mapped_here sites p d h lt at (event_of node) (event_of node h) (site_of top node) there refl)
        ∙ own_more (journal (stories_of sites (site_of top node)) node) (option_to_list (event_of node h))
    | inr other ↦
        let none : event_of node h ≡ None = ap (λ b. cond b (Some x) None) (apart n node other.1) in
        let old = own_events (journal (stories_of sites (site_of top node)) node) in
        ap own_events (mapped_same sites p d h lt at (event_of node) none (site_of top node))
        ∙ sym (append-nil old) ∙ ap (λ o. old ++ own_events (option_to_list o)) (sym none)
  ]

  pub asked_did : AreAskedBy → ((node : ℕ) → DidAsked top events node (stories_of sites (site_of top node)) entries)
      → (node : ℕ) → DidAsked top (events ++ more) node (now sites p d h lt at (site_of top node)) (entries ++ noted n ended)
  asked_did asks asked node =
      record { fates = old.fates ++ map done_fate mine; all = all; own = own; refused = refused; why = why }
    where
      old : DidAsked top events node (stories_of sites (site_of top node)) entries
      old = asked node

      mine : List ActorEvent
      mine = own_events (option_to_list (event_of node h))

      all : map (λ (q : Fate). q.0) (old.fates ++ map done_fate mine) ≡ asked_in node (events ++ more)
      all =
          map_more (λ (q : Fate). q.0) old.fates (map done_fate mine) ∙ ap (λ l. l ++ map (λ (q : Fate). q.0) (map done_fate mine)) old.all
          ∙ ap (λ l. asked_in node events ++ l) (events_done mine ∙ sym (asks node)) ∙ sym (asked_more node events more)

      own : own_events (journal (now sites p d h lt at (site_of top node)) node) ≡ filter_map done_by (old.fates ++ map done_fate mine)
      own =
          own_grows node ∙ ap (λ l. l ++ mine) old.own ∙ ap (λ l. filter_map done_by old.fates ++ l) (sym (all_done mine))
          ∙ sym (filter_map-append done_by old.fates (map done_fate mine))

      refused : filter is_refusal (told_of node (entries ++ noted n ended)) ≡ map (λ f. entry.Refused node f) (filter_map refused_by (old.fates ++ map done_fate mine))
      refused =
          unrefused n node ended entries ∙ old.refused
          ∙ ap (map (λ f. entry.Refused node f))
          (sym (append-nil (filter_map refused_by old.fates)) ∙ ap (λ l. filter_map refused_by old.fates ++ l) (sym (none_refused mine)) ∙ sym (filter_map-append refused_by old.fates (map done_fate mine)))

      why : (y : ActorEvent) (f : Fault) → Contains (old.fates ++ map done_fate mine) (y, Some f)
          → (before : Story) × IsBeginning before (now sites p d h lt at (site_of top node)) × Refuses top node (journal before node) y f
      why y f has = elim (Contains-append_cases old.fates (map done_fate mine) (y, Some f) has) [
        | inl before ↦ let w = old.why y f before in (w.0, begins_still sites p d h lt at (site_of top node) w.0 w.1, w.2)
        | inr last ↦ let q = mapped_from done_fate mine (y, Some f) last in absurd (not_refused y q.0 f q.2)
      ]

-- ## A refusal

module _ (top : TopologyValue) (stories : ℕ → Story) (n : ℕ) (o : Op) (fault : Fault) (events : List ScriptEvent) (entries : List Entry) where
  abbrev pub refusal : List Entry
  refusal = entry.Refused n fault ∷ []

  pub told_refused : AreTold top stories entries → AreTold top stories (entries ++ refusal)
  told_refused told node = ap (filter is_outcome) (told_more node entries refusal) ∙ filter-append is_outcome (told_of node entries) (told_of node refusal) ∙ ap (λ l. filter is_outcome (told_of node entries) ++ l) none ∙ append-nil (filter is_outcome (told_of node entries)) ∙ told node
    where
      none : filter is_outcome (told_of node refusal) ≡ []
      none = elim (eqb_tells n node) [
        | inl same ↦ ap (filter is_outcome) (told_one node (entry.Refused n fault) same.1)
        | inr other ↦ ap (filter is_outcome) (told_none node (entry.Refused n fault) other.1)
      ]

  asks : (node : ℕ) → n ≡ node → asked_in node (Submit n o ∷ []) ≡ event.Submit o ∷ []
  asks node same = ap (λ b. filter_map (λ (z : Option ActorEvent). z) (cond b (Some (event.Submit o)) None ∷ [])) (ap (λ k. k == node) same ∙ self node)

  asks_none : (node : ℕ) → (n ≡ node → ⊥) → asked_in node (Submit n o ∷ []) ≡ []
  asks_none node ne = ap (λ b. filter_map (λ (z : Option ActorEvent). z) (cond b (Some (event.Submit o)) None ∷ [])) (apart n node ne)

  pub asked_refused : Refuses top n (journal (stories (site_of top n)) n) (event.Submit o) fault
      → ((node : ℕ) → DidAsked top events node (stories (site_of top node)) entries)
      → (node : ℕ) → DidAsked top (events ++ Submit n o ∷ []) node (stories (site_of top node)) (entries ++ refusal)
  asked_refused refuses asked node = elim (eqb_tells n node) [ inl same ↦ this same.1 | inr other ↦ another other.1 ]
    where
      old : DidAsked top events node (stories (site_of top node)) entries
      old = asked node

      fate : List Fate
      fate = (event.Submit o, Some fault) ∷ []

      told_all : filter is_refusal (told_of node (entries ++ refusal)) ≡ filter is_refusal (told_of node entries) ++ filter is_refusal (told_of node refusal)
      told_all = ap (filter is_refusal) (told_more node entries refusal) ∙ filter-append is_refusal (told_of node entries) (told_of node refusal)

      this : n ≡ node → DidAsked top (events ++ Submit n o ∷ []) node (stories (site_of top node)) (entries ++ refusal)
      this same =
          record {
            fates = old.fates ++ fate;
            all = map_more (λ (q : Fate). q.0) old.fates fate ∙ ap (λ l. l ++ event.Submit o ∷ []) old.all ∙ ap (λ l. asked_in node events ++ l) (sym (asks node same)) ∙ sym (asked_more node events (Submit n o ∷ []));
            own = old.own ∙ sym (append-nil (filter_map done_by old.fates)) ∙ sym (filter_map-append done_by old.fates fate);
            refused =
                told_all ∙ ap (λ l. l ++ filter is_refusal (told_of node refusal)) old.refused
                ∙ ap (λ l. map (λ f. entry.Refused node f) (filter_map refused_by old.fates) ++ filter is_refusal l) (told_one node (entry.Refused n fault) same)
                ∙ ap (λ k. map (λ f. entry.Refused node f) (filter_map refused_by old.fates) ++ entry.Refused k fault ∷ []) same
                ∙ sym (map_more (λ f. entry.Refused node f) (filter_map refused_by old.fates) (fault ∷ []))
                ∙ ap (map (λ f. entry.Refused node f)) (sym (filter_map-append refused_by old.fates fate));
            why = why;
          }
        where
          why : (y : ActorEvent) (f : Fault) → Contains (old.fates ++ fate) (y, Some f)
              → (before : Story) × IsBeginning before (stories (site_of top node)) × Refuses top node (journal before node) y f
          why y f has = elim (old_or_last old.fates (event.Submit o, Some fault) (y, Some f) has) [
            | inl before ↦ old.why y f before
            | inr last ↦
                let is : event.Submit o ≡ y = ap (λ (q : Fate). q.0) last in
                let some : Some fault ≡ Some f = ap (λ (q : Fate). q.1) last in
                let fs : fault ≡ f = cc in (
                  stories (site_of top node),
                  whole (stories (site_of top node)),
                  subst (λ k. Refuses top k (journal (stories (site_of top k)) k) y f) same
                      (subst (λ z. Refuses top n (journal (stories (site_of top n)) n) z f) is (subst (λ z. Refuses top n (journal (stories (site_of top n)) n) (event.Submit o) z) fs refuses)),
                )
          ]

      another : (n ≡ node → ⊥) → DidAsked top (events ++ Submit n o ∷ []) node (stories (site_of top node)) (entries ++ refusal)
      another ne =
          record {
            fates = old.fates;
            all = old.all ∙ sym (append-nil (asked_in node events)) ∙ ap (λ l. asked_in node events ++ l) (sym (asks_none node ne)) ∙ sym (asked_more node events (Submit n o ∷ []));
            own = old.own;
            refused =
                told_all ∙ ap (λ l. filter is_refusal (told_of node entries) ++ filter is_refusal l) (told_none node (entry.Refused n fault) ne)
                ∙ append-nil (filter is_refusal (told_of node entries)) ∙ old.refused;
            why = old.why;
          }

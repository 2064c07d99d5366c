-- What is told of sites that did what a script asks of them is told of a run.
use Rattle.std.proofs.Common.{◌≡◌, ◌∙◌, ℕ, ◌<◌, Bool, true, false, cond, List, [], ◌∷◌, map, length, Some, None, refl, sym, ap, subst, eqb-true}
use Rattle.std.specs.Prelude.{◌==◌, filter, if◌then◌else◌, Contains}
use Rattle.slice.specs.declared.read.AnsweredRow.{AnsweredRow}
use Rattle.messages.specs.declared.outcome.Outcome.{Outcome}
use Rattle.messages.specs.declared.event.ActorEvent.{ActorEvent}
use Rattle.messages.specs.Topology.{TopologyValue, is_topology, node_count}
use Rattle.messages.specs.Session.{Finished}
use Rattle.store.proofs.lists.Lists.{given_only}
use Rattle.world.specs.declared.completed.Completed.{Completed}
use Rattle.world.specs.Run.{run}
use Rattle.world.specs.Journals.{finished_as, IsThreadedRun}
use Rattle.world.proofs.lists.Members.{contains_map, mapped_from, contains_filter, filter_contains}
use Rattle.world.proofs.lists.Replacing.{at_place}
use Rattle.world.proofs.envelopes.Addresses.{stands}
use Rattle.threaded.specs.Machines.{as_finished}
use Rattle.site.specs.Story.{Story, Happening, Did, Heard, Given, site_of, end_of, outcomes, handled, arrivals, given, departures}
use Rattle.site.specs.Sites.{SiteValue}
use Rattle.site.proofs.Lists.{whole}
use Rattle.sites.specs.Sites.{IsSiteStory, DoLive, DoMeet, journals_of}
use Rattle.sites.specs.Answers.{AnswersAreMeant}
use Rattle.sites.proofs.Senders.{here_is, is_here_of}
use Rattle.sites.proofs.Stories.{site_there, stories_fit}
use Rattle.sites.proofs.Alone.{entries_are}
use Rattle.sites.proofs.Meant.{means, has_story}
use Rattle.world.proofs.replays.Merged.{are_a_run}
use Rattle.workload.specs.declared.script.Script.{Script}
use Rattle.workload.specs.declared.transcript.Entry.{Entry}
use Rattle.workload.specs.declared.transcript.Entry.TheVariants as entry
use Rattle.workload.specs.Simulation.{entry_by, entry_of, is_outcome, ShowsOneTable}
use Rattle.workload.proofs.Shown.{shows}
use Rattle.by_sites.specs.Sites.{story_at, stories_of, AreSites, AreSound, AreAtRest}
use Rattle.by_sites.specs.Asked.{session_in, told_of, entry_in}
use Rattle.by_sites.specs.Holds.{AreTold, Holds}
use Rattle.by_sites.specs.BySites.{InEachRun, IsSitesTranscriptOf}
use Rattle.by_sites.proofs.Lists.{self}
use Rattle.by_sites.proofs.Quiet.{of_quiet_run}

-- ## The entries of one actor

module _ (node : ℕ) where
  abbrev entry_as : Finished → Entry
  entry_as f = entry_by node f.number f.outcome

  as_entries : (os : List (ℕ × Outcome)) → map entry_as (map as_finished os) ≡ map (entry_in node) os
  as_entries [] = refl
  as_entries (o ∷ os) = ap (λ l. entry_in node o ∷ l) (as_entries os)

  of_this : (c : Completed) → (c.node == node) ≡ true → entry_as (finished_as c) ≡ entry_of c
  of_this c is = let same : c.node ≡ node = eqb-true c.node node is in ap (λ n. entry_by n c.number c.outcome) (sym same)

  entries_at : (cs : List Completed) → map entry_as (map finished_as (filter (λ (c : Completed). c.node == node) cs)) ≡ map entry_of (filter (λ (c : Completed). c.node == node) cs)
  entries_at [] = refl
  entries_at (c ∷ cs) = by (entries_at cs) (c.node == node) refl
    where
      kept : List Completed
      kept = filter (λ (d : Completed). d.node == node) cs

      by : map entry_as (map finished_as (filter (λ (d : Completed). d.node == node) cs)) ≡ map entry_of (filter (λ (d : Completed). d.node == node) cs) → (b : Bool)
          → (c.node == node) ≡ b → map entry_as (map finished_as (cond (c.node == node) (c ∷ kept) kept)) ≡ map entry_of (cond (c.node == node) (c ∷ kept) kept)
      by rest true q =
          ap (λ b. map entry_as (map finished_as (cond b (c ∷ kept) kept))) q ∙ ap (λ e. e ∷ map entry_as (map finished_as kept)) (of_this c q)
          ∙ ap (λ l. entry_of c ∷ l) rest ∙ ap (λ b. map entry_of (cond b (c ∷ kept) kept)) (sym q)
      by rest false q = ap (λ b. map entry_as (map finished_as (cond b (c ∷ kept) kept))) q ∙ rest ∙ ap (λ b. map entry_of (cond b (c ∷ kept) kept)) (sym q)

-- ## Sites that are sound

module _ (top : TopologyValue) (sites : List SiteValue) (are : AreSites top sites) (sound : AreSound (length sites) sites) where
  pub live : DoLive top (stories_of sites)
  live dc below =
      let lt : dc < length sites = subst (λ n. dc < n) (sym are.count) below in
      let s = at_place sites dc lt in
      let is = are.each dc s.0 s.1 in
      subst (λ l. IsSiteStory top dc l) (sym (ap story_at s.1))
      (subst (λ n. IsSiteStory top n s.0.story) is.1 (subst (λ t. IsSiteStory t s.0.dc s.0.story) is.0 (sound dc s.0 lt s.1)))

  pub topology_is : 0 < top.dcs → is_topology top.dcs top.shards top.homes ≡ true
  topology_is some = (live 0 some).0.topology

-- ## The transcript

module _ (s : Script) (entries : List Entry) (stories : ℕ → Story) (ok : is_topology s.topology.dcs s.topology.shards s.topology.homes ≡ true)
    (alive : DoLive s.topology stories) (meet : DoMeet s.topology stories) (told : AreTold s.topology stories entries) where
  abbrev top : TopologyValue
  top = s.topology

  abbrev journals : ℕ → List ActorEvent
  journals = journals_of top stories

  story_is : (node : ℕ) → IsSiteStory top (site_of top node) (stories (site_of top node))
  story_is node = alive (site_of top node) (site_there top ok node)

  pub is_run : IsThreadedRun top journals
  is_run = are_a_run top journals (stories_fit top stories ok alive meet)

  pub outcomes_in_each : InEachRun top stories (λ w. (node : ℕ) → node < node_count top
      → filter is_outcome (told_of node entries) ≡ map entry_of (filter (λ (c : Completed). c.node == node) w.transcript))
  outcomes_in_each events is node lt =
      told node ∙ sym (as_entries node (outcomes (stories (site_of top node)) node))
      ∙ ap (λ (l : List Finished). map (entry_as node) l)
      (sym (entries_are top (site_of top node) node (stories (site_of top node)) journals (story_is node) (has_story top stories (site_of top node)) (is_here_of top (site_of top node) node lt refl) events is))
      ∙ entries_at node (run top events).transcript

  -- who ended an operation is an actor
  is_actor : (node number : ℕ) (o : Outcome) → Contains (outcomes (stories (site_of top node)) node) (number, o) → node < node_count top
  is_actor node number o has =
      let g = given_only (end_of node) (stories (site_of top node)) (number, o) has in
      by g.0 g.1 g.2
    where
      by : (h : Happening) → Contains (stories (site_of top node)) h → end_of node h ≡ Some (number, o) → node < node_count top
      by (Did n x sends ended) in_s is = which (n == node) refl is
        where
          which : (b : Bool) → (n == node) ≡ b → (if b then ended else None) ≡ Some (number, o) → node < node_count top
          which true q same =
              let may = ((story_is node).0.moments (stories (site_of top node)) (whole (stories (site_of top node)))).may (Did n x sends ended) in_s in
              subst (λ k. k < node_count top) (eqb-true n node q) (here_is top (site_of top node) n may.0).0
          which false q same = absurd (cc)
      by (Heard from e) in_s is = absurd (cc)
      by (Given e) in_s is = absurd (cc)

  pub reads_in_each : (node number time : ℕ) (answer : List AnsweredRow) → Contains entries (entry.Read node number time answer)
      → InEachRun top stories (λ w. ShowsOneTable top w node number time answer)
  reads_in_each node number time answer has events is =
      let e = entry.Read node number time answer in
      let w = run top events in
      let mine : Contains (told_of node entries) e = contains_filter (λ (x : Entry). session_in x == node) entries e has (self node) in
      let here : Contains (filter is_outcome (told_of node entries)) e = contains_filter is_outcome (told_of node entries) e mine refl in
      let o = mapped_from (entry_in node) (outcomes (stories (site_of top node)) node) e (subst (λ l. Contains l e) (told node) here) in
      let lt = is_actor node o.0.0 o.0.1 o.1 in
      let there : Contains (map entry_of (filter (λ (c : Completed). c.node == node) w.transcript)) e = subst (λ l. Contains l e) (outcomes_in_each events is node lt) here in
      let c = mapped_from entry_of (filter (λ (c : Completed). c.node == node) w.transcript) e there in
      let in_all : Contains w.transcript c.0 = (filter_contains (λ (c : Completed). c.node == node) w.transcript c.0 c.1).0 in
      let back : Contains (map entry_of w.transcript) e = subst (λ x. Contains (map entry_of w.transcript) x) (sym c.2) (contains_map entry_of w.transcript c.0 in_all) in
      shows top events (stands top ok).some node number time answer back

  pub meant_each : (dc : ℕ) → dc < top.dcs → AnswersAreMeant top dc (stories dc)
  meant_each dc below node number o result session here ended journals events has is = means top dc node (stories dc) journals events (alive dc below) has here is number o result ended

module _ (top : TopologyValue) (sites : List SiteValue) (are : AreSites top sites) (rest : AreAtRest (length sites) sites) where
  at_rest : (dc : ℕ) → dc < top.dcs → (handled (stories_of sites dc) ≡ arrivals top dc (stories_of sites dc)) × (given (stories_of sites dc) ≡ departures top dc (stories_of sites dc))
  at_rest dc below =
      let lt : dc < length sites = subst (λ n. dc < n) (sym are.count) below in
      let s = at_place sites dc lt in
      let is = are.each dc s.0 s.1 in
      let r = rest dc lt in
      let story : s.0.story ≡ stories_of sites dc = sym (ap story_at s.1) in
      let a : handled s.0.story ≡ arrivals top dc s.0.story = subst (λ n. handled s.0.story ≡ arrivals top n s.0.story) is.1 (subst (λ t. handled s.0.story ≡ arrivals t s.0.dc s.0.story) is.0 (r.0 s.0 s.1)) in
      let b : given s.0.story ≡ departures top dc s.0.story = subst (λ n. given s.0.story ≡ departures top n s.0.story) is.1 (subst (λ t. given s.0.story ≡ departures t s.0.dc s.0.story) is.0 (r.1 s.0 s.1)) in
      (subst (λ l. handled l ≡ arrivals top dc l) story a, subst (λ l. given l ≡ departures top dc l) story b)

pub is_transcript : (s : Script) (entries : List Entry) (sites : List SiteValue) → 0 < s.topology.dcs → Holds s.topology s.events sites entries [] → AreSound (length sites) sites
    → AreAtRest (length sites) sites
    → IsSitesTranscriptOf s entries
is_transcript s entries sites some holds sound rest =
    let stories = stories_of sites in
    let alive = live s.topology sites holds.are sound in
    let ok = topology_is s.topology sites holds.are sound some in
    record {
      stories = stories;
      live = alive;
      meet = holds.meet;
      asked = λ node lt. holds.asked node;
      told = holds.told;
      run = is_run s entries stories ok alive holds.meet holds.told;
      outcomes = outcomes_in_each s entries stories ok alive holds.meet holds.told;
      meant = meant_each s entries stories ok alive holds.meet holds.told;
      reads = reads_in_each s entries stories ok alive holds.meet holds.told;
      quiet =
          of_quiet_run s.topology stories ok alive holds.meet holds.passed (λ dc below. (at_rest s.topology sites holds.are rest dc below).0)
          (λ dc below. (at_rest s.topology sites holds.are rest dc below).1);
    }

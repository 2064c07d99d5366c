-- Each step keeps what holds.
use Rattle.std.proofs.Common.{◌≡◌, ◌∙◌, ℕ, zero, suc, ◌+◌, ◌<◌, ◌≤◌, Bool, true, false, ◌&&◌, List, [], ◌∷◌, ◌++◌, length, take, set, get_or, slice_get, Option, Some, None, Result, Ok, Err, ◌⊎◌, inl, inr, refl, sym, ap, subst, arith}
use Rattle.std.specs.Prelude.{◌==◌, not, if◌then◌else◌, filter_map, option_to_list, Contains, OnOk}
use Rattle.std.proofs.lemmas.Bool.{and_parts}
use Rattle.std.proofs.lemmas.Bool.Decides.{eqb_tells}
use Rattle.std.proofs.lemmas.List.{append-nil, append_assoc, length-set}
use Rattle.actors.proofs.Lists.{here, set_here}
use Rattle.std.proofs.lemmas.Option.{slice_get_within}
use Rattle.std.proofs.lemmas.List.Elements.{Contains-append_right}
use Rattle.logical_time.specs.declared.fault.Fault.{Fault}
use Rattle.messages.specs.declared.envelope.Envelope.{Envelope}
use Rattle.messages.specs.declared.op.Op.{Op}
use Rattle.messages.specs.declared.outcome.Outcome.{Outcome}
use Rattle.messages.specs.declared.event.ActorEvent.{ActorEvent}
use Rattle.messages.specs.declared.event.ActorEvent.TheVariants as event
use Rattle.messages.specs.Topology.{TopologyValue, is_shard, dc_of}
use Rattle.messages.specs.Actors.{opening_home}
use Rattle.world.proofs.lists.Members.{contains_first}
use Rattle.parcels.specs.Reading.{parcel_at}
use Rattle.parcels.specs.Spelling.{spelling}
use Rattle.threaded.specs.Machines.{CameFrom, untaken_of, Refuses}
use Rattle.site.specs.Story.{Did, Heard, Given, site_of, is_here, is_near, may_come, event_of, journal, heard, given, handled as done, arrivals, departures, departures_by}
use Rattle.site.specs.Sites.{SiteValue, IsStory}
use Rattle.site.specs.declared.turn.Turn.TheVariants.{Idle}
use Rattle.site.proofs.Lists.{whole, mapped_more}
use Rattle.site.specs.Turns.{goes_on, HasDone, HasGiven, HasHandled, HasTurned, IsRefused}
use Rattle.sites.proofs.Senders.{here_is, is_here_of}
use Rattle.world.proofs.steps.Moves.{shard_node_counts}
use Rattle.workload.specs.declared.script.ScriptEvent.{ScriptEvent}
use Rattle.workload.specs.declared.script.ScriptEvent.TheVariants.{Submit, Deliver, Collect, Drain}
use Rattle.workload.specs.declared.transcript.Entry.{Entry}
use Rattle.workload.specs.declared.transcript.Entry.TheVariants as entry
use Rattle.by_sites.specs.Sites.{story_at, stories_of, AreSites, AreNewSites, HasCome, IsAllGiven, IsAllHandled, IsAtRestAt, AreAtRest, AreSound}
use Rattle.by_sites.specs.Asked.{asked_by, asked_in, own_events, noted}
use Rattle.by_sites.specs.Faults.{EndsScript}
use Rattle.sites.specs.Sites.{IsSiteStory}
use Rattle.by_sites.specs.Holds.{Holds, GoesOn, HasTaken}
use Rattle.by_sites.proofs.Growing.{are_still, meet_same, meet_more, pass_same, pass_given, pass_come, flat_grows}
use Rattle.by_sites.proofs.Telling.{told_same, told_did}
use Rattle.by_sites.proofs.Taking.{asked_same, asked_did, told_refused, asked_refused}

set_same : {X : Type 0} (xs : List X) (k : ℕ) (x : X) → slice_get xs k ≡ Some x → set xs k x ≡ xs
set_same [] k x at = refl
set_same (y ∷ xs) zero x at = let same : y ≡ x = cc in ap (λ z. z ∷ xs) (sym same)
set_same (y ∷ xs) (suc k) x at = ap (λ l. y ∷ l) (set_same xs k x at)

pub read_again : {X : Type 0} (xs : List X) (k : ℕ) (x r : X) → k < length xs → r ≡ get_or (set xs k x) k r → r ≡ x
read_again xs k x r lt is = set_here xs k x r lt (here (set xs k x) k r (subst (λ n. k < n) (sym (length-set xs k x)) lt) is)

pub same_read : {X : Type 0} (xs : List X) (k : ℕ) (r s : X) → k < length xs → r ≡ get_or xs k r → s ≡ get_or xs k s → get_or xs k r ≡ s
same_read xs k r s lt first second =
    let both : Some r ≡ Some s = sym (here xs k r lt first) ∙ here xs k s lt second in
    let same : r ≡ s = cc in
    sym first ∙ same

-- ## New sites

pub begins : (top : TopologyValue) (sites : List SiteValue) → AreNewSites top top.dcs sites → Holds top [] sites [] []
begins top sites new = record {
  are = record { count = new.all; each = λ dc s at. let is = new.each dc s at in (ap (λ (z : SiteValue). z.top) is, ap (λ (z : SiteValue). z.dc) is) };
  meet = λ dc e below has. absurd (none_came dc e has);
  told = λ node. rw (none (site_of top node)) refl;
  asked = λ node. record { fates = []; all = refl; own = rw (none (site_of top node)) refl; refused = refl; why = λ x f has. absurd (nothing has) };
  passed = λ from to. rw (none (site_of top from), none (site_of top to)) refl;
}
  where
    nothing : {X : Type 0} {x : X} → Contains [] x → ⊥
    nothing has = let lt = has.1 in omega (arith, lt)

    none : (dc : ℕ) → stories_of sites dc ≡ []
    none dc = by (slice_get sites dc) refl
      where
        by : (o : Option SiteValue) → slice_get sites dc ≡ o → story_at o ≡ []
        by None at = refl
        by (Some s) at = ap (λ (z : SiteValue). z.story) (new.each dc s at)

    none_came : (dc : ℕ) (e : Envelope) → Contains (heard (stories_of sites dc)) e → ⊥
    none_came dc e has = nothing (subst (λ s. Contains (heard s) e) (none dc) has)

-- ## What an actor did

module _ (top : TopologyValue) (events : List ScriptEvent) (sites : List SiteValue) (entries : List Entry) (p : ℕ) (d : SiteValue)
    (lt : p < length sites) (at : slice_get sites p ≡ Some d) (holds : Holds top events sites entries []) where
  -- an actor of the site at a place did an event, which was asked for if no message brought it
  pub did : (n : ℕ) (x : ActorEvent) (sends : List Envelope) (ended : Option (ℕ × Outcome)) (more : List ScriptEvent) (new : SiteValue) → is_here top p n ≡ true
      → ((node : ℕ) → asked_in node more ≡ own_events (option_to_list (event_of node (Did n x sends ended))))
      → new ≡ goes_on d (Did n x sends ended) → Holds top (events ++ more) (set sites p new) (entries ++ noted n ended) []
  did n x sends ended more new here asks is =
      let h = Did n x sends ended in
      let its = (here_is top p n here).1 in
      subst (λ z. Holds top (events ++ more) (set sites p z) (entries ++ noted n ended) []) (sym is)
      (record {
        are = are_still sites p d h lt at top holds.are;
        meet = meet_same sites p d h lt at top refl holds.meet;
        told = told_did sites p d n x sends ended lt at top its entries holds.told;
        asked = asked_did sites p d n x sends ended lt at top its events more entries asks holds.asked;
        passed = pass_same sites p d h lt at top [] refl refl holds.passed;
      })

  -- it handled an envelope
  pub handled : (n : ℕ) (e : Envelope) (sends : List Envelope) (ended : Option (ℕ × Outcome)) (new : SiteValue) → is_here top p n ≡ true
      → new ≡ goes_on d (Did n (event.Handle e) sends ended) → Holds top events (set sites p new) (entries ++ noted n ended) []
  handled n e sends ended new here is =
      subst (λ l. Holds top l (set sites p new) (entries ++ noted n ended) []) (append-nil events) (did n (event.Handle e) sends ended [] new here asks is)
    where
      by : (b : Bool) → [] ≡ own_events (option_to_list (if b then Some (event.Handle e) else None))
      by true = refl
      by false = refl

      asks : (node : ℕ) → [] ≡ own_events (option_to_list (event_of node (Did n (event.Handle e) sends ended)))
      asks node = by (n == node)

  -- a session submitted an operation
  pub submitted : (n : ℕ) (o : Op) (sends : List Envelope) (ended : Option (ℕ × Outcome)) (new : SiteValue) → is_here top p n ≡ true
      → new ≡ goes_on d (Did n (event.Submit o) sends ended) → Holds top (events ++ Submit n o ∷ []) (set sites p new) (entries ++ noted n ended) []
  submitted n o sends ended new here is = did n (event.Submit o) sends ended (Submit n o ∷ []) new here asks is
    where
      by : (b : Bool) → option_to_list (if b then Some (event.Submit o) else None) ≡ own_events (option_to_list (if b then Some (event.Submit o) else None))
      by true = refl
      by false = refl

      asks : (node : ℕ) → asked_in node (Submit n o ∷ []) ≡ own_events (option_to_list (event_of node (Did n (event.Submit o) sends ended)))
      asks node = one (n == node)
        where
          one : (b : Bool) → filter_map (λ (z : Option ActorEvent). z) ((if b then Some (event.Submit o) else None) ∷ []) ≡ own_events (option_to_list (if b then Some (event.Submit o) else None))
          one true = refl
          one false = refl

  -- a shard collected up to a time
  pub collected : (n time : ℕ) (sends : List Envelope) (ended : Option (ℕ × Outcome)) (new : SiteValue) → is_here top p n ≡ true
      → new ≡ goes_on d (Did n (event.Collect time) sends ended) → Holds top (events ++ Collect n time ∷ []) (set sites p new) (entries ++ noted n ended) []
  collected n time sends ended new here is = did n (event.Collect time) sends ended (Collect n time ∷ []) new here asks is
    where
      asks : (node : ℕ) → asked_in node (Collect n time ∷ []) ≡ own_events (option_to_list (event_of node (Did n (event.Collect time) sends ended)))
      asks node = one (n == node)
        where
          one : (b : Bool) → filter_map (λ (z : Option ActorEvent). z) ((if b then Some (event.Collect time) else None) ∷ []) ≡ own_events (option_to_list (if b then Some (event.Collect time) else None))
          one true = refl
          one false = refl

  -- a session refused an operation
  pub refused : (n : ℕ) (o : Op) (fault : Fault) (new : SiteValue) → is_here top p n ≡ true → Refuses d.top n (journal d.story n) (event.Submit o) fault → new ≡ d
      → Holds top (events ++ Submit n o ∷ []) (set sites p new) (entries ++ entry.Refused n fault ∷ []) []
  refused n o fault new here refuses same =
      subst (λ l. Holds top (events ++ Submit n o ∷ []) l (entries ++ entry.Refused n fault ∷ []) []) (sym stays)
      (record {
        are = holds.are;
        meet = holds.meet;
        told = told_refused top (stories_of sites) n o fault events entries holds.told;
        asked = asked_refused top (stories_of sites) n o fault events entries there holds.asked;
        passed = holds.passed;
      })
    where
      stays : set sites p new ≡ sites
      stays = ap (set sites p) same ∙ set_same sites p d at

      there : Refuses top n (journal (stories_of sites (site_of top n)) n) (event.Submit o) fault
      there =
          let its : site_of top n ≡ p = (here_is top p n here).1 in
          let story : stories_of sites (site_of top n) ≡ d.story = ap (stories_of sites) its ∙ ap story_at at in
          subst (λ t. Refuses t n (journal (stories_of sites (site_of top n)) n) (event.Submit o) fault) (holds.are.each p d at).0
          (subst (λ s. Refuses d.top n (journal s n) (event.Submit o) fault) (sym story) refuses)

  -- ## What went to another site

  pub carried : (given_then : SiteValue) (e : Envelope) (bytes : List ℕ) (mid new : List SiteValue) (from to : ℕ)
      → ((x : Envelope) (l : List ℕ) → spelling x ≡ Some l → parcel_at l ≡ Ok x)
      → HasGiven d (Some e) given_then → mid ≡ set sites p given_then → spelling e ≡ Some bytes → from ≡ given_then.dc → HasCome from to bytes mid new
      → Holds top events new entries []
  carried given_then e bytes mid new from to law gave first spelled dc_is come =
      subst (λ l. Holds top events l entries []) (sym (come.set ∙ ap (λ z. set mid to (goes_on come.site (Heard from z))) (sym same))) after
    where
      same : e ≡ come.envelope
      same = let both : Ok e ≡ Ok come.envelope = sym (law e bytes spelled) ∙ come.reads in cc

      its : from ≡ p
      its = dc_is ∙ ap (λ (z : SiteValue). z.dc) gave.2 ∙ (holds.are.each p d at).1

      mid_is : mid ≡ set sites p (goes_on d (Given e))
      mid_is = first ∙ ap (set sites p) gave.2

      are : AreSites top mid
      are = subst (λ l. AreSites top l) (sym mid_is) (are_still sites p d (Given e) lt at top holds.are)

      its_site : (come.site.top ≡ top) × (come.site.dc ≡ to)
      its_site = are.each to come.site come.at

      may : may_come top to p e ≡ true
      may = rw (sym its_site.0, sym its_site.1, sym its, same) come.may

      comes : (is_here top p e.from ≡ true) × (is_near top to e ≡ true)
      comes = and_parts (is_here top p e.from) (is_near top to e) (and_parts (not (p == to)) (is_here top p e.from && is_near top to e) may).1

      from_here : site_of top e.from ≡ p
      from_here = (here_is top p e.from comes.0).1

      to_there : site_of top e.to ≡ to
      to_there = (here_is top to e.to comes.1).1

      between : Holds top events mid entries (e ∷ [])
      between = subst (λ l. Holds top events l entries (e ∷ [])) (sym mid_is) (record {
        are = are_still sites p d (Given e) lt at top holds.are;
        meet = meet_same sites p d (Given e) lt at top refl holds.meet;
        told = told_same sites p d (Given e) lt at top entries (λ node. refl) holds.told;
        asked = asked_same sites p d (Given e) lt at top events entries (λ node. refl) holds.asked;
        passed = pass_given sites p d (Given e) lt at top e refl refl from_here holds.passed;
      })

      of_site : (d.top ≡ top) × (d.dc ≡ p)
      of_site = holds.are.each p d at

      sent : Contains (departures top (site_of top e.from) (stories_of mid (site_of top e.from))) e
      sent =
          let has : Contains (given d.story ++ e ∷ gave.0) e = Contains-append_right (given d.story) (e ∷ gave.0) e (contains_first e gave.0) in
          let there : Contains (departures d.top d.dc d.story) e = subst (λ l. Contains l e) (sym gave.1) has in
          let here : Contains (departures top p (stories_of sites p)) e = rw (ap story_at at, sym of_site.0, sym of_site.1) there in
          let grown = flat_grows sites p d (Given e) lt at (departures_by top p) p e here in
          rw (from_here, mid_is) grown

      within : to < length mid
      within = slice_get_within mid to come.site come.at

      after : Holds top events (set mid to (goes_on come.site (Heard from e))) entries []
      after = record {
        are = are_still mid to come.site (Heard from e) within come.at top between.are;
        meet = meet_more mid to come.site (Heard from e) within come.at top e refl sent between.meet;
        told = told_same mid to come.site (Heard from e) within come.at top entries (λ node. refl) between.told;
        asked = asked_same mid to come.site (Heard from e) within come.at top events entries (λ node. refl) between.asked;
        passed = pass_come mid to come.site (Heard from e) within come.at top e refl refl to_there between.passed;
      }

-- ## Nothing was left to do

pub none_given : (sites : List SiteValue) (p : ℕ) (d new : SiteValue) (o : Option Envelope) → p < length sites → slice_get sites p ≡ Some d → o ≡ None → HasGiven d o new
    → (set sites p new ≡ sites) × IsAllGiven p (set sites p new)
none_given sites p d new o lt at none gave =
    let g = subst (λ z. HasGiven d z new) none gave in
    let same : set sites p new ≡ sites = ap (set sites p) g.0 ∙ set_same sites p d at in
    (same, subst (λ l. IsAllGiven p l) (sym same) (λ s there. (let both : Some d ≡ Some s = sym at ∙ there in let is : d ≡ s = cc in subst (λ z. given z.story ≡ departures z.top z.dc z.story) is g.1)))

pub none_handled : (sites : List SiteValue) (p : ℕ) (d new : SiteValue) → p < length sites → slice_get sites p ≡ Some d → HasTurned d Idle new
    → (set sites p new ≡ sites) × IsAllHandled p (set sites p new)
none_handled sites p d new lt at g =
    let same : set sites p new ≡ sites = ap (set sites p) g.0 ∙ set_same sites p d at in
    (same, subst (λ l. IsAllHandled p l) (sym same) (λ s there. (let both : Some d ≡ Some s = sym at ∙ there in let is : d ≡ s = cc in subst (λ z. done z.story ≡ arrivals z.top z.dc z.story) is g.1)))

-- ## A turn

-- the site after an event of an actor has that actor
pub has_actor : (d new : SiteValue) (n : ℕ) (x : ActorEvent) (sends : List Envelope) (ended : Option (ℕ × Outcome)) → new ≡ goes_on d (Did n x sends ended)
    → IsStory CameFrom untaken_of new.top new.dc new.story → is_here d.top d.dc n ≡ true
has_actor d new n x sends ended is story =
    let s = subst (λ (z : SiteValue). IsStory CameFrom untaken_of z.top z.dc z.story) is story in
    ((s.moments (d.story ++ Did n x sends ended ∷ []) (whole (d.story ++ Did n x sends ended ∷ []))).may (Did n x sends ended)
    (Contains-append_right d.story (Did n x sends ended ∷ []) (Did n x sends ended) (contains_first (Did n x sends ended) []))).0

pub turned : (top : TopologyValue) (events : List ScriptEvent) (sites : List SiteValue) (entries : List Entry) (p : ℕ) (d new : SiteValue) (n : ℕ) (ended : Option (ℕ × Outcome))
    → p < length sites → slice_get sites p ≡ Some d → HasHandled d n ended new → IsStory CameFrom untaken_of new.top new.dc new.story
    → Holds top events sites entries [] → Holds top events (set sites p new) (entries ++ noted n ended) []
turned top events sites entries p d new n ended lt at was story holds =
    let e = was.0 in
    let sends = was.3.0 in
    let is = was.3.2 in
    let of = holds.are.each p d at in
    let here_now = has_actor d new n (event.Handle e) sends ended is story in
    handled top events sites entries p d lt at holds n e sends ended new (subst (λ k. is_here top k n ≡ true) of.1 (subst (λ t. is_here t d.dc n ≡ true) of.0 here_now)) is

-- ## A shard

pub shard_here : (top : TopologyValue) (dc node : ℕ) → is_shard top node ≡ true → dc_of top node ≡ dc → is_here top dc node ≡ true
shard_here top dc node is its =
    is_here_of top dc node (shard_node_counts top node is) (ap (λ b. if b then dc_of top node else opening_home top node) is ∙ its)

-- ## As calls tell it

module _ (top : TopologyValue) (events : List ScriptEvent) (sites : List SiteValue) (entries : List Entry) (p : ℕ) (d new : SiteValue) (n : ℕ)
    (lt : p < length sites) (at : slice_get sites p ≡ Some d) (its : is_here d.top d.dc n ≡ true) (holds : Holds top events sites entries []) where
  its_place : is_here top p n ≡ true
  its_place = let of = holds.are.each p d at in subst (λ k. is_here top k n ≡ true) of.1 (subst (λ t. is_here t d.dc n ≡ true) of.0 its)

  pub submitted_at : (o : Op) (ended : Option (ℕ × Outcome)) → HasDone d n (event.Submit o) ended new
      → Holds top (events ++ Submit n o ∷ []) (set sites p new) (entries ++ noted n ended) []
  submitted_at o ended done_so = submitted top events sites entries p d lt at holds n o done_so.0 ended new its_place done_so.2

  pub collected_at : (time : ℕ) (ended : Option (ℕ × Outcome)) → HasDone d n (event.Collect time) ended new
      → Holds top (events ++ Collect n time ∷ []) (set sites p new) (entries ++ noted n ended) []
  collected_at time ended done_so = collected top events sites entries p d lt at holds n time done_so.0 ended new its_place done_so.2

  pub refused_at : (o : Op) (fault : Fault) → (EndsScript fault → ⊥) → IsRefused Refuses d n (event.Submit o) fault new
      → Holds top (events ++ Submit n o ∷ []) (set sites p new) (entries ++ entry.Refused n fault ∷ []) []
  refused_at o fault goes (inl stays) = elim stays.1 [
    | inl unsound ↦ absurd (goes (inr unsound.1))
    | inr cause ↦ elim cause [
      | inl memory ↦ absurd (goes (inl (inl memory)))
      | inr refuses ↦ refused top events sites entries p d lt at holds n o fault new its_place refuses stays.0
    ]
  ]
  refused_at o fault goes (inr broken) = absurd (goes (inr broken.1.0))

-- an event that asks for nothing
pub idle : (top : TopologyValue) (events : List ScriptEvent) (sites : List SiteValue) (entries : List Entry) (x : ScriptEvent) → ((node : ℕ) → asked_by node x ≡ None)
    → Holds top events sites entries [] → Holds top (events ++ x ∷ []) sites entries []
idle top events sites entries x none holds = record {
  are = holds.are;
  meet = holds.meet;
  told = holds.told;
  asked = λ node.
      let old = holds.asked node in
      record {
        fates = old.fates;
        all = old.all ∙ sym (mapped_more (asked_by node) events x None (none node) ∙ append-nil (asked_in node events));
        own = old.own;
        refused = old.refused;
        why = old.why;
      };
  passed = holds.passed;
}

pub asks_nothing : (x : ScriptEvent) → ((k : ℕ) × (x ≡ Deliver k)) ⊎ (x ≡ Drain) → (node : ℕ) → asked_by node x ≡ None
asks_nothing x (inl deliver) node = ap (asked_by node) deliver.1
asks_nothing x (inr drain) node = ap (asked_by node) drain

pub then_ok : {T E P Q : Type 0} (r : Result T E) → (P → Q) → OnOk r P → OnOk r Q
then_ok (Ok x) f h = f h
then_ok (Err e) f h = tt

-- ## Rounds and scripts

pub rest_more : (old new : List SiteValue) (p : ℕ) → new ≡ old → AreAtRest p old → IsAtRestAt p new → AreAtRest (p + 1) new
rest_more old new p same before this k below = elim (eqb_tells k p) [
  | inl is ↦ subst (λ j. IsAtRestAt j new) (sym is.1) this
  | inr away ↦ let ne = away.1 in subst (λ l. IsAtRestAt k l) (sym same) (before k (omega (arith, below, ne)))
]

pub sound_more : (sites : List SiteValue) (p : ℕ) (d : SiteValue) → slice_get sites p ≡ Some d → IsSiteStory d.top d.dc d.story → AreSound p sites → AreSound (p + 1) sites
sound_more sites p d at this before k s below there = elim (eqb_tells k p) [
  | inl is ↦
      let both : Some d ≡ Some s = sym at ∙ sym (ap (slice_get sites) is.1) ∙ there in
      let same : d ≡ s = cc in
      subst (λ (z : SiteValue). IsSiteStory z.top z.dc z.story) same this
  | inr away ↦ let ne = away.1 in before k s (omega (arith, below, ne)) there
]

pub take_more : {X : Type 0} (xs : List X) (k : ℕ) (x : X) → slice_get xs k ≡ Some x → take (k + 1) xs ≡ take k xs ++ x ∷ []
take_more xs k x at = let next : k + 1 ≡ suc k = omega arith in ap (λ n. take n xs) next ∙ by xs k at
  where
    by : (ys : List _) (n : ℕ) → slice_get ys n ≡ Some x → take (suc n) ys ≡ take n ys ++ x ∷ []
    by [] n is = absurd (cc)
    by (y ∷ ys) zero is = let same : y ≡ x = cc in ap (λ z. z ∷ []) same
    by (y ∷ ys) (suc n) is = ap (λ l. y ∷ l) (by ys n is)

pub take_all_of : {X : Type 0} (xs : List X) (n : ℕ) → length xs ≤ n → take n xs ≡ xs
take_all_of [] zero le = refl
take_all_of [] (suc n) le = refl
take_all_of (x ∷ xs) zero le = absurd (omega arith)
take_all_of (x ∷ xs) (suc n) le = ap (λ l. x ∷ l) (take_all_of xs n (omega arith))

-- one event of a script more, with what follows from it
pub taken_more : (top : TopologyValue) (all events : List ScriptEvent) (k : ℕ) (x : ScriptEvent) (s0 s1 s2 s3 : List SiteValue) (t0 t1 t2 t3 : List Entry)
    → events ≡ all → k < length events → x ≡ get_or events k x
    → HasTaken top (take k all) s0 t0 s1 t1 → HasTaken top (x ∷ []) s1 t1 s2 t2 → GoesOn top s2 t2 s3 t3 → HasTaken top (take (k + 1) all) s0 t0 s3 t3
taken_more top all events k x s0 s1 s2 s3 t0 t1 t2 t3 same lt is so_far one rest done_before holds =
    let at : slice_get all k ≡ Some x = subst (λ l. slice_get l k ≡ Some x) same (here events k x lt is) in
    let a = one (done_before ++ take k all) (so_far done_before holds) in
    subst (λ l. Holds top l s3 t3 []) (append_assoc done_before (take k all) (x ∷ []) ∙ ap (λ l. done_before ++ l) (sym (take_more all k x at)))
    (rest ((done_before ++ take k all) ++ x ∷ []) a)

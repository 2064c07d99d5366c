-- Where all sites are at rest, and all that was given came, each actor received all that was sent to it: their journals are those of a
-- quiet run.
use Rattle.std.proofs.Common.{◌≡◌, ◌∙◌, ℕ, ◌<◌, Bool, true, false, ◌&&◌, cond, List, [], ◌∷◌, ◌++◌, length, Option, Some, None, inl, inr, refl, sym, ap, subst, eqb-true, arith}
use Rattle.std.specs.Prelude.{◌==◌, not, if◌then◌else◌, filter, filter_map, flat_map, option_to_list, option_and_then, Contains}
use Rattle.std.specs.List.{list_all}
use Rattle.std.proofs.lemmas.Bool.{and_parts}
use Rattle.std.proofs.lemmas.Bool.Decides.{eqb_tells}
use Rattle.std.proofs.lemmas.List.{append-nil}
use Rattle.std.proofs.lemmas.List.Elements.{filter-append}
use Rattle.messages.specs.declared.envelope.Envelope.{Envelope}
use Rattle.messages.specs.declared.outcome.Outcome.{Outcome}
use Rattle.messages.specs.declared.event.ActorEvent.{ActorEvent}
use Rattle.messages.specs.declared.event.ActorEvent.TheVariants.{Submit, Handle, Collect}
use Rattle.messages.specs.Topology.{TopologyValue, is_topology, node_count}
use Rattle.messages.specs.Actors.{envelope_of, sent_in, sent_by}
use Rattle.store.proofs.lists.Lists.{none_in_empty, contains_first, contains_rest, first_or_rest}
use Rattle.actors.specs.Journals.{receipts_from, sends_to}
use Rattle.world.specs.declared.run_event.RunEvent.{RunEvent}
use Rattle.world.specs.Run.{run}
use Rattle.world.specs.Journals.{journal_in, sent_from, IsRunOf}
use Rattle.world.proofs.lists.Members.{contains_flat}
use Rattle.world.proofs.envelopes.Addresses.{stands}
use Rattle.world.proofs.promised.Laws.{quiet_means_done}
use Rattle.world.proofs.replays.OwnJournals.{run_journals}
use Rattle.threaded.specs.Machines.{StaysApart}
use Rattle.threaded.proofs.Stages.{runs_stay_apart}
use Rattle.threaded.proofs.Linked.{on_link, link_is}
use Rattle.threaded.proofs.Renumbered.{DoBegin, IsAllReceived, goes_quietly}
use Rattle.site.specs.Story.{Story, Happening, Did, Heard, Given, site_of, is_here, is_near, is_far, event_of, sends_of, journal, sent, heard, heard_by, given, handled, handled_by, arrivals, arrivals_by, departures, departures_by, MayHappen}
use Rattle.site.proofs.Lists.{whole}
use Rattle.sites.specs.Sites.{IsSiteStory, DoLive, DoMeet, journals_of}
use Rattle.sites.proofs.Senders.{machine_of, here_is, is_here_of}
use Rattle.sites.proofs.Stories.{site_there, stories_fit}
use Rattle.world.proofs.replays.Merged.{are_a_run}
use Rattle.by_sites.specs.Holds.{between, DidPass}
use Rattle.by_sites.specs.BySites.{AreOfQuietRun}
use Rattle.by_sites.proofs.Lists.{self, apart, filter_none}

-- ## Lists

module _ {X Y : Type 0} where
  filter_flat : (p : Y → Bool) (f : X → List Y) (xs : List X) → filter p (flat_map f xs) ≡ flat_map (λ x. filter p (f x)) xs
  filter_flat p f [] = refl
  filter_flat p f (x ∷ xs) = filter-append p (f x) (flat_map f xs) ∙ ap (λ l. filter p (f x) ++ l) (filter_flat p f xs)

  filter_mapped : (p : Y → Bool) (f : X → Option Y) (xs : List X) → filter p (filter_map f xs) ≡ flat_map (λ x. filter p (option_to_list (f x))) xs
  filter_mapped p f [] = refl
  filter_mapped p f (x ∷ xs) = by (f x) refl (filter_mapped p f xs)
    where
      by : (o : Option Y) → f x ≡ o → filter p (filter_map f xs) ≡ flat_map (λ z. filter p (option_to_list (f z))) xs
          → filter p (filter_map f (x ∷ xs)) ≡ filter p (option_to_list (f x)) ++ flat_map (λ z. filter p (option_to_list (f z))) xs
      by None q rest = rw q rest
      by (Some y) q rest = rw q (filter-append p (y ∷ []) (filter_map f xs) ∙ ap (λ l. filter p (y ∷ []) ++ l) rest)

  flat_alike : (f g : X → List Y) (xs : List X) → ((x : X) → Contains xs x → f x ≡ g x) → flat_map f xs ≡ flat_map g xs
  flat_alike f g [] same = refl
  flat_alike f g (x ∷ xs) same =
      ap (λ l. l ++ flat_map f xs) (same x (contains_first x xs)) ∙ ap (λ l. g x ++ l) (flat_alike f g xs (λ z has. same z (contains_rest x z xs has)))

mapped_twice : {X Y Z : Type 0} (g : Y → Option Z) (f : X → Option Y) (xs : List X) → filter_map g (filter_map f xs) ≡ filter_map (λ x. option_and_then g (f x)) xs
mapped_twice g f [] = refl
mapped_twice {X} {Y} g f (x ∷ xs) = by (f x) refl (mapped_twice g f xs)
  where
    by : (o : Option Y) → f x ≡ o → filter_map g (filter_map f xs) ≡ filter_map (λ z. option_and_then g (f z)) xs
        → filter_map g (filter_map f (x ∷ xs)) ≡ filter_map (λ z. option_and_then g (f z)) (x ∷ xs)
    by None q rest = rw q rest
    by (Some y) q rest = one (g y) refl
      where
        one : (o : Option _) → g y ≡ o → filter_map g (filter_map f (x ∷ xs)) ≡ filter_map (λ z. option_and_then g (f z)) (x ∷ xs)
        one None r = rw (q, r) rest
        one (Some z) r = rw (q, r) (ap (λ l. z ∷ l) rest)

filter_twice : {X : Type 0} (p q : X → Bool) (xs : List X) → filter p (filter q xs) ≡ filter (λ x. q x && p x) xs
filter_twice p q [] = refl
filter_twice p q (x ∷ xs) = by (q x) refl (filter_twice p q xs)
  where
    by : (b : Bool) → q x ≡ b → filter p (filter q xs) ≡ filter (λ z. q z && p z) xs → filter p (filter q (x ∷ xs)) ≡ filter (λ z. q z && p z) (x ∷ xs)
    by true r rest = rw r (ap (λ l. cond (p x) (x ∷ l) l) rest)
    by false r rest = rw r rest

filter_alike : {X : Type 0} (p q : X → Bool) (xs : List X) → ((x : X) → Contains xs x → p x ≡ q x) → filter p xs ≡ filter q xs
filter_alike p q [] same = refl
filter_alike p q (x ∷ xs) same =
    ap (λ b. cond b (x ∷ filter p xs) (filter p xs)) (same x (contains_first x xs))
    ∙ ap (λ l. cond (q x) (x ∷ l) l) (filter_alike p q xs (λ z has. same z (contains_rest x z xs has)))

filter_nothing : {X : Type 0} (xs : List X) → filter (λ x. false) xs ≡ []
filter_nothing [] = refl
filter_nothing (x ∷ xs) = filter_nothing xs

each_of : {X : Type 0} (p : X → Bool) (xs : List X) (x : X) → list_all p xs ≡ true → Contains xs x → p x ≡ true
each_of p [] x all m = absurd (none_in_empty x m)
each_of p (y ∷ ys) x all m = elim (first_or_rest y x ys m) [
  | inl same ↦ ap p (sym same) ∙ (and_parts (p y) (list_all p ys) all).0
  | inr there ↦ each_of p ys x (and_parts (p y) (list_all p ys) all).1 there
]

no_and : (b : Bool) → (b && false) ≡ false
no_and true = refl
no_and false = refl

-- ## One site

module _ (top : TopologyValue) (dc : ℕ) (s : Story) (is : IsSiteStory top dc s) (from to : ℕ) where
  abbrev pub on : Envelope → Bool
  on e = (e.from == from) && (e.to == to)

  abbrev pub goes : Envelope → Bool
  goes e = e.to == to

  may : (h : Happening) → Contains s h → MayHappen top dc h
  may = (is.0.moments s (whole s)).may

  -- what an event sent is of its actor
  own : (n : ℕ) (x : ActorEvent) (sends : List Envelope) (ended : Option (ℕ × Outcome)) → Contains s (Did n x sends ended) → (e : Envelope) → Contains sends e → e.from ≡ n
  own n x sends ended in_s e has =
      let all : sends_of n (Did n x sends ended) ≡ sends = ap (λ b. cond b sends []) (self n) in
      let there : Contains (sent s n) e = contains_flat (sends_of n) s (Did n x sends ended) e in_s (subst (λ l. Contains l e) (sym all) has) in
      eqb-true e.from n (each_of (λ (z : Envelope). z.from == n) (sent s n) e (is.1.own n (may (Did n x sends ended) in_s).0) there)

  abbrev pub Alike : Happening → Type 0
  Alike h = filter (λ (e : Envelope). e.from == from) (option_to_list (option_and_then envelope_of (event_of to h))) ≡ filter on (option_to_list (handled_by h))

  -- what an actor received is what was handled for it
  pub received : receipts_from from (journal s to) ≡ filter on (handled s)
  received =
      ap (filter (λ (e : Envelope). e.from == from)) (mapped_twice envelope_of (event_of to) s)
      ∙ filter_mapped (λ (e : Envelope). e.from == from) (λ h. option_and_then envelope_of (event_of to h)) s
      ∙ flat_alike (λ h. filter (λ (e : Envelope). e.from == from) (option_to_list (option_and_then envelope_of (event_of to h)))) (λ h. filter on (option_to_list (handled_by h))) s each
      ∙ sym (filter_mapped on handled_by s)
    where
      each : (h : Happening) → Contains s h → Alike h
      each (Did n (Submit o) sends ended) in_s = by (n == to)
        where
          by : (b : Bool) → filter (λ (e : Envelope). e.from == from) (option_to_list (option_and_then envelope_of (if b then Some (Submit o) else None))) ≡ []
          by true = refl
          by false = refl
      each (Did n (Collect time) sends ended) in_s = by (n == to)
        where
          by : (b : Bool) → filter (λ (e : Envelope). e.from == from) (option_to_list (option_and_then envelope_of (if b then Some (Collect time) else None))) ≡ []
          by true = refl
          by false = refl
      each (Did n (Handle e) sends ended) in_s = by (n == to) refl
        where
          its : e.to ≡ n
          its = (may (Did n (Handle e) sends ended) in_s).1

          by : (b : Bool) → (n == to) ≡ b
              → filter (λ (z : Envelope). z.from == from) (option_to_list (option_and_then envelope_of (if (n == to) then Some (Handle e) else None))) ≡ filter on (e ∷ [])
          by true q =
              ap (λ c. filter (λ (z : Envelope). z.from == from) (option_to_list (option_and_then envelope_of (if c then Some (Handle e) else None)))) q
              ∙ ap (λ c. cond c (e ∷ []) []) (sym (with_true (e.from == from)) ∙ ap (λ c. (e.from == from) && c) (sym (ap (λ k. k == to) its ∙ q)))
            where
              with_true : (c : Bool) → (c && true) ≡ c
              with_true true = refl
              with_true false = refl
          by false q =
              ap (λ c. filter (λ (z : Envelope). z.from == from) (option_to_list (option_and_then envelope_of (if c then Some (Handle e) else None)))) q
              ∙ ap (λ c. cond c (e ∷ []) []) (sym (no_and (e.from == from)) ∙ ap (λ c. (e.from == from) && c) (sym (ap (λ k. k == to) its ∙ q)))
      each (Heard q e) in_s = refl
      each (Given e) in_s = refl

  -- those of one actor's sends that pass a test that all for this node pass
  sends_there : (near : Envelope → Bool) → ((e : Envelope) → e.to ≡ to → near e ≡ true) → (n : ℕ) (sends : List Envelope) → ((e : Envelope) → Contains sends e → e.from ≡ n)
      → filter on (filter near sends) ≡ filter goes (if (n == from) then sends else [])
  sends_there near passes n sends of = filter_twice on near sends ∙ by (n == from) refl
    where
      by : (b : Bool) → (n == from) ≡ b → filter (λ e. near e && on e) sends ≡ filter goes (if (n == from) then sends else [])
      by true q = filter_alike (λ e. near e && on e) goes sends each ∙ ap (λ c. filter goes (if c then sends else [])) (sym q)
        where
          each : (e : Envelope) → Contains sends e → (near e && on e) ≡ goes e
          each e has = which (e.to == to) refl
            where
              first : (e.from == from) ≡ true
              first = ap (λ k. k == from) (of e has) ∙ q

              which : (b : Bool) → (e.to == to) ≡ b → (near e && ((e.from == from) && (e.to == to))) ≡ (e.to == to)
              which true r = rw (passes e (eqb-true e.to to r), first) refl
              which false r = rw (first, r) (no_and (near e))
      by false q = filter_alike (λ e. near e && on e) (λ e. false) sends each ∙ filter_nothing sends ∙ ap (λ c. filter goes (if c then sends else [])) (sym q)
        where
          each : (e : Envelope) → Contains sends e → (near e && on e) ≡ false
          each e has = ap (λ c. near e && (c && (e.to == to))) (ap (λ k. k == from) (of e has) ∙ q) ∙ no_and (near e)

  -- of what came, what one actor here sent another is what that sent
  pub arrived_near : is_here top dc from ≡ true → is_here top dc to ≡ true → filter on (arrivals top dc s) ≡ sends_to to (sent s from)
  arrived_near here there =
      filter_flat on (arrivals_by top dc) s ∙ flat_alike (λ h. filter on (arrivals_by top dc h)) (λ h. filter goes (sends_of from h)) s each ∙ sym (filter_flat goes (sends_of from) s)
    where
      near : (e : Envelope) → e.to ≡ to → is_near top dc e ≡ true
      near e q = ap (is_here top dc) q ∙ there

      each : (h : Happening) → Contains s h → filter on (arrivals_by top dc h) ≡ filter goes (sends_of from h)
      each (Did n x sends ended) in_s = sends_there (is_near top dc) near n sends (own n x sends ended in_s)
      each (Heard q e) in_s =
          let m = and_parts (not (q == dc)) (is_here top q e.from && is_near top dc e) (may (Heard q e) in_s) in
          let far = (and_parts (is_here top q e.from) (is_near top dc e) m.1).0 in
          filter_none on e (ap (λ b. b && (e.to == to)) (apart e.from from (λ same.
          let at_q : site_of top e.from ≡ q = (here_is top q e.from far).1 in
          let at_dc : site_of top e.from ≡ dc = ap (site_of top) same ∙ (here_is top dc from here).1 in
          let eq : (q == dc) ≡ true = ap (λ k. k == dc) (sym at_q ∙ at_dc) ∙ self dc in
          let no : not true ≡ true = sym (ap not eq) ∙ m.0 in
          absurd (cc))))
      each (Given e) in_s = refl

  -- and of another site's actor what was heard
  pub arrived_far : is_here top dc from ≡ false → filter on (arrivals top dc s) ≡ filter on (heard s)
  arrived_far away =
      filter_flat on (arrivals_by top dc) s ∙ flat_alike (λ h. filter on (arrivals_by top dc h)) (λ h. filter on (option_to_list (heard_by h))) s each ∙ sym (filter_mapped on heard_by s)
    where
      each : (h : Happening) → Contains s h → filter on (arrivals_by top dc h) ≡ filter on (option_to_list (heard_by h))
      each (Did n x sends ended) in_s =
          filter_twice on (is_near top dc) sends ∙ filter_alike (λ e. is_near top dc e && on e) (λ e. false) sends none ∙ filter_nothing sends
        where
          other : (n ≡ from → ⊥)
          other same = let both : true ≡ false = sym (may (Did n x sends ended) in_s).0 ∙ ap (is_here top dc) same ∙ away in absurd (cc)

          none : (e : Envelope) → Contains sends e → (is_near top dc e && on e) ≡ false
          none e has = ap (λ c. is_near top dc e && (c && (e.to == to))) (ap (λ k. k == from) (own n x sends ended in_s e has) ∙ apart n from other) ∙ no_and (is_near top dc e)
      each (Heard q e) in_s = refl
      each (Given e) in_s = refl

  -- of what was sent to other sites, what one actor here sent another there is what that sent
  pub departed_far : is_here top dc to ≡ false → filter on (departures top dc s) ≡ sends_to to (sent s from)
  departed_far away =
      filter_flat on (departures_by top dc) s ∙ flat_alike (λ h. filter on (departures_by top dc h)) (λ h. filter goes (sends_of from h)) s each ∙ sym (filter_flat goes (sends_of from) s)
    where
      far : (e : Envelope) → e.to ≡ to → is_far top dc e ≡ true
      far e q = ap not (ap (is_here top dc) q ∙ away)

      each : (h : Happening) → Contains s h → filter on (departures_by top dc h) ≡ filter goes (sends_of from h)
      each (Did n x sends ended) in_s = sends_there (is_far top dc) far n sends (own n x sends ended in_s)
      each (Heard q e) in_s = refl
      each (Given e) in_s = refl

-- ## All sites

module _ (top : TopologyValue) (stories : ℕ → Story) (ok : is_topology top.dcs top.shards top.homes ≡ true) (alive : DoLive top stories) (meet : DoMeet top stories)
    (passed : DidPass top stories []) (done : (dc : ℕ) → dc < top.dcs → handled (stories dc) ≡ arrivals top dc (stories dc))
    (gone : (dc : ℕ) → dc < top.dcs → given (stories dc) ≡ departures top dc (stories dc)) where
  abbrev at : ℕ → Story
  at node = stories (site_of top node)

  its : (node : ℕ) → IsSiteStory top (site_of top node) (at node)
  its node = alive (site_of top node) (site_there top ok node)

  here : (node : ℕ) → node < node_count top → is_here top (site_of top node) node ≡ true
  here node lt = is_here_of top (site_of top node) node lt refl

  not_here : (dc node : ℕ) → (site_of top node ≡ dc → ⊥) → is_here top dc node ≡ false
  not_here dc node ne = by (is_here top dc node) refl
    where
      by : (b : Bool) → is_here top dc node ≡ b → b ≡ false
      by false q = refl
      by true q = absurd (ne (here_is top dc node q).1)

  -- each actor received all that each sent to it
  all_received : (from to : ℕ) → from < node_count top → to < node_count top → receipts_from from (journals_of top stories to) ≡ sends_to to (sent (at from) from)
  all_received from to f t =
      received top (site_of top to) (at to) (its to) from to ∙ ap (between from to) (done (site_of top to) (site_there top ok to))
      ∙ elim (eqb_tells (site_of top from) (site_of top to)) [ inl same ↦ near same.1 | inr other ↦ far other.1 ]
    where
      near : site_of top from ≡ site_of top to → between from to (arrivals top (site_of top to) (at to)) ≡ sends_to to (sent (at from) from)
      near same =
          arrived_near top (site_of top to) (at to) (its to) from to (subst (λ d. is_here top d from ≡ true) same (here from f)) (here to t)
          ∙ ap (λ d. sends_to to (sent (stories d) from)) (sym same)

      far : (site_of top from ≡ site_of top to → ⊥) → between from to (arrivals top (site_of top to) (at to)) ≡ sends_to to (sent (at from) from)
      far other =
          arrived_far top (site_of top to) (at to) (its to) from to (not_here (site_of top to) from other)
          ∙ sym (append-nil (between from to (heard (at to)))) ∙ passed from to
          ∙ ap (between from to) (gone (site_of top from) (site_there top ok from))
          ∙ departed_far top (site_of top from) (at from) (its from) from to (not_here (site_of top from) to (λ q. other (sym q)))

  module _ (events : List RunEvent) (is : IsRunOf top (journals_of top stories) events) where
    -- what a run has from an actor is what that sent
    sends_here : (from : ℕ) → from < node_count top → sent_from (run top events) from ≡ sent (at from) from
    sends_here from lt =
        let some = (stands top ok).some in
        let r = (machine_of top (site_of top from) (at from) (its from) from (here from lt)).recorded in
        let i = r.came.comes (subst (λ l. StaysApart top from l) (is.each from lt) (runs_stay_apart top events from some)) in
        sym (ap sent_in ((run_journals top events some).each from)) ∙ ap (λ l. sent_by top from l) (is.each from lt) ∙ ap sent_in i.replays ∙ sym i.sends

    on_each : (from to : ℕ) → from < node_count top → to < node_count top → receipts_from from (journal_in (run top events) to) ≡ on_link from to (run top events).sent
    on_each from to f t =
        ap (receipts_from from) (is.each to t) ∙ all_received from to f t ∙ ap (sends_to to) (sym (sends_here from f)) ∙ link_is from to (run top events).sent

    begin_here : DoBegin top (run top events)
    begin_here from to f t = ([], sym (on_each from to f t) ∙ sym (append-nil (receipts_from from (journal_in (run top events) to))))

    received_here : IsAllReceived top (run top events)
    received_here from to f t = let same = ap (λ (l : List Envelope). length l) (on_each from to f t) in omega (arith, same)

    quietly : AreOfQuietRun top stories
    quietly =
        let q = goes_quietly top events ok begin_here received_here in
        record {
          events = q.events;
          is_run = record { is_run = q.is_run; each = λ node lt. q.journals node ∙ is.each node lt };
          quiet = q.quiet;
          settled = quiet_means_done top q.events ok q.quiet;
        }

  pub of_quiet_run : AreOfQuietRun top stories
  of_quiet_run = let r = are_a_run top (journals_of top stories) (stories_fit top stories ok alive meet) in quietly r.0 r.1

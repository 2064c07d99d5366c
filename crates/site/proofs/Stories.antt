-- A story of a site goes on.
use Rattle.std.proofs.Common.{◌≡◌, ◌∙◌, ℕ, Bool, true, false, List, [], ◌∷◌, ◌++◌, slice_get, Option, Some, None, ◌⊎◌, inl, inr, refl, sym, ap, subst, eq-eqb, eqb-true, append_assoc}
use Rattle.std.specs.Prelude.{◌==◌, ◌&&◌, not, slice_set, filter, option_to_list, Contains}
use Rattle.std.specs.List.{list_all}
use Rattle.std.proofs.lemmas.Bool.{and_parts}
use Rattle.std.proofs.lemmas.List.{append-nil}
use Rattle.std.proofs.lemmas.List.Elements.{Contains-append_cases}
use Rattle.std.proofs.lemmas.List.Concat.{flat_map-cons}
use Rattle.store.proofs.lists.Lists.{first_or_rest, none_in_empty, contains_first, contains_rest, kept_only}
use Rattle.logical_time.specs.declared.fault.Fault.{Fault}
use Rattle.logical_time.specs.declared.fault.Fault.TheVariants.{Memory}
use Rattle.messages.specs.declared.envelope.Envelope.{Envelope}
use Rattle.messages.specs.declared.outcome.Outcome.{Outcome}
use Rattle.messages.specs.declared.event.ActorEvent.{ActorEvent}
use Rattle.messages.specs.Topology.{TopologyValue}
use Rattle.messages.specs.Actors.{envelope_of}
use Rattle.actors.specs.CameFrom.{CameFrom}
use Rattle.actors.specs.Journals.{number_after}
use Rattle.actors.specs.Machines.{Refuses}
use Rattle.actors.specs.Members.{HasPast}
use Rattle.actors.specs.declared.member.Member.{Member}
use Rattle.actors.specs.declared.member.Happened.{Happened}
use Rattle.site.specs.Story.{Story, Happening, Did, Heard, Given, is_here, is_near, is_far, event_of, end_of, sends_of, journal, sent, outcomes, arrivals, arrivals_by, handled, handled_by, departures, departures_by, given, given_by, IsFor, MayHappen}
use Rattle.site.specs.Sites.{IsActor, IsMoment, IsStory, IsSound}
use Rattle.site.specs.Keeping.{AreOf, AreSound, MemberDid, MemberRefused}
use Rattle.site.specs.Turns.{is_sound}
use Rattle.site.proofs.Lists.{get_set, get_elsewhere, same_or_not, old_or_last, mapped_more, flat_more, begins, whole, list_all_both}

-- ## What a story tells of an actor

-- nothing of it happened
pub past_stays : {M : Type 0} (came_from : CameFrom M) (untaken : M → Option (ℕ × Outcome)) (top : TopologyValue) (s : Story) (h : Happening) (node : ℕ) (m : Member M)
    → event_of node h ≡ None → sends_of node h ≡ [] → end_of node h ≡ None → IsActor came_from untaken top s node m → IsActor came_from untaken top (s ++ h ∷ []) node m
past_stays {M} came_from untaken top s h node m none unsent unended is =
    let js : journal (s ++ h ∷ []) node ≡ journal s node = mapped_more (event_of node) s h None none ∙ append-nil (journal s node) in
    let os : outcomes (s ++ h ∷ []) node ≡ outcomes s node = mapped_more (end_of node) s h None unended ∙ append-nil (outcomes s node) in
    let es : sent (s ++ h ∷ []) node ≡ sent s node = flat_more (sends_of node) s h ∙ ap (λ l. sent s node ++ l) unsent ∙ append-nil (sent s node) in
    (is.0, rw (js, os, es) is.1)

-- an event of it happened
pub past_grows : {M : Type 0} (came_from : CameFrom M) (untaken : M → Option (ℕ × Outcome)) (top : TopologyValue) (s : Story) (node : ℕ) (x : ActorEvent) (sends : List Envelope) (ended : Option (ℕ × Outcome)) (m : Member M)
    → m.node ≡ node → HasPast came_from untaken top (journal s node ++ x ∷ []) (outcomes s node ++ option_to_list ended) (sent s node ++ sends) m
    → IsActor came_from untaken top (s ++ Did node x sends ended ∷ []) node m
past_grows {M} came_from untaken top s node x sends ended m its past =
    let h = Did node x sends ended in
    let self : (node == node) ≡ true = eq-eqb node node refl in
    let one : event_of node h ≡ Some x = rw self refl in
    let two : end_of node h ≡ ended = rw self refl in
    let three : sends_of node h ≡ sends = rw self refl in
    let js : journal (s ++ h ∷ []) node ≡ journal s node ++ x ∷ [] = mapped_more (event_of node) s h (Some x) one in
    let os : outcomes (s ++ h ∷ []) node ≡ outcomes s node ++ option_to_list ended = mapped_more (end_of node) s h ended two in
    let es : sent (s ++ h ∷ []) node ≡ sent s node ++ sends = flat_more (sends_of node) s h ∙ ap (λ l. sent s node ++ l) three in
    (its, rw (js, os, es) past)

-- an event of another happened
pub past_of_other : {M : Type 0} (came_from : CameFrom M) (untaken : M → Option (ℕ × Outcome)) (top : TopologyValue) (s : Story) (node : ℕ) (x : ActorEvent) (sends : List Envelope) (ended : Option (ℕ × Outcome)) (n : ℕ) (m : Member M)
    → (node ≡ n → ⊥) → IsActor came_from untaken top s n m → IsActor came_from untaken top (s ++ Did node x sends ended ∷ []) n m
past_of_other {M} came_from untaken top s node x sends ended n m other is =
    let differ : (node == n) ≡ false = apart (node == n) refl in
    past_stays came_from untaken top s (Did node x sends ended) n m (rw differ refl) (rw differ refl) (rw differ refl) is
  where
    apart : (b : Bool) → (node == n) ≡ b → (node == n) ≡ false
    apart false q = q
    apart true q = absurd (other (eqb-true node n q))

-- what others sent stays
sent_of_other : (s : Story) (node : ℕ) (x : ActorEvent) (sends : List Envelope) (ended : Option (ℕ × Outcome)) (n : ℕ) → (node ≡ n → ⊥) → sent (s ++ Did node x sends ended ∷ []) n ≡ sent s n
sent_of_other s node x sends ended n other =
    let differ : (node == n) ≡ false = apart (node == n) refl in
    let none : sends_of n (Did node x sends ended) ≡ [] = rw differ refl in
    flat_more (sends_of n) s (Did node x sends ended) ∙ ap (λ l. sent s n ++ l) none ∙ append-nil (sent s n)
  where
    apart : (b : Bool) → (node == n) ≡ b → (node == n) ≡ false
    apart false q = q
    apart true q = absurd (other (eqb-true node n q))

sent_of_it : (s : Story) (node : ℕ) (x : ActorEvent) (sends : List Envelope) (ended : Option (ℕ × Outcome)) → sent (s ++ Did node x sends ended ∷ []) node ≡ sent s node ++ sends
sent_of_it s node x sends ended =
    let self : (node == node) ≡ true = eq-eqb node node refl in
    let all : sends_of node (Did node x sends ended) ≡ sends = rw self refl in
    flat_more (sends_of node) s (Did node x sends ended) ∙ ap (λ l. sent s node ++ l) all

-- ## What came is for an actor here

by_near : (top : TopologyValue) (dc : ℕ) (h : Happening) (e : Envelope) → MayHappen top dc h → Contains (arrivals_by top dc h) e → is_near top dc e ≡ true
by_near top dc (Did node x sends ended) e may has = (kept_only (is_near top dc) sends e has).1
by_near top dc (Heard from z) e may has =
    let first = and_parts (not (from == dc)) (is_here top from z.from && is_near top dc z) may in
    let near = (and_parts (is_here top from z.from) (is_near top dc z) first.1).1 in
    elim (first_or_rest z e [] has) [ inl same ↦ subst (λ y. is_near top dc y ≡ true) same near | inr none ↦ absurd (none_in_empty e none) ]
by_near top dc (Given z) e may has = absurd (none_in_empty e has)

pub arrived_near : (top : TopologyValue) (dc : ℕ) (s : Story) (e : Envelope) → ((h : Happening) → Contains s h → MayHappen top dc h) → Contains (arrivals top dc s) e → is_near top dc e ≡ true
arrived_near top dc [] e may has = absurd (none_in_empty e has)
arrived_near top dc (h ∷ s) e may has =
    elim (Contains-append_cases (arrivals_by top dc h) (arrivals top dc s) e (subst (λ l. Contains l e) (flat_map-cons (arrivals_by top dc) h s) has)) [
      | inl now ↦ by_near top dc h e (may h (contains_first h s)) now
      | inr later ↦ arrived_near top dc s e (λ z in_s. may z (contains_rest h z s in_s)) later
    ]

-- ## Moments

module _ {M : Type 0} (came_from : CameFrom M) (untaken : M → Option (ℕ × Outcome)) (top : TopologyValue) (dc : ℕ) where
  pub moment : (s : Story) (members : List (Option (Member M))) (inbox outgoing fresh : List Envelope) → ((h : Happening) → Contains s h → MayHappen top dc h)
      → AreOf came_from untaken top dc s members inbox outgoing fresh → IsMoment came_from untaken top dc s
  moment s members inbox outgoing fresh may are = record {
    may = may;
    handles = (inbox ++ filter (is_near top dc) fresh, sym are.waits);
    gives = (outgoing ++ filter (is_far top dc) fresh, sym are.goes);
    actors = λ node here. let p = are.all node here in (p.0, (are.each node p.0 p.1).1);
  }

  pub all_may : (s : Story) → IsStory came_from untaken top dc s → (h : Happening) → Contains s h → MayHappen top dc h
  all_may s is = (is.moments s (whole s)).may

  may_more : (s : Story) (h : Happening) → IsStory came_from untaken top dc s → MayHappen top dc h → (z : Happening) → Contains (s ++ h ∷ []) z → MayHappen top dc z
  may_more s h is may z has = elim (old_or_last s h z has) [ inl old ↦ all_may s is z old | inr last ↦ subst (λ y. MayHappen top dc y) last may ]

  pub story_grows : (s : Story) (h : Happening) (members : List (Option (Member M))) (inbox outgoing fresh : List Envelope) → MayHappen top dc h
      → AreOf came_from untaken top dc (s ++ h ∷ []) members inbox outgoing fresh → IsStory came_from untaken top dc s → IsStory came_from untaken top dc (s ++ h ∷ [])
  story_grows s h members inbox outgoing fresh may are is = record {
    topology = is.topology;
    there = is.there;
    moments = λ b begun. elim (begins b s h begun.0 begun.1) [
      | inl old ↦ is.moments b old
      | inr all ↦ subst (λ z. IsMoment came_from untaken top dc z) (sym all) (moment (s ++ h ∷ []) members inbox outgoing fresh (may_more s h is may) are)
    ];
  }

  -- all that its members sent is theirs
  pub sound_story : (s : Story) (members : List (Option (Member M))) (inbox outgoing fresh : List Envelope) → AreOf came_from untaken top dc s members inbox outgoing fresh → AreSound s members → IsSound came_from untaken top dc s
  sound_story s members inbox outgoing fresh are sound = record {
    own = λ node here. let p = are.all node here in (sound node p.0 p.1).1;
    timed = λ node here. let p = are.all node here in (p.0, (are.each node p.0 p.1).1, (sound node p.0 p.1).0);
  }

-- nothing was sent
pub sound_same : {M : Type 0} (s : Story) (h : Happening) (members : List (Option (Member M))) → ((n : ℕ) → sends_of n h ≡ []) → AreSound s members → AreSound (s ++ h ∷ []) members
sound_same s h members none sound = λ node m at.
    let was = sound node m at in
    let same : sent (s ++ h ∷ []) node ≡ sent s node = flat_more (sends_of node) s h ∙ ap (λ l. sent s node ++ l) (none node) ∙ append-nil (sent s node) in
    (was.0, rw same was.1)

-- ## What a site keeps

module _ {M : Type 0} (came_from : CameFrom M) (untaken : M → Option (ℕ × Outcome)) (top : TopologyValue) (dc : ℕ) (s : Story) (members : List (Option (Member M))) where
  -- what the last event sent is sorted
  pub sorted : (inbox outgoing fresh inbox2 outgoing2 fresh2 : List Envelope) → inbox2 ≡ inbox ++ filter (is_near top dc) fresh → outgoing2 ≡ outgoing ++ filter (is_far top dc) fresh → fresh2 ≡ []
      → AreOf came_from untaken top dc s members inbox outgoing fresh → AreOf came_from untaken top dc s members inbox2 outgoing2 fresh2
  sorted inbox outgoing fresh inbox2 outgoing2 fresh2 a b c are = rw (a, b, c) (record {
    waits = ap (λ l. handled s ++ l) (append-nil (inbox ++ filter (is_near top dc) fresh)) ∙ are.waits;
    goes = ap (λ l. given s ++ l) (append-nil (outgoing ++ filter (is_far top dc) fresh)) ∙ are.goes;
    each = are.each;
    all = are.all;
  })

  -- an envelope came
  pub heard_keeps : (inbox outgoing : List Envelope) (from : ℕ) (e : Envelope)
      → AreOf came_from untaken top dc s members inbox outgoing [] → AreOf came_from untaken top dc (s ++ Heard from e ∷ []) members (inbox ++ e ∷ []) outgoing []
  heard_keeps inbox outgoing from e are = record {
    waits =
        ap (λ l. l ++ ((inbox ++ e ∷ []) ++ [])) (mapped_more handled_by s (Heard from e) None refl ∙ append-nil (handled s))
        ∙ ap (λ l. handled s ++ l) (append-nil (inbox ++ e ∷ []))
        ∙ sym (append_assoc (handled s) inbox (e ∷ []))
        ∙ ap (λ l. (handled s ++ l) ++ e ∷ []) (sym (append-nil inbox))
        ∙ ap (λ l. l ++ e ∷ []) are.waits
        ∙ sym (flat_more (arrivals_by top dc) s (Heard from e));
    goes =
        ap (λ l. l ++ (outgoing ++ [])) (mapped_more given_by s (Heard from e) None refl ∙ append-nil (given s))
        ∙ are.goes ∙ sym (append-nil (departures top dc s)) ∙ sym (flat_more (departures_by top dc) s (Heard from e));
    each = λ node m at. ((are.each node m at).0, past_stays came_from untaken top s (Heard from e) node m refl refl refl (are.each node m at).1);
    all = are.all;
  }

  -- an envelope was given away
  pub given_keeps : (inbox outgoing : List Envelope) (e : Envelope) → AreOf came_from untaken top dc s members inbox (e ∷ outgoing) []
      → AreOf came_from untaken top dc (s ++ Given e ∷ []) members inbox outgoing []
  given_keeps inbox outgoing e are = record {
    waits =
        ap (λ l. l ++ (inbox ++ [])) (mapped_more handled_by s (Given e) None refl ∙ append-nil (handled s))
        ∙ are.waits ∙ sym (append-nil (arrivals top dc s)) ∙ sym (flat_more (arrivals_by top dc) s (Given e));
    goes =
        ap (λ l. l ++ (outgoing ++ [])) (mapped_more given_by s (Given e) (Some e) refl)
        ∙ append_assoc (given s) (e ∷ []) (outgoing ++ [])
        ∙ are.goes ∙ sym (append-nil (departures top dc s)) ∙ sym (flat_more (departures_by top dc) s (Given e));
    each = λ node m at. ((are.each node m at).0, past_stays came_from untaken top s (Given e) node m refl refl refl (are.each node m at).1);
    all = are.all;
  }

  module _ (node : ℕ) (x : ActorEvent) (inbox outgoing : List Envelope) (are : AreOf came_from untaken top dc s members (option_to_list (envelope_of x) ++ inbox) outgoing []) where
    module _ (h : Happened) (sends : List Envelope) (after : List (Option (Member M))) (d : MemberDid came_from untaken members node x h sends after) where
      abbrev pub did : Happening
      did = Did node x sends h.ended

      here : (is_here top dc node ≡ true) × IsActor came_from untaken top s node d.old
      here = are.each node d.old d.at

      past : HasPast came_from untaken top (journal s node ++ x ∷ []) (outcomes s node ++ option_to_list h.ended) (sent s node ++ sends) d.new
      past = d.past top (journal s node) (outcomes s node) (sent s node) here.1.1

      grown : IsActor came_from untaken top (s ++ did ∷ []) node d.new
      grown = past_grows came_from untaken top s node x sends h.ended d.new (d.node ∙ here.1.0) past

      new_at : (m : Member M) → slice_get (slice_set members node (Some d.new)) node ≡ Some (Some m) → d.new ≡ m
      new_at m at =
          let both : Some (Some d.new) ≡ Some (Some m) = sym (get_set members node (Some d.new) (Some d.old) d.at) ∙ at in
          cc

      -- an actor did an event
      pub event_keeps : AreOf came_from untaken top dc (s ++ did ∷ []) after inbox outgoing sends
      event_keeps = record {
        waits =
            ap (λ l. l ++ (inbox ++ near)) (mapped_more handled_by s did (envelope_of x) refl)
            ∙ append_assoc (handled s) first (inbox ++ near)
            ∙ ap (λ l. handled s ++ l) (sym (append_assoc first inbox near))
            ∙ sym (append_assoc (handled s) (first ++ inbox) near)
            ∙ ap (λ l. (handled s ++ l) ++ near) (sym (append-nil (first ++ inbox)))
            ∙ ap (λ l. l ++ near) are.waits
            ∙ sym (flat_more (arrivals_by top dc) s did);
        goes =
            ap (λ l. l ++ (outgoing ++ far)) (mapped_more given_by s did None refl ∙ append-nil (given s))
            ∙ sym (append_assoc (given s) outgoing far)
            ∙ ap (λ l. (given s ++ l) ++ far) (sym (append-nil outgoing))
            ∙ ap (λ l. l ++ far) are.goes
            ∙ sym (flat_more (departures_by top dc) s did);
        each = λ n m at. each n m (subst (λ l. slice_get l n ≡ Some (Some m)) d.set at) (same_or_not node n);
        all = λ n z. all n z (same_or_not node n);
      }
        where
          first : List Envelope
          first = option_to_list (envelope_of x)

          near : List Envelope
          near = filter (is_near top dc) sends

          far : List Envelope
          far = filter (is_far top dc) sends

          each : (n : ℕ) (m : Member M) → slice_get (slice_set members node (Some d.new)) n ≡ Some (Some m) → ((node ≡ n) ⊎ (node ≡ n → ⊥)) → (is_here top dc n ≡ true) × IsActor came_from untaken top (s ++ did ∷ []) n m
          each n m at (inl same) =
              let there : slice_get (slice_set members node (Some d.new)) node ≡ Some (Some m) = subst (λ k. slice_get (slice_set members node (Some d.new)) k ≡ Some (Some m)) (sym same) at in
              subst (λ k. (is_here top dc k ≡ true) × IsActor came_from untaken top (s ++ did ∷ []) k m) same (here.0, subst (λ k. IsActor came_from untaken top (s ++ did ∷ []) node k) (new_at m there) grown)
          each n m at (inr other) =
              let before = are.each n m (sym (get_elsewhere members node n (Some d.new) other) ∙ at) in
              (before.0, past_of_other came_from untaken top s node x sends h.ended n m other before.1)

          all : (n : ℕ) → is_here top dc n ≡ true → ((node ≡ n) ⊎ (node ≡ n → ⊥)) → (m : Member M) × (slice_get after n ≡ Some (Some m))
          all n z (inl same) = (d.new, rw d.set (subst (λ k. slice_get (slice_set members node (Some d.new)) k ≡ Some (Some d.new)) same (get_set members node (Some d.new) (Some d.old) d.at)))
          all n z (inr other) = let p = are.all n z in (p.0, rw d.set (get_elsewhere members node n (Some d.new) other ∙ p.1))

      pub event_may : IsFor node x → MayHappen top dc did
      event_may its = (here.0, its)

      pub event_numbered : h.number ≡ number_after (journal s node) x
      event_numbered = d.number top (journal s node) (outcomes s node) (sent s node) here.1.1

      -- whether what it sent is its own
      pub event_sound : h.sound ≡ is_sound s node x sends
      event_sound =
          d.sound ∙ ap (λ n. list_all (λ (e : Envelope). e.from == n) sends && list_all (λ (e : Envelope). e.time == d.new.clock) sends) here.1.0
          ∙ ap (λ t. list_all (λ (e : Envelope). e.from == node) sends && list_all (λ (e : Envelope). e.time == t) sends) past.clocked

      pub event_sounds : h.sound ≡ true → AreSound s members → AreSound (s ++ did ∷ []) after
      event_sounds sound were = λ n m at. go n m (subst (λ l. slice_get l n ≡ Some (Some m)) d.set at) (same_or_not node n)
        where
          tests : (list_all (λ (e : Envelope). e.from == d.old.node) sends ≡ true) × (list_all (λ (e : Envelope). e.time == d.new.clock) sends ≡ true)
          tests = and_parts (list_all (λ (e : Envelope). e.from == d.old.node) sends) (list_all (λ (e : Envelope). e.time == d.new.clock) sends) (sym d.sound ∙ sound)

          before : (d.old.timed ≡ true) × (list_all (λ (e : Envelope). e.from == node) (sent s node) ≡ true)
          before = were node d.old d.at

          from : list_all (λ (e : Envelope). e.from == node) (sent (s ++ did ∷ []) node) ≡ true
          from = rw (sent_of_it s node x sends h.ended) (list_all_both (λ (e : Envelope). e.from == node) (sent s node) sends before.1 (subst (λ k. list_all (λ (e : Envelope). e.from == k) sends ≡ true) here.1.0 tests.0))

          timed : d.new.timed ≡ true
          timed = d.timed ∙ ap (λ b. b && list_all (λ (e : Envelope). e.time == d.new.clock) sends) before.0 ∙ tests.1

          go : (n : ℕ) (m : Member M) → slice_get (slice_set members node (Some d.new)) n ≡ Some (Some m) → ((node ≡ n) ⊎ (node ≡ n → ⊥)) → (m.timed ≡ true) × (list_all (λ (e : Envelope). e.from == n) (sent (s ++ did ∷ []) n) ≡ true)
          go n m at (inl same) =
              let there : slice_get (slice_set members node (Some d.new)) node ≡ Some (Some m) = subst (λ k. slice_get (slice_set members node (Some d.new)) k ≡ Some (Some m)) (sym same) at in
              (subst (λ (k : Member M). k.timed ≡ true) (new_at m there) timed, subst (λ k. list_all (λ (e : Envelope). e.from == k) (sent (s ++ did ∷ []) k) ≡ true) same from)
          go n m at (inr other) =
              let was = were n m (sym (get_elsewhere members node n (Some d.new) other) ∙ at) in
              (was.0, rw (sent_of_other s node x sends h.ended n other) was.1)

    -- it was refused, and all stays
    module _ (refuses : Refuses) (fault : Fault) (after : List (Option (Member M))) (d : MemberRefused came_from untaken refuses members node x fault after) where
      same_at : (m : Member M) → slice_get (slice_set members node (Some d.new)) node ≡ Some (Some m) → d.new ≡ m
      same_at m at =
          let both : Some (Some d.new) ≡ Some (Some m) = sym (get_set members node (Some d.new) (Some d.old) d.at) ∙ at in
          cc

      pub refusal_keeps : AreOf came_from untaken top dc s after (option_to_list (envelope_of x) ++ inbox) outgoing []
      refusal_keeps = record {
        waits = are.waits;
        goes = are.goes;
        each = λ n m at. each n m (subst (λ l. slice_get l n ≡ Some (Some m)) d.set at) (same_or_not node n);
        all = λ n z. all n z (same_or_not node n);
      }
        where
          was : (is_here top dc node ≡ true) × IsActor came_from untaken top s node d.old
          was = are.each node d.old d.at

          still : IsActor came_from untaken top s node d.new
          still = (d.node ∙ was.1.0, d.past top (journal s node) (outcomes s node) (sent s node) was.1.1)

          each : (n : ℕ) (m : Member M) → slice_get (slice_set members node (Some d.new)) n ≡ Some (Some m) → ((node ≡ n) ⊎ (node ≡ n → ⊥)) → (is_here top dc n ≡ true) × IsActor came_from untaken top s n m
          each n m at (inl same) =
              let there : slice_get (slice_set members node (Some d.new)) node ≡ Some (Some m) = subst (λ k. slice_get (slice_set members node (Some d.new)) k ≡ Some (Some m)) (sym same) at in
              subst (λ k. (is_here top dc k ≡ true) × IsActor came_from untaken top s k m) same (was.0, subst (λ k. IsActor came_from untaken top s node k) (same_at m there) still)
          each n m at (inr other) = are.each n m (sym (get_elsewhere members node n (Some d.new) other) ∙ at)

          all : (n : ℕ) → is_here top dc n ≡ true → ((node ≡ n) ⊎ (node ≡ n → ⊥)) → (m : Member M) × (slice_get after n ≡ Some (Some m))
          all n z (inl same) = (d.new, rw d.set (subst (λ k. slice_get (slice_set members node (Some d.new)) k ≡ Some (Some d.new)) same (get_set members node (Some d.new) (Some d.old) d.at)))
          all n z (inr other) = let p = are.all n z in (p.0, rw d.set (get_elsewhere members node n (Some d.new) other ∙ p.1))

      pub refusal_sounds : AreSound s members → AreSound s after
      refusal_sounds were = λ n m at. go n m (subst (λ l. slice_get l n ≡ Some (Some m)) d.set at) (same_or_not node n)
        where
          go : (n : ℕ) (m : Member M) → slice_get (slice_set members node (Some d.new)) n ≡ Some (Some m) → ((node ≡ n) ⊎ (node ≡ n → ⊥)) → (m.timed ≡ true) × (list_all (λ (e : Envelope). e.from == n) (sent s n) ≡ true)
          go n m at (inl same) =
              let there : slice_get (slice_set members node (Some d.new)) node ≡ Some (Some m) = subst (λ k. slice_get (slice_set members node (Some d.new)) k ≡ Some (Some m)) (sym same) at in
              let was = were node d.old d.at in
              (subst (λ (k : Member M). k.timed ≡ true) (same_at m there) (d.timed ∙ was.0), subst (λ k. list_all (λ (e : Envelope). e.from == k) (sent s k) ≡ true) same was.1)
          go n m at (inr other) = were n m (sym (get_elsewhere members node n (Some d.new) other) ∙ at)

      pub refusal_told : (fault ≡ Memory) ⊎ refuses top node (journal s node) x fault
      refusal_told =
          let was = are.each node d.old d.at in
          elim (d.refused top (journal s node) (outcomes s node) (sent s node) was.1.1) [
            | inl memory ↦ inl memory
            | inr refused ↦ inr (subst (λ n. refuses top n (journal s node) x fault) was.1.0 refused)
          ]

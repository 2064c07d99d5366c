-- Two stories of a site by the same steps.
use Rattle.std.proofs.Common.{◌≡◌, ◌∙◌, ℕ, true, List, [], ◌∷◌, ◌++◌, map, Option, Some, None, refl, sym, ap, subst, eq-eqb, arith}
use Rattle.std.specs.Prelude.{◌==◌, filter, filter_map, flat_map, option_to_list, Contains}
use Rattle.std.specs.List.{cons_option}
use Rattle.std.proofs.lemmas.List.{append-nil, append_assoc}
use Rattle.store.proofs.lists.Lists.{contains_first, kept_only}
use Rattle.messages.specs.declared.envelope.Envelope.{Envelope}
use Rattle.messages.specs.declared.outcome.Outcome.{Outcome}
use Rattle.messages.specs.declared.event.ActorEvent.{ActorEvent}
use Rattle.messages.specs.declared.event.ActorEvent.TheVariants.{Submit, Handle, Collect}
use Rattle.messages.specs.Topology.{TopologyValue}
use Rattle.messages.specs.Session.{Finished}
use Rattle.messages.specs.Actors.{opening_actor, Replayed, replay_of}
use Rattle.client.specs.State.{finished_of}
use Rattle.world.proofs.lists.Members.{Contains-append_right}
use Rattle.world.proofs.steps.Ticks.{step_ticks}
use Rattle.world.proofs.replays.Replays.{replay_push}
use Rattle.threaded.specs.Machines.{StaysApart, CameFrom, untaken_of, as_finished}
use Rattle.threaded.proofs.Lists.{same_rest}
use Rattle.threaded.proofs.Machines.{apart_before}
use Rattle.threaded.proofs.Going.{replay_takes}
use Rattle.site.specs.Story.{Story, Happening, Did, Heard, Given, is_here, is_near, event_of, sends_of, end_of, journal, sent, outcomes, arrivals, arrivals_by, handled, handled_by, MayHappen}
use Rattle.site.specs.Sites.{IsMoment}
use Rattle.site.specs.Steps.{Step, Asked, Came, Collected, step_of}
use Rattle.site.proofs.Lists.{mapped_more, flat_more}
use Rattle.sites.specs.Again.{lived}

-- ## What is lived through tells it all

-- what is picked of what happens, where nothing is of what is given
pub given_by_lived : {Y : Type 0} (f : Happening → Option Y) → ((e : Envelope) → f (Given e) ≡ None) → (s : Story) → filter_map f s ≡ filter_map f (lived s)
given_by_lived f none [] = refl
given_by_lived f none (Did node x sends ended ∷ s) = ap (cons_option (f (Did node x sends ended))) (given_by_lived f none s)
given_by_lived f none (Heard from e ∷ s) = ap (cons_option (f (Heard from e))) (given_by_lived f none s)
given_by_lived f none (Given e ∷ s) = ap (λ o. cons_option o (filter_map f s)) (none e) ∙ given_by_lived f none s

pub all_by_lived : {Y : Type 0} (f : Happening → List Y) → ((e : Envelope) → f (Given e) ≡ []) → (s : Story) → flat_map f s ≡ flat_map f (lived s)
all_by_lived f none [] = refl
all_by_lived f none (Did node x sends ended ∷ s) = ap (λ l. f (Did node x sends ended) ++ l) (all_by_lived f none s)
all_by_lived f none (Heard from e ∷ s) = ap (λ l. f (Heard from e) ++ l) (all_by_lived f none s)
all_by_lived f none (Given e ∷ s) = ap (λ l. l ++ flat_map f s) (none e) ∙ all_by_lived f none s

module _ (s t : Story) (same : lived s ≡ lived t) where
  alike : {Y : Type 0} (f : Happening → Option Y) → ((e : Envelope) → f (Given e) ≡ None) → filter_map f s ≡ filter_map f t
  alike f none = given_by_lived f none s ∙ ap (filter_map f) same ∙ sym (given_by_lived f none t)

  all_alike : {Y : Type 0} (f : Happening → List Y) → ((e : Envelope) → f (Given e) ≡ []) → flat_map f s ≡ flat_map f t
  all_alike f none = all_by_lived f none s ∙ ap (flat_map f) same ∙ sym (all_by_lived f none t)

  same_journal : (node : ℕ) → journal s node ≡ journal t node
  same_journal node = alike (event_of node) (λ e. refl)

  same_sent : (node : ℕ) → sent s node ≡ sent t node
  same_sent node = all_alike (sends_of node) (λ e. refl)

  same_outcomes : (node : ℕ) → outcomes s node ≡ outcomes t node
  same_outcomes node = alike (end_of node) (λ e. refl)

  same_handled : handled s ≡ handled t
  same_handled = alike handled_by (λ e. refl)

  same_arrivals : (top : TopologyValue) (dc : ℕ) → arrivals top dc s ≡ arrivals top dc t
  same_arrivals top dc = all_alike (arrivals_by top dc) (λ e. refl)

-- ## One event more

module _ (s : Story) (node : ℕ) (x : ActorEvent) (sends : List Envelope) (ended : Option (ℕ × Outcome)) where
  abbrev more : Story
  more = s ++ Did node x sends ended ∷ []

  self : (node == node) ≡ true
  self = eq-eqb node node refl

  journal_more : journal more node ≡ journal s node ++ x ∷ []
  journal_more = mapped_more (event_of node) s (Did node x sends ended) (Some x) (rw self refl)

  outcomes_more : outcomes more node ≡ outcomes s node ++ option_to_list ended
  outcomes_more = mapped_more (end_of node) s (Did node x sends ended) ended (rw self refl)

  sent_more : sent more node ≡ sent s node ++ sends
  sent_more =
      let all : sends_of node (Did node x sends ended) ≡ sends = rw self refl in
      flat_more (sends_of node) s (Did node x sends ended) ∙ ap (λ l. sent s node ++ l) all

-- ## What a journal's replay tells of a moment

-- the outcome that an outcome of a replay is
abbrev told_outcome : Finished → ℕ × Outcome
told_outcome f = (f.number, f.outcome)

told_back : (os : List (ℕ × Outcome)) → map told_outcome (map as_finished os) ≡ os
told_back [] = refl
told_back (p ∷ os) = ap (λ l. p ∷ l) (told_back os)

same_told : (os ps : List (ℕ × Outcome)) → map as_finished os ≡ map as_finished ps → os ≡ ps
same_told os ps q = sym (told_back os) ∙ ap (map told_outcome) q ∙ told_back ps

same_option : {X : Type 0} (o p : Option X) → option_to_list o ≡ option_to_list p → o ≡ p
same_option None None q = refl
same_option None (Some y) q = absurd (cc)
same_option (Some x) None q = absurd (cc)
same_option (Some x) (Some y) q = let is : x ≡ y = cc in ap Some is

-- Where stamps stay apart, the replay of an actor's journal sends what it sent, and finishes its outcomes.
record IsReplayed (top : TopologyValue) (s : Story) (node : ℕ) : Type 0 where
  pub replay : Replayed
  pub replays : replay_of top node (journal s node) ≡ Some replay
  pub sends : sent s node ≡ replay.sent
  pub ends : replay.finished ≡ map as_finished (outcomes s node)

replayed : (top : TopologyValue) (dc : ℕ) (s : Story) (node : ℕ) → IsMoment CameFrom untaken_of top dc s → is_here top dc node ≡ true → StaysApart top node (journal s node)
    → IsReplayed top s node
replayed top dc s node moment here apart =
    let a = moment.actors node here in
    let p = a.1.1 in
    let came : CameFrom top node (journal s node) (sent s node) (outcomes s node) a.0.machine =
    subst (λ n. CameFrom top n (journal s node) (sent s node) (outcomes s node) a.0.machine) a.1.0 p.came in
    let i = came.comes apart in
    record {
      replay = i.replay;
      replays = i.replays;
      sends = i.sends;
      ends = i.finishes ∙ ap (λ o. map as_finished (outcomes s node) ++ option_to_list (finished_of o)) p.taken ∙ append-nil (map as_finished (outcomes s node));
    }

-- ## The same event

module _ (top : TopologyValue) (dc : ℕ) (s t : Story) (same : lived s ≡ lived t) (node : ℕ) (x : ActorEvent) (sends others : List Envelope) (ended also : Option (ℕ × Outcome))
    (one : IsMoment CameFrom untaken_of top dc (s ++ Did node x sends ended ∷ [])) (two : IsMoment CameFrom untaken_of top dc (t ++ Did node x others also ∷ []))
    (here : is_here top dc node ≡ true) (apart : StaysApart top node (journal (s ++ Did node x sends ended ∷ []) node)) where
  journals_same : journal (s ++ Did node x sends ended ∷ []) node ≡ journal (t ++ Did node x others also ∷ []) node
  journals_same = journal_more s node x sends ended ∙ ap (λ l. l ++ x ∷ []) (same_journal s t same node) ∙ sym (journal_more t node x others also)

  -- it sends and ends the same
  event_same : Did node x sends ended ≡ Did node x others also
  event_same =
      let r = replayed top dc (s ++ Did node x sends ended ∷ []) node one here apart in
      let q = replayed top dc (t ++ Did node x others also ∷ []) node two here (subst (λ l. StaysApart top node l) journals_same apart) in
      let both : Some r.replay ≡ Some q.replay = sym r.replays ∙ ap (replay_of top node) journals_same ∙ q.replays in
      let replay : r.replay ≡ q.replay = cc in
      let sent_all : sent s node ++ sends ≡ sent s node ++ others =
      sym (sent_more s node x sends ended) ∙ r.sends ∙ ap (λ (z : Replayed). z.sent) replay ∙ sym q.sends ∙ sent_more t node x others also
      ∙ ap (λ l. l ++ others) (sym (same_sent s t same node)) in
      let ended_all : outcomes s node ++ option_to_list ended ≡ outcomes s node ++ option_to_list also =
      sym (outcomes_more s node x sends ended)
      ∙ same_told _ _ (sym r.ends ∙ ap (λ (z : Replayed). z.finished) replay ∙ q.ends)
      ∙ outcomes_more t node x others also ∙ ap (λ l. l ++ option_to_list also) (sym (same_outcomes s t same node)) in
      ap (λ l. Did node x l ended) (same_rest (sent s node) sends others sent_all)
      ∙ ap (λ o. Did node x others o) (same_option ended also (same_rest (outcomes s node) (option_to_list ended) (option_to_list also) ended_all))

-- ## The next envelope

module _ (top : TopologyValue) (dc : ℕ) (s : Story) (node : ℕ) (e : Envelope) (sends : List Envelope) (ended : Option (ℕ × Outcome))
    (before : IsMoment CameFrom untaken_of top dc s) (now : IsMoment CameFrom untaken_of top dc (s ++ Did node (Handle e) sends ended ∷ []))
    (here : is_here top dc node ≡ true) (apart : StaysApart top node (journal (s ++ Did node (Handle e) sends ended ∷ []) node)) where
  abbrev after : Story
  after = s ++ Did node (Handle e) sends ended ∷ []

  -- no event sends what it handles
  not_its_own : Contains sends e → ⊥
  not_its_own has =
      let apart_there : StaysApart top node (journal s node ++ Handle e ∷ []) = subst (λ l. StaysApart top node l) (journal_more s node (Handle e) sends ended) apart in
      let r = replayed top dc s node before here (apart_before top node (journal s node) (Handle e ∷ []) apart_there) in
      let q = replayed top dc after node now here apart in
      let goes : replay_of top node (journal s node ++ Handle e ∷ []) ≡ Some q.replay = ap (replay_of top node) (sym (journal_more s node (Handle e) sends ended)) ∙ q.replays in
      let t = replay_takes top node (opening_actor top node) (journal s node) (Handle e) r.replay q.replay r.replays goes in
      let pushed = replay_push top node (opening_actor top node) (journal s node) (Handle e) r.replay t.0 r.replays t.1 in
      let both : Some (record { state = t.0.state; sent = r.replay.sent ++ t.0.sends; finished = r.replay.finished ++ cons_option t.0.finishes [] }) ≡ Some q.replay = sym pushed ∙ goes in
      let whole : record { state = t.0.state; sent = r.replay.sent ++ t.0.sends; finished = r.replay.finished ++ cons_option t.0.finishes [] } ≡ q.replay = cc in
      let all : sent s node ++ sends ≡ sent s node ++ t.0.sends =
      sym (sent_more s node (Handle e) sends ended) ∙ q.sends ∙ ap (λ (z : Replayed). z.sent) (sym whole) ∙ ap (λ l. l ++ t.0.sends) (sym r.sends) in
      let its = subst (λ l. Contains l e) (same_rest (sent s node) sends t.0.sends all) has in
      let ticks = step_ticks top node r.replay.state (Handle e) t.0 t.1 in
      let at = (ticks.sends e its).1 in
      let above = ticks.handled e refl in
      omega (arith, at, above)

  -- what is handled waited first
  pub first_waits : (rest : List Envelope) × (arrivals top dc s ≡ handled s ++ e ∷ rest)
  first_waits =
      let near = filter (is_near top dc) sends in
      let split : handled s ++ (before.handles.0 ++ near) ≡ handled s ++ e ∷ now.handles.0 =
      sym (append_assoc (handled s) before.handles.0 near) ∙ ap (λ l. l ++ near) (sym before.handles.1)
      ∙ sym (flat_more (arrivals_by top dc) s (Did node (Handle e) sends ended)) ∙ now.handles.1
      ∙ ap (λ l. l ++ now.handles.0) (mapped_more handled_by s (Did node (Handle e) sends ended) (Some e) refl) ∙ append_assoc (handled s) (e ∷ []) now.handles.0 in
      go before.handles.0 before.handles.1 (same_rest (handled s) (before.handles.0 ++ near) (e ∷ now.handles.0) split)
    where
      go : (waiting : List Envelope) → arrivals top dc s ≡ handled s ++ waiting → waiting ++ filter (is_near top dc) sends ≡ e ∷ now.handles.0
          → (rest : List Envelope) × (arrivals top dc s ≡ handled s ++ e ∷ rest)
      go [] all q = absurd (not_its_own (kept_only (is_near top dc) sends e (subst (λ l. Contains l e) (sym q) (contains_first e now.handles.0))).0)
      go (z ∷ waiting) all q = let is : z ≡ e = cc in (waiting, all ∙ ap (λ y. handled s ++ y ∷ waiting) is)

-- so it is the same where the same waits
same_envelope : (top : TopologyValue) (dc : ℕ) (s t : Story) (node : ℕ) (e z : Envelope) (sends rest : List Envelope) (ended : Option (ℕ × Outcome)) → lived s ≡ lived t
    → arrivals top dc s ≡ handled s ++ e ∷ rest → IsMoment CameFrom untaken_of top dc (t ++ Did node (Handle z) sends ended ∷ []) → e ≡ z
same_envelope top dc s t node e z sends rest ended same first now =
    let near = filter (is_near top dc) sends in
    let split : handled t ++ (e ∷ rest ++ near) ≡ handled t ++ z ∷ now.handles.0 =
    sym (append_assoc (handled t) (e ∷ rest) near)
    ∙ ap (λ l. l ++ near) (ap (λ l. l ++ e ∷ rest) (sym (same_handled s t same)) ∙ sym first ∙ same_arrivals s t same top dc)
    ∙ sym (flat_more (arrivals_by top dc) t (Did node (Handle z) sends ended)) ∙ now.handles.1
    ∙ ap (λ l. l ++ now.handles.0) (mapped_more handled_by t (Did node (Handle z) sends ended) (Some z) refl) ∙ append_assoc (handled t) (z ∷ []) now.handles.0 in
    let both = same_rest (handled t) (e ∷ rest ++ near) (z ∷ now.handles.0) split in
    cc

-- ## The same step

may_last : (top : TopologyValue) (dc : ℕ) (s : Story) (h : Happening) → IsMoment CameFrom untaken_of top dc (s ++ h ∷ []) → MayHappen top dc h
may_last top dc s h moment = moment.may h (Contains-append_right s (h ∷ []) h (contains_first h []))

-- What happens by one step, after the same was lived through, is the same: where the first story's stamps stay apart.
module _ (top : TopologyValue) (dc : ℕ) (s t : Story) (same : lived s ≡ lived t) (before : IsMoment CameFrom untaken_of top dc s) where
  did_same : (n m : ℕ) (x y : ActorEvent) (sends others : List Envelope) (ended also : Option (ℕ × Outcome)) → n ≡ m → x ≡ y
      → IsMoment CameFrom untaken_of top dc (s ++ Did n x sends ended ∷ []) → IsMoment CameFrom untaken_of top dc (t ++ Did m y others also ∷ [])
      → is_here top dc n ≡ true → StaysApart top n (journal (s ++ Did n x sends ended ∷ []) n) → Did n x sends ended ≡ Did m y others also
  did_same n m x y sends others ended also actors events one two here apart =
      event_same top dc s t same n x sends others ended also one
      (subst (λ k. IsMoment CameFrom untaken_of top dc (t ++ Did k x others also ∷ [])) (sym actors)
      (subst (λ z. IsMoment CameFrom untaken_of top dc (t ++ Did m z others also ∷ [])) (sym events) two)) here apart
      ∙ ap (λ k. Did k x others also) actors ∙ ap (λ z. Did m z others also) events

  handled_same : (n m : ℕ) (e z : Envelope) (sends others : List Envelope) (ended also : Option (ℕ × Outcome))
      → IsMoment CameFrom untaken_of top dc (s ++ Did n (Handle e) sends ended ∷ []) → IsMoment CameFrom untaken_of top dc (t ++ Did m (Handle z) others also ∷ [])
      → StaysApart top n (journal (s ++ Did n (Handle e) sends ended ∷ []) n) → Did n (Handle e) sends ended ≡ Did m (Handle z) others also
  handled_same n m e z sends others ended also one two apart =
      let may = may_last top dc s (Did n (Handle e) sends ended) one in
      let first = first_waits top dc s n e sends ended before one may.0 apart in
      let is : e ≡ z = same_envelope top dc s t m e z others first.0 also same first.1 two in
      let their = (may_last top dc t (Did m (Handle z) others also) two).1 in
      did_same n m (Handle e) (Handle z) sends others ended also (sym may.1 ∙ ap (λ (y : Envelope). y.to) is ∙ their) (ap Handle is) one two may.0 apart

  pub same_step : (h g : Happening) (st : Step) → step_of h ≡ Some st → step_of g ≡ Some st
      → IsMoment CameFrom untaken_of top dc (s ++ h ∷ []) → IsMoment CameFrom untaken_of top dc (t ++ g ∷ [])
      → ((node : ℕ) → is_here top dc node ≡ true → StaysApart top node (journal (s ++ h ∷ []) node)) → h ≡ g
  same_step (Given e) g st p q one two apart = absurd (cc)
  same_step (Heard from e) (Given z) st p q one two apart = absurd (cc)
  same_step (Did n x sends ended) (Given z) st p q one two apart = absurd (cc)
  same_step (Heard from e) (Heard back z) st p q one two apart =
      let both : Came from e ≡ Came back z = cc in
      let centre : from ≡ back = cc in
      let envelope : e ≡ z = cc in
      ap (λ d. Heard d e) centre ∙ ap (λ y. Heard back y) envelope
  same_step (Heard from e) (Did m (Submit o) others also) st p q one two apart = absurd (cc)
  same_step (Heard from e) (Did m (Handle z) others also) st p q one two apart = absurd (cc)
  same_step (Heard from e) (Did m (Collect time) others also) st p q one two apart = absurd (cc)
  same_step (Did n (Submit o) sends ended) (Heard from z) st p q one two apart = absurd (cc)
  same_step (Did n (Handle e) sends ended) (Heard from z) st p q one two apart = absurd (cc)
  same_step (Did n (Collect time) sends ended) (Heard from z) st p q one two apart = absurd (cc)
  same_step (Did n (Submit o) sends ended) (Did m (Submit a) others also) st p q one two apart =
      let both : Asked n o ≡ Asked m a = cc in
      let actors : n ≡ m = cc in
      let ops : o ≡ a = cc in
      let here = (may_last top dc s (Did n (Submit o) sends ended) one).0 in
      did_same n m (Submit o) (Submit a) sends others ended also actors (ap Submit ops) one two here (apart n here)
  same_step (Did n (Submit o) sends ended) (Did m (Handle z) others also) st p q one two apart = absurd (cc)
  same_step (Did n (Submit o) sends ended) (Did m (Collect time) others also) st p q one two apart = absurd (cc)
  same_step (Did n (Handle e) sends ended) (Did m (Submit a) others also) st p q one two apart = absurd (cc)
  same_step (Did n (Handle e) sends ended) (Did m (Handle z) others also) st p q one two apart =
      handled_same n m e z sends others ended also one two (apart n (may_last top dc s (Did n (Handle e) sends ended) one).0)
  same_step (Did n (Handle e) sends ended) (Did m (Collect time) others also) st p q one two apart = absurd (cc)
  same_step (Did n (Collect time) sends ended) (Did m (Submit a) others also) st p q one two apart = absurd (cc)
  same_step (Did n (Collect time) sends ended) (Did m (Handle z) others also) st p q one two apart = absurd (cc)
  same_step (Did n (Collect time) sends ended) (Did m (Collect late) others also) st p q one two apart =
      let both : Collected n time ≡ Collected m late = cc in
      let actors : n ≡ m = cc in
      let times : time ≡ late = cc in
      let here = (may_last top dc s (Did n (Collect time) sends ended) one).0 in
      did_same n m (Collect time) (Collect late) sends others ended also actors (ap Collect times) one two here (apart n here)

-- What seats show tells whether their journals are a run.
use Rattle.std.proofs.Common.{◌≡◌, ◌∙◌, ℕ, zero, suc, ◌<◌, ◌≤◌, Bool, true, false, List, [], ◌∷◌, ◌++◌, length, take, drop, slice_get, Option, Some, None, inl, inr, refl, sym, ap, subst, arith, eqb-true, eq-eqb, le_refl}
use Rattle.std.specs.Prelude.{◌==◌, ◌↔◌, nat_lt, filter_map, Contains}
use Rattle.std.specs.Option.{unwrap_or}
use Rattle.std.specs.List.{cons_option}
use Rattle.std.proofs.lemmas.Bool.Decides.{nat_tests}
use Rattle.std.proofs.lemmas.Option.{slice_get_past, slice_get_within}
use Rattle.std.proofs.lemmas.List.{take-append-drop, take-append-le}
use Rattle.std.proofs.Math.Seq.{take-length}
use Rattle.messages.specs.declared.envelope.Envelope.{Envelope}
use Rattle.messages.specs.declared.event.ActorEvent.{ActorEvent}
use Rattle.messages.specs.declared.event.ActorEvent.TheVariants.{Handle}
use Rattle.messages.specs.Topology.{TopologyValue, node_count}
use Rattle.messages.specs.Actors.{clock_of, envelope_of, opening_actor, Replayed, replay_of, sent_in, sent_by}
use Rattle.store.proofs.lists.Lists.{given}
use Rattle.actors.specs.Journals.{receipts_from, sends_to}
use Rattle.world.specs.declared.run_event.RunEvent.{RunEvent}
use Rattle.world.specs.Run.{Run, run}
use Rattle.world.specs.Journals.{actor_in, journal_in, held_in, sent_from, DoFit}
use Rattle.world.proofs.lists.Members.{none_in_empty, contains_first, contains_rest, Contains-append_left, Contains-append_right, Contains-append_cases, contains_filter, filter_contains, contains_get, contains_at}
use Rattle.world.proofs.steps.Ticks.{step_ticks}
use Rattle.world.proofs.replays.Replays.{replay_push, NextAbove, rest_above}
use Rattle.world.proofs.replays.OwnJournals.{run_journals, runs_fit}
use Rattle.world.proofs.replays.Merged.{are_a_run}
use Rattle.threaded.specs.Machines.{StaysApart}
use Rattle.threaded.specs.OneRun.{DoLinksMatch}
use Rattle.actors.specs.Shown.{Shown, mark_after, sent_after, clock_from, clock_after, AreTimed}
use Rattle.threaded.specs.Shown.{DidCome, DoShownMatch, HaveSenders, IsTold}
use Rattle.threaded.proofs.Lists.{same_rest, take_one_more}
use Rattle.threaded.proofs.Machines.{apart_before}
use Rattle.threaded.proofs.Going.{replay_takes, replay_continues}
use Rattle.threaded.proofs.Clocks.{step_clock, clock_told, IsAbove, done_up_to}
use Rattle.threaded.proofs.Stages.{runs_stay_apart, DoGoOn, IsReached, AreSentBefore, are_ordered}

-- ## Lists

-- what stands below a length is in the beginning of that length
get_take : {X : Type 0} (xs : List X) (i n : ℕ) (x : X) → slice_get xs i ≡ Some x → i < n → Contains (take n xs) x
get_take [] i n x at lt = absurd (cc)
get_take (y ∷ ys) i zero x at lt = absurd (omega arith)
get_take (y ∷ ys) zero (suc n) x at lt = contains_get (y ∷ take n ys) zero x at
get_take (y ∷ ys) (suc i) (suc n) x at lt = contains_rest y x (take n ys) (get_take ys i n x at (omega arith))

-- the part of a list between two lengths
record Segment {X : Type 0} (xs : List X) (first last : ℕ) (x : X) : Type 0 where
  pub part : List X
  pub whole : take last xs ≡ take first xs ++ part
  pub among : Contains part x

segment : {X : Type 0} (xs : List X) (first last i : ℕ) (x : X) → first ≤ i → i < last → slice_get xs i ≡ Some x → Segment xs first last x
segment [] first last i x le lt at = absurd (cc)
segment (y ∷ ys) zero last i x le lt at = record { part = take last (y ∷ ys); whole = refl; among = get_take (y ∷ ys) i last x at lt }
segment (y ∷ ys) (suc first) zero i x le lt at = absurd (omega arith)
segment (y ∷ ys) (suc first) (suc last) zero x le lt at = absurd (omega arith)
segment (y ∷ ys) (suc first) (suc last) (suc i) x le lt at =
    let s = segment ys first last i x (omega arith) (omega arith) at in
    record { part = s.part; whole = ap (λ l. y ∷ l) s.whole; among = s.among }

-- the event that sent what stands at a place
pub record MarkedAt (marks : List ℕ) (count i : ℕ) : Type 0 where
  pub k : ℕ
  pub within : k < count
  pub from : mark_after marks k ≤ i
  pub below : i < mark_after marks (suc k)

marked_at : (marks : List ℕ) (i count : ℕ) → i < mark_after marks count → MarkedAt marks count i
marked_at marks i zero lt = absurd (omega arith)
marked_at marks i (suc k) lt = by (nat_lt i (mark_after marks k)) refl (λ before. marked_at marks i k before)
  where
    by : (b : Bool) → nat_lt i (mark_after marks k) ≡ b → (i < mark_after marks k → MarkedAt marks k i) → MarkedAt marks (suc k) i
    by true q earlier =
        let before : i < mark_after marks k = grind (arith, nat_tests) in
        let m = earlier before in
        let within = m.within in
        record { k = m.k; within = omega arith; from = m.from; below = m.below }
    by false q earlier = record { k = k; within = omega arith; from = grind (arith, nat_tests); below = lt }

-- what a beginning of a list is of the whole
take_within : {X : Type 0} (done left : List X) (n : ℕ) → n ≤ length done → done ≡ take n (done ++ left) ++ drop n done
take_within done left n le = sym (take-append-drop n done) ∙ ap (λ l. l ++ drop n done) (sym (take-append-le n done left le))

-- no event sends past the last mark
mark_within : (marks : List ℕ) (k i : ℕ) → i < mark_after marks (suc k) → k < length marks
mark_within marks k i lt = by (nat_lt k (length marks)) refl
  where
    by : (b : Bool) → nat_lt k (length marks) ≡ b → k < length marks
    by true q = grind (arith, nat_tests)
    by false q =
        let past : length marks ≤ k = grind (arith, nat_tests) in
        let none : mark_after marks (suc k) ≡ 0 = ap (λ o. unwrap_or o 0) (slice_get_past marks k past) in
        absurd (omega arith)

event_at : {X : Type 0} (xs : List X) (k : ℕ) → k < length xs → (x : X) × (slice_get xs k ≡ Some x)
event_at [] k lt = absurd (omega arith)
event_at (x ∷ xs) zero lt = (x, refl)
event_at (x ∷ xs) (suc k) lt = event_at xs k (omega arith)

-- what is handled from a node is a receipt from there
among_receipts : (e : Envelope) (journal : List ActorEvent) → Contains journal (Handle e) → Contains (receipts_from e.from journal) e
among_receipts e journal m =
    contains_filter (λ (z : Envelope). z.from == e.from) (filter_map envelope_of journal) e
    (given envelope_of journal (Handle e) e m refl) (eq-eqb e.from e.from refl)

-- ## One actor

module _ (top : TopologyValue) (node : ℕ) (s : Shown) (along : DidCome top node s) where
  -- up to so many events, where stamps stay apart
  pub record IsSoFar (k : ℕ) : Type 0 where
    pub replay : Replayed
    pub replays : replay_of top node (take k s.journal) ≡ Some replay
    pub sends : sent_after s k ≡ replay.sent

  pub so_far : (k : ℕ) → k ≤ length s.journal → StaysApart top node (take k s.journal) → IsSoFar k
  so_far k le apart =
      let c = along.came k le in
      let i = c.2.comes apart in
      record { replay = i.replay; replays = i.replays; sends = i.sends }

  pub goes_on : (before : List ActorEvent) (x : ActorEvent) (after : List ActorEvent) → s.journal ≡ before ++ x ∷ after → StaysApart top node before
      → (r : Replayed) × (replay_of top node (before ++ x ∷ []) ≡ Some r)
  goes_on before x after whole apart =
      let c = along.came (length s.journal) (le_refl (length s.journal)) in
      c.2.goes before x after (take-length s.journal ∙ whole) apart

  -- what stands at a place was sent by an event
  pub sent_where : (i : ℕ) (e : Envelope) → slice_get s.sent i ≡ Some e → MarkedAt s.marks (length s.journal) i
  sent_where i e at =
      let within = slice_get_within s.sent i e at in
      marked_at s.marks i (length s.journal) (subst (λ n. i < n) (sym along.all) within)

  -- ## Where stamps stay apart along the whole journal

  module _ (apart : StaysApart top node s.journal) where
    apart_to : (k : ℕ) → StaysApart top node (take k s.journal)
    apart_to k =
        apart_before top node (take k s.journal) (drop k s.journal) (subst (λ l. StaysApart top node l) (sym (take-append-drop k s.journal)) apart)

    pub is_told : IsTold top node s
    is_told =
        let f = so_far (length s.journal) (le_refl (length s.journal)) (apart_to (length s.journal)) in
        let all : sent_after s (length s.journal) ≡ s.sent = ap (λ n. take n s.sent) along.all ∙ take-length s.sent in
        record {
          apart = apart;
          replay = f.replay;
          replays = ap (replay_of top node) (sym (take-length s.journal)) ∙ f.replays;
          sends = sym all ∙ f.sends;
        }

    -- what an event sends carries its clock
    pub are_timed : AreTimed s
    are_timed k i e from below at =
        let within : k < length s.journal = subst (λ n. k < n) along.marked (mark_within s.marks k i below) in
        let x = event_at s.journal k within in
        let one : take (suc k) s.journal ≡ take k s.journal ++ x.0 ∷ [] = take_one_more s.journal k x.0 x.1 in
        let f = so_far k (omega arith) (apart_to k) in
        let g = so_far (suc k) (omega arith) (apart_to (suc k)) in
        let t = replay_takes top node (opening_actor top node) (take k s.journal) x.0 f.replay g.replay f.replays
        (ap (replay_of top node) (sym one) ∙ g.replays) in
        let pushed = replay_push top node (opening_actor top node) (take k s.journal) x.0 f.replay t.0 f.replays t.1 in
        let both : Some (record { state = t.0.state; sent = f.replay.sent ++ t.0.sends; finished = f.replay.finished ++ cons_option t.0.finishes [] }) ≡ Some g.replay =
        sym pushed ∙ ap (replay_of top node) (sym one) ∙ g.replays in
        let same : record { state = t.0.state; sent = f.replay.sent ++ t.0.sends; finished = f.replay.finished ++ cons_option t.0.finishes [] } ≡ g.replay = cc in
        let p = segment s.sent (mark_after s.marks k) (mark_after s.marks (suc k)) i e from below at in
        let split : sent_after s k ++ p.part ≡ sent_after s k ++ t.0.sends =
        sym p.whole ∙ g.sends ∙ ap (λ (z : Replayed). z.sent) (sym same) ∙ ap (λ l. l ++ t.0.sends) (sym f.sends) in
        let rest = same_rest (sent_after s k) p.part t.0.sends split in
        let now = subst (λ l. Contains l e) rest p.among in
        let time = ((step_ticks top node f.replay.state x.0 t.0 t.1).sends e now).1 in
        time ∙ ap (λ (z : Replayed). clock_of z.state) same ∙ clock_told top node (take (suc k) s.journal) g.replay g.replays

-- ## What a run tells of all actors

module _ (top : TopologyValue) (shown : ℕ → Shown) (some : 0 < top.shards) (along : (node : ℕ) → node < node_count top → DidCome top node (shown node)) where
  module _ (fit : DoFit top (λ n. (shown n).journal)) where
    all_apart : (node : ℕ) → node < node_count top → StaysApart top node (shown node).journal
    all_apart node lt =
        let r = are_a_run top (λ n. (shown n).journal) fit in
        subst (λ l. StaysApart top node l) (r.1.each node lt) (runs_stay_apart top r.0 node some)

    pub all_told : (node : ℕ) → node < node_count top → IsTold top node (shown node)
    all_told node lt = is_told top node (shown node) (along node lt) (all_apart node lt)

    pub all_timed : (node : ℕ) → node < node_count top → AreTimed (shown node)
    all_timed node lt = are_timed top node (shown node) (along node lt) (all_apart node lt)

    -- what is shown is what the journal sends
    shown_is_sent : (from to : ℕ) → from < node_count top → sends_to to (shown from).sent ≡ sends_to to (sent_by top from (shown from).journal)
    shown_is_sent from to lt = let t = all_told from lt in ap (sends_to to) (t.sends ∙ sym (ap sent_in t.replays))

    pub links_match : DoShownMatch top shown → DoLinksMatch top (λ n. (shown n).journal)
    links_match match from to f t = let b = match from to f t in (b.0, sym (shown_is_sent from to f) ∙ b.1)

    pub shown_match : DoLinksMatch top (λ n. (shown n).journal) → DoShownMatch top shown
    shown_match match from to f t = let b = match from to f t in (b.0, shown_is_sent from to f ∙ b.1)

    pub match_alike : DoShownMatch top shown ↔ DoLinksMatch top (λ n. (shown n).journal)
    match_alike = (links_match, shown_match)

-- ## All actors

module _ (top : TopologyValue) (shown : ℕ → Shown) (some : 0 < top.shards) (along : (node : ℕ) → node < node_count top → DidCome top node (shown node))
    (senders : HaveSenders top shown) where
  go_on : DoGoOn top (λ n. (shown n).journal) some
  go_on node before x after lt = goes_on top node (shown node) (along node lt) before x after

  among_whole : (done : List ActorEvent) (e : Envelope) (more journal : List ActorEvent) → journal ≡ done ++ Handle e ∷ more → Contains journal (Handle e)
  among_whole done e more journal whole = subst (λ l. Contains l (Handle e)) (sym whole) (Contains-append_right done (Handle e ∷ more) (Handle e) (contains_first (Handle e) more))

  sender_of : (node : ℕ) (e : Envelope) → node < node_count top → Contains (shown node).journal (Handle e) → e.from < node_count top
  sender_of node e lt m = senders node e lt m

  -- ## By what is shown

  module _ (timed : (node : ℕ) → node < node_count top → AreTimed (shown node)) (match : DoShownMatch top shown) where
    -- what was sent up to a clock is sent by those who have come so far
    sent_so_far : (events : List RunEvent) (clock m i : ℕ) (e : Envelope) (lt : m < node_count top)
        → IsReached top (λ n. (shown n).journal) some (journal_in (run top events) m) m clock
        → slice_get (shown m).sent i ≡ Some e → e.time ≤ clock → Contains (run top events).sent e
    sent_so_far events clock m i e lt d at le =
        let w = run top events in
        let s = shown m in
        let p = sent_where top m s (along m lt) i e at in
        let time = timed m lt p.k i e p.from p.below at in
        let short : p.k < length (journal_in w m) =
        done_up_to clock (journal_in w m) d.left p.k d.above (subst (λ l. p.k < length l) d.whole p.within)
        (subst (λ l. clock_after l (suc p.k) ≤ clock) d.whole (subst (λ z. z ≤ clock) time le)) in
        let begins : journal_in w m ≡ take (suc p.k) s.journal ++ drop (suc p.k) (journal_in w m) =
        take_within (journal_in w m) d.left (suc p.k) short ∙ ap (λ l. take (suc p.k) l ++ drop (suc p.k) (journal_in w m)) (sym d.whole) in
        let apart : StaysApart top m (take (suc p.k) s.journal) =
        apart_before top m (take (suc p.k) s.journal) (drop (suc p.k) (journal_in w m))
        (subst (λ l. StaysApart top m l) begins (runs_stay_apart top events m some)) in
        let f = so_far top m s (along m lt) (suc p.k) p.within apart in
        let early = subst (λ l. Contains l e) f.sends (get_take s.sent i (mark_after s.marks (suc p.k)) e at p.below) in
        let c = replay_continues top m (opening_actor top m) (take (suc p.k) s.journal) (drop (suc p.k) (journal_in w m)) f.replay (held_in top w m) f.replays
        (ap (replay_of top m) (sym begins) ∙ (run_journals top events some).each m) in
        let held : Contains (sent_from w m) e = subst (λ l. Contains l e) (sym c.sent) (Contains-append_left f.replay.sent c.rest.sent e early) in
        (filter_contains (λ (z : Envelope). z.from == m) w.sent e held).0

    shown_before : AreSentBefore top (λ n. (shown n).journal) some
    shown_before events clock node e more lt reached whole le =
        let has = among_whole (journal_in (run top events) node) e more (shown node).journal whole in
        let from = sender_of node e lt has in
        let b = match e.from node from lt in
        let sent = filter_contains (λ (z : Envelope). z.to == node) (shown e.from).sent e
        (subst (λ l. Contains l e) (sym b.1) (Contains-append_left (receipts_from e.from (shown node).journal) b.0 e (among_receipts e (shown node).journal has))) in
        let i = contains_at (shown e.from).sent e sent.0 in
        (eqb-true e.to node sent.1, sent_so_far events clock e.from i.0 e from (reached e.from from) i.1 le)

    pub shown_fit : DoFit top (λ n. (shown n).journal)
    shown_fit =
        let r = are_ordered top (λ n. (shown n).journal) some go_on shown_before in
        runs_fit top (λ n. (shown n).journal) r.0 some r.1

  -- ## By what the journals send

  module _ (match : DoLinksMatch top (λ n. (shown n).journal)) where
    next_is_above : (m limit : ℕ) (w : Run) (left : List ActorEvent) → clock_of (actor_in top w m) ≡ clock_from 0 (journal_in w m)
        → IsAbove limit (clock_from 0 (journal_in w m)) left → NextAbove top m limit (actor_in top w m) left
    next_is_above m limit w [] at up = tt
    next_is_above m limit w (x ∷ xs) at up = λ s takes.
        let next = step_clock top m (actor_in top w m) x s takes in
        let now : IsAbove limit (clock_of (actor_in top w m)) (x ∷ xs) = subst (λ c. IsAbove limit c (x ∷ xs)) (sym at) up in
        subst (λ c. limit < c) (sym next) now

    sends_so_far : (events : List RunEvent) (clock m : ℕ) (e : Envelope)
        → IsReached top (λ n. (shown n).journal) some (journal_in (run top events) m) m clock
        → Contains (sent_by top m (shown m).journal) e → e.time ≤ clock → Contains (run top events).sent e
    sends_so_far events clock m e d sent le = by (replay_of top m (shown m).journal) refl sent
      where
        by : (o : Option Replayed) → replay_of top m (shown m).journal ≡ o → Contains (sent_in o) e → Contains (run top events).sent e
        by None q sent = absurd (none_in_empty e sent)
        by (Some r) q sent =
            let w = run top events in
            let law = (run_journals top events some).each m in
            let c = replay_continues top m (opening_actor top m) (journal_in w m) d.left (held_in top w m) r law (ap (replay_of top m) (sym d.whole) ∙ q) in
            elim (Contains-append_cases (sent_from w m) c.rest.sent e (subst (λ l. Contains l e) c.sent sent)) [
              | inl now ↦ (filter_contains (λ (z : Envelope). z.from == m) w.sent e now).0
              | inr later ↦
                  let above = rest_above top m clock (actor_in top w m) d.left c.rest c.replays
                  (next_is_above m clock w d.left (clock_told top m (journal_in w m) (held_in top w m) law) d.above) e later in
                  absurd (omega arith)
            ]

    matching_before : AreSentBefore top (λ n. (shown n).journal) some
    matching_before events clock node e more lt reached whole le =
        let has = among_whole (journal_in (run top events) node) e more (shown node).journal whole in
        let from = sender_of node e lt has in
        let b = match e.from node from lt in
        let sent = filter_contains (λ (z : Envelope). z.to == node) (sent_by top e.from (shown e.from).journal) e
        (subst (λ l. Contains l e) (sym b.1) (Contains-append_left (receipts_from e.from (shown node).journal) b.0 e (among_receipts e (shown node).journal has))) in
        (eqb-true e.to node sent.1, sends_so_far events clock e.from e (reached e.from from) sent.0 le)

    pub matching_fit : DoFit top (λ n. (shown n).journal)
    matching_fit =
        let r = are_ordered top (λ n. (shown n).journal) some go_on matching_before in
        runs_fit top (λ n. (shown n).journal) r.0 some r.1

  -- ## By a comparison

  -- the comparison tells exactly whether the links match
  pub compared : (((node : ℕ) → node < node_count top → AreTimed (shown node)) × DoShownMatch top shown) ↔ DoLinksMatch top (λ n. (shown n).journal)
  compared = (λ both. links_match top shown some along (shown_fit both.0 both.1) both.1, λ match. (all_timed top shown some along (matching_fit match), shown_match top shown some along (matching_fit match) match))

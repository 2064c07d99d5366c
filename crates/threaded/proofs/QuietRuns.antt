-- Where a run is quiet, each actor received all that was sent to it; and where seats received all, their journals are those of a
-- quiet run.
use Rattle.std.proofs.Common.{◌≡◌, ◌∙◌, ℕ, zero, suc, ◌<◌, ◌≤◌, Bool, true, false, ◌&&◌, cond, not, List, [], ◌∷◌, ◌++◌, length, Option, Some, None, inl, inr, refl, sym, ap, subst, arith, slice_get}
use Rattle.std.specs.Prelude.{◌==◌, if◌then◌else◌, filter, filter_map, option_and_then, Contains}
use Rattle.std.specs.List.{cons_option}
use Rattle.std.proofs.lemmas.Bool.Decides.{nat_tests}
use Rattle.std.proofs.lemmas.List.{length-append}
use Rattle.std.proofs.lemmas.Option.{slice_get_within}
use Rattle.messages.specs.declared.envelope.Envelope.{Envelope}
use Rattle.messages.specs.declared.event.ActorEvent.{ActorEvent}
use Rattle.messages.specs.declared.event.ActorEvent.TheVariants.{Submit as SubmitHere, Handle, Collect as CollectHere}
use Rattle.messages.specs.Topology.{TopologyValue, is_shard, node_count}
use Rattle.messages.specs.Session.{is_idle}
use Rattle.messages.specs.Actors.{OfShard, OfSession, sent_in, sent_by}
use Rattle.store.proofs.lists.Lists.{given, given_only}
use Rattle.actors.specs.Journals.{receipts_from, sends_to}
use Rattle.actors.specs.Seats.{SeatValue}
use Rattle.world.specs.declared.run_event.RunEvent.{RunEvent}
use Rattle.world.specs.declared.run_event.RunEvent.TheVariants.{Submit, Deliver, Collect}
use Rattle.world.specs.Run.{Run, run}
use Rattle.world.specs.Journals.{event_at, IsRunOf}
use Rattle.world.specs.Quiet.{number_delivered, IsQuiet}
use Rattle.world.specs.Settled.{Settled}
use Rattle.world.proofs.lists.Members.{none_in_empty, contains_cases, contains_filter, filter_contains, contains_get}
use Rattle.world.proofs.growing.Prefixes.{get_there}
use Rattle.world.proofs.promised.Laws.{quiet_means_done}
use Rattle.threaded.specs.Machines.{StaysApart, has_none_open}
use Rattle.threaded.specs.OneRun.{seat_of, journal_of}
use Rattle.threaded.specs.Matching.{AreKept, sent_at, sent_to}
use Rattle.threaded.specs.Concluded.{InEachRun, AreConcluded}
use Rattle.threaded.specs.Quiet.{AreAllReceived, AreOfQuietRun}
use Rattle.threaded.proofs.Linked.{rank, there_at, is_on, on_link, link_is}
use Rattle.threaded.proofs.Renumbered.{got, DoBegin, IsAllReceived, GoesQuietly, goes_quietly}
use Rattle.threaded.proofs.Seated.{seated}
use Rattle.threaded.proofs.Whole.{apart_here, leads}

-- ## Numbers that are all there

no_more : {X : Type 0} (p : X → Bool) (xs : List X) → length (filter p xs) ≤ length xs
no_more p [] = omega arith
no_more p (x ∷ xs) = by (p x) (no_more p xs)
  where
    by : (b : Bool) → length (filter p xs) ≤ length xs → length (cond b (x ∷ filter p xs) (filter p xs)) ≤ suc (length xs)
    by true le = omega (arith, le)
    by false le = omega (arith, le)

abbrev others : ℕ → List ℕ → List ℕ
others n xs = filter (λ m. not (m == n)) xs

fewer_others : (n : ℕ) (xs : List ℕ) → Contains xs n → length (others n xs) < length xs
fewer_others n [] m = absurd (none_in_empty n m)
fewer_others n (x ∷ xs) m = elim (contains_cases x n xs m) [
  | inl same ↦
      let le = no_more (λ m. not (m == n)) xs in
      let is : not (x == n) ≡ false = grind (arith, nat_tests) in
      subst (λ b. length (cond b (x ∷ others n xs) (others n xs)) < suc (length xs)) (sym is) (omega (arith, le))
  | inr later ↦ by (not (x == n)) (fewer_others n xs later)
]
  where
    by : (b : Bool) → length (others n xs) < length xs → length (cond b (x ∷ others n xs) (others n xs)) < suc (length xs)
    by true lt = omega (arith, lt)
    by false lt = omega (arith, lt)

-- a list with all numbers below one is as long as that
all_there : (n : ℕ) (xs : List ℕ) → ((r : ℕ) → r < n → Contains xs r) → n ≤ length xs
all_there zero xs all = omega arith
all_there (suc n) xs all =
    let rest = all_there n (others n xs) (λ r lt. contains_filter (λ m. not (m == n)) xs r (all r (omega (arith, lt))) (apart r lt)) in
    let less = fewer_others n xs (all n (omega arith)) in
    omega (arith, rest, less)
  where
    apart : (r : ℕ) → r < n → not (r == n) ≡ true
    apart r lt = grind (arith, nat_tests)

-- ## The deliveries of a link

-- which rank a message has that goes on a link
abbrev rank_of : ℕ → ℕ → Option Envelope → ℕ → Option ℕ
rank_of from to None r = None
rank_of from to (Some e) r = if is_on from to e then Some r else None

-- the rank of what an event delivers, if that goes on a link
abbrev hit : Run → ℕ → ℕ → RunEvent → Option ℕ
hit w from to (Submit session o) = None
hit w from to (Deliver k) = rank_of from to (slice_get w.sent k) (rank (is_on from to) w.sent k)
hit w from to (Collect shard time) = None

-- there are as many as receipts
as_many : (w : Run) (from to : ℕ) (evs : List RunEvent) → length (filter_map (hit w from to) evs) ≡ length (receipts_from from (filter_map (event_at w to) evs))
as_many w from to [] = refl
as_many w from to (Submit session o ∷ evs) = by (session == to) (as_many w from to evs)
  where
    by : (b : Bool) → length (filter_map (hit w from to) evs) ≡ length (receipts_from from (filter_map (event_at w to) evs))
        → length (filter_map (hit w from to) evs) ≡ length (receipts_from from (cons_option (if b then Some (SubmitHere o) else None) (filter_map (event_at w to) evs)))
    by true rest = rest
    by false rest = rest
as_many w from to (Collect shard time ∷ evs) = by (shard == to) (as_many w from to evs)
  where
    by : (b : Bool) → length (filter_map (hit w from to) evs) ≡ length (receipts_from from (filter_map (event_at w to) evs))
        → length (filter_map (hit w from to) evs) ≡ length (receipts_from from (cons_option (if b then Some (CollectHere time) else None) (filter_map (event_at w to) evs)))
    by true rest = rest
    by false rest = rest
as_many w from to (Deliver k ∷ evs) = by (slice_get w.sent k) (rank (is_on from to) w.sent k) (as_many w from to evs)
  where
    hits : List ℕ
    hits = filter_map (hit w from to) evs

    later : List ActorEvent
    later = filter_map (event_at w to) evs

    on : (e : Envelope) (r : ℕ) (a : Bool) → length hits ≡ length (receipts_from from later)
        → length (cons_option (if (a && true) then Some r else None) hits) ≡ length (cond a (e ∷ receipts_from from later) (receipts_from from later))
    on e r true rest = ap suc rest
    on e r false rest = rest

    off : (r : ℕ) (a : Bool) → length hits ≡ length (receipts_from from later)
        → length (cons_option (if (a && false) then Some r else None) hits) ≡ length (receipts_from from later)
    off r true rest = rest
    off r false rest = rest

    both : (e : Envelope) (r : ℕ) (b : Bool) → length hits ≡ length (receipts_from from later)
        → length (cons_option (if ((e.from == from) && b) then Some r else None) hits) ≡ length (receipts_from from (cons_option (if b then Some (Handle e) else None) later))
    both e r true rest = on e r (e.from == from) rest
    both e r false rest = off r (e.from == from) rest

    by : (o : Option Envelope) (r : ℕ) → length hits ≡ length (receipts_from from later)
        → length (cons_option (rank_of from to o r) hits)
        ≡ length (receipts_from from (cons_option (option_and_then (λ (e : Envelope). if e.to == to then Some (Handle e) else None) o) later))
    by None r rest = rest
    by (Some e) r rest = both e r (e.to == to) rest

is_delivery : (x : RunEvent) (k : ℕ) → number_delivered x ≡ Some k → x ≡ Deliver k
is_delivery (Submit session o) k is = absurd (cc)
is_delivery (Collect shard time) k is = absurd (cc)
is_delivery (Deliver j) k is = let same : j ≡ k = cc in ap Deliver same

-- in a quiet run each actor received all
pub quiet_received : (top : TopologyValue) (w : Run) → IsQuiet w → IsAllReceived top w
quiet_received top w quiet from to f t =
    let n = length (on_link from to w.sent) in
    let up = all_there n (filter_map (hit w from to) w.events) there in
    let same = as_many w from to w.events in
    omega (arith, up, same)
  where
    there : (r : ℕ) → r < length (on_link from to w.sent) → Contains (filter_map (hit w from to) w.events) r
    there r lt =
        let z = get_there (on_link from to w.sent) r lt in
        let k = there_at (is_on from to) w.sent r z.0 z.1 in
        let on = (filter_contains (is_on from to) w.sent z.0 (contains_get (on_link from to w.sent) r z.0 z.1)).1 in
        let g = given_only number_delivered w.events k.0 (quiet k.0 (slice_get_within w.sent k.0 z.0 k.1)) in
        let has : Contains w.events (Deliver k.0) = subst (λ x. Contains w.events x) (is_delivery g.0 k.0 g.2) g.1 in
        let is : hit w from to (Deliver k.0) ≡ Some r =
        ap (λ o. rank_of from to o (rank (is_on from to) w.sent k.0)) k.1 ∙ ap (λ b. if b then Some (rank (is_on from to) w.sent k.0) else None) on ∙ ap Some k.2 in
        given (hit w from to) w.events (Deliver k.0) r has is

-- ## Seats

module _ (top : TopologyValue) (seats : List SeatValue) (c : AreConcluded top seats) where
  -- what a link of a run has is what the sender's journal sent there
  module _ (events : List RunEvent) (is : IsRunOf top (journal_of seats) events) where
    link_here : (from to : ℕ) → from < node_count top → sends_to to (sent_by top from (journal_of seats from)) ≡ on_link from to (run top events).sent
    link_here from to lt = ap (λ o. sends_to to (sent_in o)) (leads top seats c.are events is from lt) ∙ link_is from to (run top events).sent

    got_here : (from to : ℕ) → to < node_count top → got (run top events) from to ≡ length (receipts_from from (journal_of seats to))
    got_here from to lt = ap (λ l. length (receipts_from from l)) (is.each to lt)

    begins_here : DoBegin top (run top events)
    begins_here from to f t =
        let b = c.links from to f t in (b.0, sym (link_here from to f) ∙ b.1 ∙ ap (λ l. receipts_from from l ++ b.0) (sym (is.each to t)))

    -- the run isn't quiet where something wasn't received
    pub not_quiet : (AreAllReceived top seats → ⊥) → IsQuiet (run top events) → ⊥
    not_quiet some quiet = some (λ from to f t.
        let b = c.links from to f t in
        let up = quiet_received top (run top events) quiet from to f t in
        let g = got_here from to t in
        let len = ap (λ (l : List Envelope). length l) (sym (link_here from to f) ∙ b.1) ∙ length-append (receipts_from from (journal_of seats to)) b.0 in
        sym (b.1 ∙ none_more (receipts_from from (journal_of seats to)) b.0 (omega (arith, up, g, len))))
      where
        none_more : (xs ys : List Envelope) → length ys ≡ 0 → xs ++ ys ≡ xs
        none_more [] [] none = refl
        none_more [] (y ∷ ys) none = absurd (omega (arith, none))
        none_more (x ∷ xs) ys none = ap (λ l. x ∷ l) (none_more xs ys none)

    all_here : AreAllReceived top seats → IsAllReceived top (run top events)
    all_here all from to f t =
        let g = got_here from to t in
        let len = ap (λ (l : List Envelope). length l) (sym (link_here from to f) ∙ sym (all from to f t)) in
        omega (arith, g, len)

    quietly : AreAllReceived top seats → AreOfQuietRun top seats
    quietly all =
        record { events = q.events; is_run = its; quiet = q.quiet; settled = settled; free = free }
      where
        q : GoesQuietly top (run top events)
        q = goes_quietly top events c.are.sound begins_here (all_here all)

        its : IsRunOf top (journal_of seats) q.events
        its = record { is_run = q.is_run; each = λ node lt. q.journals node ∙ is.each node lt }

        settled : Settled top (run top q.events)
        settled = quiet_means_done top q.events c.are.sound q.quiet

        none_open : (node : ℕ) (b : Bool) → has_none_open (if b then OfShard ((run top q.events).shards node) else OfSession ((run top q.events).sessions node)) ≡ true
        none_open node true = refl
        none_open node false = ap is_idle (settled.idle node)

        free : (node : ℕ) (s : SeatValue) → node < node_count top → seat_of seats node ≡ Some s → s.free ≡ true
        free node s lt found = (c.alike q.events its).free node s lt found ∙ none_open node (is_shard top node)

  pub of_quiet_run : AreAllReceived top seats → AreOfQuietRun top seats
  of_quiet_run all = quietly c.run.0 c.run.1 all

  pub of_no_quiet_run : (AreAllReceived top seats → ⊥) → InEachRun top seats (λ w. IsQuiet w → ⊥)
  of_no_quiet_run some events is = not_quiet events is some

  -- ## By what the seats show

  module _ (kept : AreKept (node_count top) seats) where
    -- what a seat shows that it sent is what its journal sent
    shows_sent : (from to : ℕ) → from < node_count top → sent_to seats from to ≡ sends_to to (sent_by top from (journal_of seats from))
    shows_sent from to lt =
        let i = seated top seats from c.are kept lt in
        let r = i.came.comes (subst (λ l. StaysApart top from l) (sym i.journal) (apart_here top seats c.are c.run.0 c.run.1 from lt)) in
        ap (λ o. sent_at o to) i.found ∙ sym (i.goes to) ∙ ap (sends_to to) r.sends
        ∙ ap (λ o. sends_to to (sent_in o)) (sym r.replays) ∙ ap (λ l. sends_to to (sent_by top from l)) i.journal

    pub received_if_counted : ((from to : ℕ) → from < node_count top → to < node_count top → length (sent_to seats from to) ≤ length (receipts_from from (journal_of seats to)))
        → AreAllReceived top seats
    received_if_counted all from to f t =
        let b = c.links from to f t in
        let up = all from to f t in
        let sent = ap (λ (l : List Envelope). length l) (shows_sent from to f ∙ b.1) ∙ length-append (receipts_from from (journal_of seats to)) b.0 in
        sym (b.1 ∙ none_more (receipts_from from (journal_of seats to)) b.0 (omega (arith, up, sent)))
      where
        none_more : (xs ys : List Envelope) → length ys ≡ 0 → xs ++ ys ≡ xs
        none_more [] [] none = refl
        none_more [] (y ∷ ys) none = absurd (omega (arith, none))
        none_more (x ∷ xs) ys none = ap (λ l. x ∷ l) (none_more xs ys none)

    pub counted_if_received : AreAllReceived top seats → (from to : ℕ) → from < node_count top → to < node_count top
        → length (sent_to seats from to) ≤ length (receipts_from from (journal_of seats to))
    counted_if_received all from to f t =
        let same = ap (λ (l : List Envelope). length l) (shows_sent from to f ∙ sym (all from to f t)) in
        omega (arith, same)

-- Where what seats received was sent, and carries the clocks of its events, their journals are a run; and only there.
use Rattle.std.proofs.Common.{append-nil, ◌≡◌, ◌∙◌, ℕ, ◌<◌, Bool, true, false, List, ◌++◌, map, Some, None, sym, ap, subst}
use Rattle.std.specs.Prelude.{◌↔◌, option_to_list, Contains}
use Rattle.messages.specs.declared.envelope.Envelope.{Envelope}
use Rattle.messages.specs.declared.event.ActorEvent.TheVariants.{Handle}
use Rattle.messages.specs.Topology.{TopologyValue, node_count}
use Rattle.messages.specs.Actors.{Replayed, replay_of}
use Rattle.client.specs.State.{finished_of}
use Rattle.actors.specs.Seats.{SeatValue}
use Rattle.world.specs.declared.run_event.RunEvent.{RunEvent}
use Rattle.world.specs.declared.completed.Completed.{Completed}
use Rattle.world.specs.Run.{run}
use Rattle.world.specs.Journals.{actor_in, held_in, ended_at, IsRunOf, DoFit}
use Rattle.world.proofs.replays.OwnJournals.{run_journals}
use Rattle.world.proofs.replays.Merged.{are_a_run}
use Rattle.threaded.specs.Machines.{StaysApart, has_none_open, as_finished}
use Rattle.threaded.specs.OneRun.{seat_of, journal_of, AreSeatsOf, DoLinksMatch}
use Rattle.threaded.specs.Matching.{AreKept, AreAllTimed, DoReceive}
use Rattle.threaded.specs.Entries.{entries_of}
use Rattle.threaded.specs.Concluded.{AreAsInRun, AreConcluded, InEachRun, by_session}
use Rattle.threaded.proofs.Looked.{some_shards}
use Rattle.threaded.proofs.Told.{entries_are}
use Rattle.threaded.proofs.Stages.{runs_stay_apart}
use Rattle.threaded.proofs.ShownRuns.{shown_fit, compared}
use Rattle.threaded.proofs.Seated.{seated, what_is_shown, same_journals, came_along, have_senders, timed_is_shown, received_is_shown, shown_is_received, shown_is_timed}

-- ## Journals of a run

module _ (top : TopologyValue) (seats : List SeatValue) (are : AreSeatsOf top seats) (events : List RunEvent) (is : IsRunOf top (journal_of seats) events) where
  pub apart_here : (node : ℕ) → node < node_count top → StaysApart top node (journal_of seats node)
  apart_here node lt = subst (λ l. StaysApart top node l) (is.each node lt) (runs_stay_apart top events node (some_shards top are.sound))

  pub leads : (node : ℕ) → node < node_count top → replay_of top node (journal_of seats node) ≡ Some (held_in top (run top events) node)
  leads node lt = ap (replay_of top node) (sym (is.each node lt)) ∙ (run_journals top events (some_shards top are.sound)).each node

module _ (top : TopologyValue) (seats : List SeatValue) (are : AreSeatsOf top seats) (kept : AreKept (node_count top) seats) where
  -- ## In each run

  module _ (events : List RunEvent) (is : IsRunOf top (journal_of seats) events) where
    -- a seat's outcomes are those of its actor
    outcomes_are : (node : ℕ) (s : SeatValue) → node < node_count top → seat_of seats node ≡ Some s → map as_finished s.outcomes ≡ ended_at (run top events) node
    outcomes_are node s lt found =
        let i = seated top seats node are kept lt in
        let both : Some i.seat ≡ Some s = sym i.found ∙ found in
        let same : i.seat ≡ s = cc in
        let c = i.came.comes (subst (λ l. StaysApart top node l) (sym i.journal) (apart_here top seats are events is node lt)) in
        let told : Some c.replay ≡ Some (held_in top (run top events) node) = sym c.replays ∙ ap (replay_of top node) i.journal ∙ leads top seats are events is node lt in
        let is : c.replay ≡ held_in top (run top events) node = cc in
        sym (append-nil (map as_finished s.outcomes))
        ∙ ap (λ (z : SeatValue). map as_finished z.outcomes ++ option_to_list (finished_of None)) (sym same)
        ∙ ap (λ o. map as_finished i.seat.outcomes ++ option_to_list (finished_of o)) (sym i.taken)
        ∙ sym c.finishes ∙ ap (λ (z : Replayed). z.finished) is

    -- a seat is free where its actor has no operation open
    free_are : (node : ℕ) (s : SeatValue) → node < node_count top → seat_of seats node ≡ Some s → s.free ≡ has_none_open (actor_in top (run top events) node)
    free_are node s lt found =
        let i = seated top seats node are kept lt in
        let both : Some i.seat ≡ Some s = sym i.found ∙ found in
        let same : i.seat ≡ s = cc in
        let c = i.came.comes (subst (λ l. StaysApart top node l) (sym i.journal) (apart_here top seats are events is node lt)) in
        let told : Some c.replay ≡ Some (held_in top (run top events) node) = sym c.replays ∙ ap (replay_of top node) i.journal ∙ leads top seats are events is node lt in
        let is : c.replay ≡ held_in top (run top events) node = cc in
        ap (λ (z : SeatValue). z.free) (sym same) ∙ i.free ∙ c.free ∙ ap (λ (z : Replayed). has_none_open z.state) is

    as_in_run : AreAsInRun top seats (run top events)
    as_in_run = record { outcomes = outcomes_are; free = free_are }

  -- ## What a comparison tells

  module _ (timed : AreAllTimed (node_count top) seats) (all : DoReceive (node_count top) seats) where
    fits : DoFit top (journal_of seats)
    fits =
        subst (λ j. DoFit top j) (same_journals top seats are kept)
        (shown_fit top (what_is_shown top seats are kept) (some_shards top are.sound) (came_along top seats are kept) (have_senders top seats are kept)
        (timed_is_shown top seats are kept timed) (received_is_shown top seats are kept all))

    links_match : DoLinksMatch top (journal_of seats)
    links_match =
        subst (λ j. DoLinksMatch top j) (same_journals top seats are kept)
        ((compared top (what_is_shown top seats are kept) (some_shards top are.sound) (came_along top seats are kept) (have_senders top seats are kept)).0
        (timed_is_shown top seats are kept timed, received_is_shown top seats are kept all))

    senders_are : (node : ℕ) (e : Envelope) → node < node_count top → Contains (journal_of seats node) (Handle e) → e.from < node_count top
    senders_are node e lt has = let i = seated top seats node are kept lt in i.senders e (subst (λ l. Contains l (Handle e)) (sym i.journal) has)

    pub concluded : AreConcluded top seats
    concluded = record { are = are; senders = senders_are; links = links_match; run = are_a_run top (journal_of seats) fits; alike = as_in_run }

  -- where links match, so does what is compared
  pub compares : DoLinksMatch top (journal_of seats) → AreAllTimed (node_count top) seats × DoReceive (node_count top) seats
  compares match =
      let shown = subst (λ j. DoLinksMatch top j) (sym (same_journals top seats are kept)) match in
      let both =
      (compared top (what_is_shown top seats are kept) (some_shards top are.sound) (came_along top seats are kept) (have_senders top seats are kept)).1 shown in
      (shown_is_timed top seats are kept both.0, shown_is_received top seats are kept both.1)

-- ## As code asks for it

-- by the answers of both comparisons
module _ (top : TopologyValue) (seats : List SeatValue) (are : AreSeatsOf top seats) (kept : AreKept (node_count top) seats) where
  pub concluded_if : (timed all : Bool) → (timed ≡ true) ↔ AreAllTimed (node_count top) seats → (all ≡ true) ↔ DoReceive (node_count top) seats → timed ≡ true → all ≡ true
      → AreConcluded top seats
  concluded_if timed all told received on also = concluded top seats are kept (told.0 on) (received.0 also)

  pub unmatched_time : (timed : Bool) → (timed ≡ true) ↔ AreAllTimed (node_count top) seats → timed ≡ false → DoLinksMatch top (journal_of seats) → ⊥
  unmatched_time timed told off match = let on : timed ≡ true = told.1 (compares top seats are kept match).0 in absurd (cc)

  pub unmatched_link : (all : Bool) → (all ≡ true) ↔ DoReceive (node_count top) seats → all ≡ false → DoLinksMatch top (journal_of seats) → ⊥
  unmatched_link all received off match = let on : all ≡ true = received.1 (compares top seats are kept match).1 in absurd (cc)

-- the entries that seats tell are the transcript of each run, by sessions
pub are_told : (top : TopologyValue) (seats : List SeatValue) (list : List Completed) → AreConcluded top seats → list ≡ entries_of top seats
    → InEachRun top seats (λ w. list ≡ by_session top w.transcript)
are_told top seats list c told events is = told ∙ entries_are top seats c.are.sound events is c.are.each (c.alike events is).outcomes

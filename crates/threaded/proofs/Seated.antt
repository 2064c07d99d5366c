-- What seats show of their actors.
use Rattle.std.proofs.Common.{◌≡◌, ◌∙◌, ℕ, ◌<◌, ◌≤◌, Bool, true, false, List, [], ◌++◌, Some, None, refl, sym, ap, subst, arith, eqb-true}
use Rattle.std.specs.Prelude.{◌==◌, nat_lt, Contains}
use Rattle.std.proofs.lemmas.Bool.Decides.{nat_tests}
use Rattle.messages.specs.declared.envelope.Envelope.{Envelope}
use Rattle.messages.specs.declared.event.ActorEvent.TheVariants.{Handle}
use Rattle.messages.specs.Topology.{TopologyValue, node_count}
use Rattle.actors.specs.Journals.{receipts_from, sends_to}
use Rattle.actors.specs.Seats.{SeatValue, through}
use Rattle.actors.specs.Shown.{Shown, AreTimed, IsShown}
use Rattle.actors.specs.Machines.{GoesBy}
use Rattle.threaded.specs.declared.actor.Actor.{Actor}
use Rattle.threaded.specs.Machines.{CameFrom, untaken_of, is_free}
use Rattle.threaded.specs.OneRun.{seat_of, journal_at, journal_of, AreSeatsOf}
use Rattle.threaded.specs.Matching.{AreKept, AreAllTimed, sent_at, sent_to, DoReceive}
use Rattle.threaded.specs.Shown.{DidCome, DoShownMatch, HaveSenders}
use Rattle.world.proofs.lists.Members.{contains_at, found}

-- ## The seat of a node

-- a seat's machine came from its journal, what that handled is from an actor, and what it sent is shown
pub record IsSeated (top : TopologyValue) (seats : List SeatValue) (node : ℕ) : Type 0 where
  pub seat : SeatValue
  pub found : seat_of seats node ≡ Some seat
  pub journal : seat.journal ≡ journal_of seats node
  pub machine : Actor
  pub sent : List Envelope
  pub goes : GoesBy (through seat.outgoing) seat.outbox sent
  pub came : CameFrom top node seat.journal sent seat.outcomes machine
  pub taken : untaken_of machine ≡ None
  pub free : seat.free ≡ is_free machine
  pub senders : (e : Envelope) → Contains seat.journal (Handle e) → e.from < node_count top
  pub shown : IsShown CameFrom top node seat.journal sent seat.timed

pub seated : (top : TopologyValue) (seats : List SeatValue) (node : ℕ) → AreSeatsOf top seats → AreKept (node_count top) seats → node < node_count top → IsSeated top seats node
seated top seats node are kept lt =
    let s = are.each node lt in
    let f = found (λ (z : SeatValue). z.node == node) seats s.0 s.1 in
    let k = contains_at seats s.0 f.0 in
    let m = kept node s.0 lt s.1 in
    let own = eqb-true s.0.node node f.1 in
    let of = are.topology k.0 s.0 k.1 in
    let r = m.1.recorded in
    record {
      seat = s.0;
      found = s.1;
      journal = sym (ap journal_at s.1);
      machine = m.0;
      sent = r.sent;
      goes = r.goes;
      came =
          subst (λ t. CameFrom t node s.0.journal r.sent s.0.outcomes m.0) of
          (subst (λ n. CameFrom s.0.topology n s.0.journal r.sent s.0.outcomes m.0) own r.past.came);
      taken = r.past.taken;
      free = m.2;
      senders = λ e has.
          let by = m.1.handled e has in
          let within = m.1.reached by.0 e.from by.1 in
          subst (λ t. e.from < node_count t) of (subst (λ n. n < node_count s.0.topology) by.2 within);
      shown =
          subst (λ t. IsShown CameFrom t node s.0.journal r.sent s.0.timed) of
          (subst (λ n. IsShown CameFrom s.0.topology n s.0.journal r.sent s.0.timed) own r.past.shown);
    }

-- ## What all seats show

module _ (top : TopologyValue) (seats : List SeatValue) (are : AreSeatsOf top seats) (kept : AreKept (node_count top) seats) where
  -- the actor with a node showed this, by its journal
  pub record ShowsThis (node : ℕ) (s : Shown) : Type 0 where
    pub its : s.journal ≡ journal_of seats node
    pub along : DidCome top node s
    pub sends : (to : ℕ) → sends_to to s.sent ≡ sent_to seats node to
    pub told : (seat : SeatValue) → seat_of seats node ≡ Some seat → seat.timed ≡ true → AreTimed s
    pub exact : (seat : SeatValue) → seat_of seats node ≡ Some seat → AreTimed s → seat.timed ≡ true

  shows_this : (node : ℕ) → node < node_count top → (s : Shown) × ShowsThis node s
  shows_this node lt =
      let i = seated top seats node are kept lt in
      let w = i.shown in (
        w.shown,
        record {
          its = w.its ∙ i.journal;
          along = w.along;
          sends = λ to. ap (sends_to to) w.sends ∙ i.goes to ∙ sym (ap (λ o. sent_at o to) i.found);
          told = λ seat found yes.
              let both : Some i.seat ≡ Some seat = sym i.found ∙ found in
              let same : i.seat ≡ seat = cc in
              w.told (ap (λ (z : SeatValue). z.timed) same ∙ yes);
          exact = λ seat found timed.
              let both : Some i.seat ≡ Some seat = sym i.found ∙ found in
              let same : i.seat ≡ seat = cc in
              ap (λ (z : SeatValue). z.timed) (sym same) ∙ w.exact timed;
        },
      )

  below : (node : ℕ) → nat_lt node (node_count top) ≡ true → node < node_count top
  below node q = grind (arith, nat_tests)

  chosen : (node : ℕ) (b : Bool) → nat_lt node (node_count top) ≡ b → Shown
  chosen node true q = (shows_this node (below node q)).0
  chosen node false q = record { journal = journal_of seats node; sent = []; marks = [] }

  -- what the seats show, where they are of actors
  pub what_is_shown : ℕ → Shown
  what_is_shown node = chosen node (nat_lt node (node_count top)) refl

  shows_chosen : (node : ℕ) → node < node_count top → (b : Bool) (q : nat_lt node (node_count top) ≡ b) → ShowsThis node (chosen node b q)
  unfolding chosen
  shows_chosen node lt true q = (shows_this node (below node q)).1
  shows_chosen node lt false q = absurd (let above : node_count top ≤ node = grind (arith, nat_tests) in omega arith)

  pub shows : (node : ℕ) → node < node_count top → ShowsThis node (what_is_shown node)
  unfolding what_is_shown
  shows node lt = shows_chosen node lt (nat_lt node (node_count top)) refl

  same_chosen : (node : ℕ) (b : Bool) (q : nat_lt node (node_count top) ≡ b) → (chosen node b q).journal ≡ journal_of seats node
  unfolding chosen
  same_chosen node true q = (shows_this node (below node q)).1.its
  same_chosen node false q = refl

  same_journal : (node : ℕ) → (what_is_shown node).journal ≡ journal_of seats node
  unfolding what_is_shown
  same_journal node = same_chosen node (nat_lt node (node_count top)) refl

  pub same_journals : (λ n. (what_is_shown n).journal) ≡ journal_of seats
  same_journals = λ i n. same_journal n i

  pub came_along : (node : ℕ) → node < node_count top → DidCome top node (what_is_shown node)
  came_along node lt = (shows node lt).along

  pub have_senders : HaveSenders top what_is_shown
  have_senders node e lt has =
      let i = seated top seats node are kept lt in
      i.senders e (subst (λ l. Contains l (Handle e)) (same_journal node ∙ sym i.journal) has)

  -- ## What is compared

  pub timed_is_shown : AreAllTimed (node_count top) seats → (node : ℕ) → node < node_count top → AreTimed (what_is_shown node)
  timed_is_shown timed node lt = let i = seated top seats node are kept lt in (shows node lt).told i.seat i.found (timed node i.seat lt i.found)

  pub received_is_shown : DoReceive (node_count top) seats → DoShownMatch top what_is_shown
  received_is_shown all from to f t =
      let b = all to t from f in (b.0, (shows from f).sends to ∙ b.1 ∙ ap (λ l. receipts_from from l ++ b.0) (sym (same_journal to)))

  pub shown_is_received : DoShownMatch top what_is_shown → DoReceive (node_count top) seats
  shown_is_received match to t from f =
      let b = match from to f t in (b.0, sym ((shows from f).sends to) ∙ b.1 ∙ ap (λ l. receipts_from from l ++ b.0) (same_journal to))

  pub shown_is_timed : ((node : ℕ) → node < node_count top → AreTimed (what_is_shown node)) → AreAllTimed (node_count top) seats
  shown_is_timed timed node s lt found = (shows node lt).exact s found (timed node lt)

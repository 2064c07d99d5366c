-- The entries that the seats of sessions tell are those of the run.
use Rattle.std.proofs.Common.{◌≡◌, ◌∙◌, ℕ, zero, suc, ◌+◌, ◌<◌, true, false, List, [], ◌∷◌, ◌++◌, map, length, Some, refl, sym, ap, arith, eqb-true}
use Rattle.std.specs.Prelude.{◌==◌, filter, flat_map, option_map, Contains}
use Rattle.std.specs.List.{range_with_len, cons_option}
use Rattle.std.proofs.lemmas.Bool.Decides.{nat_tests}
use Rattle.messages.specs.declared.op.Op.{Op}
use Rattle.messages.specs.declared.outcome.Outcome.{Outcome}
use Rattle.messages.specs.declared.event.ActorEvent.{ActorEvent}
use Rattle.messages.specs.Topology.{TopologyValue, is_topology, is_shard, node_count, session_node}
use Rattle.messages.specs.Actors.{opening_home, home_after, home_before}
use Rattle.messages.specs.Session.{Finished}
use Rattle.actors.specs.Seats.{SeatValue}
use Rattle.world.specs.declared.completed.Completed.{Completed}
use Rattle.world.specs.declared.run_event.RunEvent.{RunEvent}
use Rattle.world.specs.Run.{Run, run}
use Rattle.world.specs.Journals.{journal_in, finished_as, ended_at, held_in, IsRunOf}
use Rattle.world.specs.Threads.{op_numbered}
use Rattle.world.proofs.lists.Members.{contains_first, contains_rest, filter_contains}
use Rattle.world.proofs.causal.Homes.{homes_are_of_moves}
use Rattle.world.proofs.promised.Laws.{entries_are_of_submissions}
use Rattle.world.proofs.replays.OwnJournals.{run_journals}
use Rattle.world.proofs.replays.Journaled.{operation_there}
use Rattle.threaded.specs.Machines.{as_finished}
use Rattle.threaded.specs.OneRun.{seat_of, journal_at, journal_of}
use Rattle.threaded.specs.Concluded.{by_session}
use Rattle.threaded.specs.Entries.{entry_by, entries_from, entries_at, entries_of}
use Rattle.threaded.proofs.Rising.{GoHome, outcomes_rise, go_home}

-- ## One session

-- the entry is of this session, and of the operation of its number in this journal
record IsOf (node : ℕ) (journal : List ActorEvent) (c : Completed) : Type 0 where
  pub node_is : c.node ≡ node
  pub op_is : op_numbered journal c.number ≡ Some c.op

module _ (node : ℕ) (journal : List ActorEvent) where
  -- the entry of an outcome is the one that the transcript has of it
  entry_is : (home : ℕ) (o : ℕ × Outcome) (c : Completed) → as_finished o ≡ finished_as c → IsOf node journal c → c.home ≡ home → entry_by node home journal o ≡ Some c
  entry_is home o c same is here =
      let number : o.0 ≡ c.number = ap (λ (f : Finished). f.number) same in
      let outcome : o.1 ≡ c.outcome = ap (λ (f : Finished). f.outcome) same in
      let found : op_numbered journal o.0 ≡ Some c.op = ap (op_numbered journal) number ∙ is.op_is in
      ap (option_map (λ (op : Op). let r : Completed = record { node = node; number = o.0; home = home; op = op; outcome = o.1 } in r)) found
      ∙ ap (λ (n : ℕ). let r : Completed = record { node = n; number = o.0; home = home; op = c.op; outcome = o.1 } in Some r) (sym is.node_is)
      ∙ ap (λ (n : ℕ). let r : Completed = record { node = c.node; number = n; home = home; op = c.op; outcome = o.1 } in Some r) number
      ∙ ap (λ (n : ℕ). let r : Completed = record { node = c.node; number = c.number; home = n; op = c.op; outcome = o.1 } in Some r) (sym here)
      ∙ ap (λ (z : Outcome). let r : Completed = record { node = c.node; number = c.number; home = c.home; op = c.op; outcome = z } in Some r) outcome

  -- so it is of all outcomes, one after the other
  entries_agree : (home : ℕ) (os : List (ℕ × Outcome)) (cs : List Completed) → map as_finished os ≡ map finished_as cs
      → ((c : Completed) → Contains cs c → IsOf node journal c) → GoHome home cs → entries_from node home journal os ≡ cs
  entries_agree home [] [] same each homes = refl
  entries_agree home [] (c ∷ cs) same each homes = absurd (cc)
  entries_agree home (o ∷ os) [] same each homes = absurd (cc)
  entries_agree home (o ∷ os) (c ∷ cs) same each homes =
      let first : as_finished o ≡ finished_as c = cc in
      let rest : map as_finished os ≡ map finished_as cs = cc in
      let outcome : o.1 ≡ c.outcome = ap (λ (f : Finished). f.outcome) first in
      ap (λ p. cons_option p (entries_from node (home_after home o.1) journal os)) (entry_is home o c first (each c (contains_first c cs)) homes.0)
      ∙ ap (λ (z : Outcome). c ∷ entries_from node (home_after home z) journal os) outcome
      ∙ ap (λ l. c ∷ l) (entries_agree (home_after home c.outcome) os cs rest (λ d m. each d (contains_rest c d cs m)) homes.1)

-- ## All sessions

same_in_range : {Y : Type 0} (f g : ℕ → List Y) (start n : ℕ) → ((i : ℕ) → i < start + n → f i ≡ g i)
    → flat_map f (range_with_len start n) ≡ flat_map g (range_with_len start n)
same_in_range f g start zero same = refl
same_in_range f g start (suc n) same =
    ap (λ l. l ++ flat_map f (range_with_len (start + 1) n)) (same start (omega arith))
    ∙ ap (λ l. g start ++ l) (same_in_range f g (start + 1) n (λ i lt. same i (omega (arith, lt))))

some_shards : (top : TopologyValue) → is_topology top.dcs top.shards top.homes ≡ true → 0 < top.shards
some_shards top sound = grind (arith, nat_tests)

module _ (top : TopologyValue) (seats : List SeatValue) (events : List RunEvent) (some : 0 < top.shards) (is : IsRunOf top (journal_of seats) events) where
  abbrev w : Run
  w = run top events

  -- what the transcript has of a session
  abbrev of_node : ℕ → List Completed
  of_node node = filter (λ (c : Completed). c.node == node) w.transcript

  -- each entry of a session in the transcript is of the operation in its seat's journal
  own_entry : (node : ℕ) (s : SeatValue) → seat_of seats node ≡ Some s → (c : Completed) → Contains (of_node node) c → IsOf node s.journal c
  own_entry node s found c m =
      let (listed, here) = filter_contains (λ (z : Completed). z.node == node) w.transcript c m in
      let of = entries_are_of_submissions top events some c listed in
      let b = of.submission in
      let mine : c.node ≡ node = eqb-true c.node node here in
      let session : b.session ≡ node = of.session ∙ mine in
      record {
        node_is = mine;
        op_is =
            ap (λ o. op_numbered (journal_at o) c.number) (sym found)
            ∙ ap (op_numbered (journal_of seats node)) (sym of.number)
            ∙ ap (λ z. op_numbered (journal_of seats z) b.number) (sym session)
            ∙ operation_there top (journal_of seats) events some is b of.submitted
            ∙ ap Some of.op;
      }

  -- and of the home where the moves before it left the session
  own_home : (node : ℕ) (c : Completed) → Contains (of_node node) c → c.home ≡ home_before (opening_home top node) (ended_at w node) c.number
  own_home node c m =
      let (listed, here) = filter_contains (λ (z : Completed). z.node == node) w.transcript c m in
      homes_are_of_moves top events some c listed
      ∙ ap (λ (n : ℕ). home_before (opening_home top n) (ended_at w n) c.number) (eqb-true c.node node here)

  go_homes : (node : ℕ) → is_shard top node ≡ false → GoHome (opening_home top node) (of_node node)
  go_homes node away =
      go_home (opening_home top node) 0 (of_node node)
      (outcomes_rise top node (journal_in w node) (held_in top w node) away ((run_journals top events some).each node)) (own_home node)

  entries_here : (node : ℕ) (s : SeatValue) → is_shard top node ≡ false → seat_of seats node ≡ Some s → map as_finished s.outcomes ≡ ended_at w node
      → entries_at top node (seat_of seats node) ≡ of_node node
  entries_here node s away found ended =
      ap (entries_at top node) found ∙ entries_agree node s.journal (opening_home top node) s.outcomes (of_node node) ended (own_entry node s found) (go_homes node away)

pub entries_are : (top : TopologyValue) (seats : List SeatValue) → is_topology top.dcs top.shards top.homes ≡ true → (events : List RunEvent) → IsRunOf top (journal_of seats) events
    → ((node : ℕ) → node < node_count top → (s : SeatValue) × (seat_of seats node ≡ Some s))
    → ((node : ℕ) (s : SeatValue) → node < node_count top → seat_of seats node ≡ Some s → map as_finished s.outcomes ≡ ended_at (run top events) node)
    → entries_of top seats ≡ by_session top (run top events).transcript
entries_are top seats sound events is each outcomes =
    same_in_range
    (λ i. entries_at top (session_node top i) (seat_of seats (session_node top i)))
    (λ i. filter (λ (c : Completed). c.node == session_node top i) (run top events).transcript)
    0 (length top.homes) of_session
  where
    of_session : (i : ℕ) → i < 0 + length top.homes
        → entries_at top (session_node top i) (seat_of seats (session_node top i)) ≡ filter (λ (c : Completed). c.node == session_node top i) (run top events).transcript
    of_session i lt =
        let node = session_node top i in
        let below : node < node_count top = omega (arith, lt) in
        let away : is_shard top node ≡ false = grind (arith, nat_tests) in
        let seat = each node below in
        entries_here top seats events (some_shards top sound) is node seat.0 away seat.1 (outcomes node seat.0 below seat.1)

-- What is told of sessions is what the run has of them.
use Rattle.std.proofs.Common.{◌≡◌, ◌∙◌, ℕ, zero, suc, ◌+◌, ◌<◌, ◌≤◌, Bool, true, false, cond, List, [], ◌∷◌, ◌++◌, map, length, take, slice_get, Some, ◌⊎◌, inl, inr, refl, sym, ap, subst, arith}
use Rattle.std.specs.Prelude.{filter, flat_map, ◌==◌, All, Contains}
use Rattle.std.specs.List.{range_with_len}
use Rattle.std.proofs.lemmas.Bool.Decides.{nat_tests}
use Rattle.std.proofs.lemmas.List.{append-nil}
use Rattle.std.proofs.lemmas.List.Elements.{filter-append}
use Rattle.logical_time.specs.declared.fault.Fault.{Fault}
use Rattle.logical_time.specs.declared.fault.Fault.TheVariants.{Memory, StrangerEnd}
use Rattle.slice.specs.declared.read.AnsweredRow.{AnsweredRow}
use Rattle.messages.specs.declared.outcome.Outcome.{Outcome}
use Rattle.messages.specs.declared.outcome.Outcome.TheVariants as outcome
use Rattle.messages.specs.Topology.{TopologyValue, is_topology, shard_count, node_count, session_node}
use Rattle.messages.specs.Session.{Finished}
use Rattle.actors.specs.Seats.{SeatValue}
use Rattle.actors.specs.Resting.{IsResting}
use Rattle.actors.specs.Draining.{AreLater, OneCanRefuse}
use Rattle.world.specs.declared.completed.Completed.{Completed}
use Rattle.world.specs.Run.{run}
use Rattle.world.specs.Journals.{finished_as}
use Rattle.world.proofs.lists.Members.{none_in_empty, Contains-append_cases, contains_map, mapped_from, contains_filter, filter_contains}
use Rattle.threaded.specs.Machines.{as_finished, Refuses}
use Rattle.threaded.specs.OneRun.{seat_of, AreSeatsOf, AreOfOneRun}
use Rattle.threaded.specs.Matching.{IsUnconcluded}
use Rattle.threaded.specs.Concluded.{InEachRun, AreConcluded, by_session}
use Rattle.threaded.specs.Quiet.{AreAllReceived, AreOfQuietRun}
use Rattle.workload.specs.declared.script.Script.{Script}
use Rattle.workload.specs.declared.transcript.Entry.{Entry}
use Rattle.workload.specs.declared.transcript.Entry.TheVariants as entry
use Rattle.workload.specs.Simulation.{entry_by, entry_of, is_outcome, ShowsOneTable}
use Rattle.workload.proofs.Shown.{shows}
use Rattle.running.specs.Asked.{DidAsked}
use Rattle.running.specs.Faults.{HaveTaken, AreOfScript, CanEnd, IsToldAs, IsEndedBy}
use Rattle.running.specs.Told.{count_before, refusal_by, told_before, left_after, told_by, told_at, told_of}
use Rattle.running.specs.Running.{IsToldOf}

-- ## One session

module _ (node : ℕ) where
  abbrev entry_in : (ℕ × Outcome) → Entry
  entry_in o = entry_by node o.0 o.1

  is_one : (number : ℕ) (o : Outcome) → is_outcome (entry_by node number o) ≡ true
  is_one number (outcome.Wrote commit stamp) = refl
  is_one number (outcome.Read time answer) = refl
  is_one number outcome.Collected = refl
  is_one number (outcome.Moved dc floor) = refl

  no_outcome : (rs : List (ℕ × Fault)) → filter is_outcome (map (refusal_by node) rs) ≡ []
  no_outcome [] = refl
  no_outcome (r ∷ rs) = no_outcome rs

  outcomes_told : (os : List (ℕ × Outcome)) (rs : List (ℕ × Fault)) → filter is_outcome (told_by node os rs) ≡ map entry_in os
  outcomes_told [] rs = no_outcome rs
  outcomes_told (o ∷ os) rs =
      let rest = told_by node os (left_after o.0 rs) in
      filter-append is_outcome (told_before node o.0 rs) (entry_in o ∷ rest)
      ∙ ap (λ l. l ++ filter is_outcome (entry_in o ∷ rest)) (no_outcome (take (count_before o.0 rs) rs))
      ∙ ap (λ b. cond b (entry_in o ∷ filter is_outcome rest) (filter is_outcome rest)) (is_one o.0 o.1)
      ∙ ap (λ l. entry_in o ∷ l) (outcomes_told os (left_after o.0 rs))

  abbrev entry_as : Finished → Entry
  entry_as f = entry_by node f.number f.outcome

  as_entries : (os : List (ℕ × Outcome)) → map entry_as (map as_finished os) ≡ map entry_in os
  as_entries [] = refl
  as_entries (o ∷ os) = ap (λ l. entry_in o ∷ l) (as_entries os)

  of_this : (c : Completed) → (c.node == node) ≡ true → entry_as (finished_as c) ≡ entry_of c
  of_this c is = let same : c.node ≡ node = grind (arith, nat_tests) in ap (λ n. entry_by n c.number c.outcome) (sym same)

  entries_at : (cs : List Completed) → map entry_as (map finished_as (filter (λ (c : Completed). c.node == node) cs)) ≡ map entry_of (filter (λ (c : Completed). c.node == node) cs)
  entries_at [] = refl
  entries_at (c ∷ cs) = by (entries_at cs) (c.node == node) refl
    where
      kept : List Completed
      kept = filter (λ (d : Completed). d.node == node) cs

      by : map entry_as (map finished_as (filter (λ (d : Completed). d.node == node) cs)) ≡ map entry_of (filter (λ (d : Completed). d.node == node) cs) → (b : Bool)
          → (c.node == node) ≡ b → map entry_as (map finished_as (cond (c.node == node) (c ∷ kept) kept)) ≡ map entry_of (cond (c.node == node) (c ∷ kept) kept)
      by rest true q =
          ap (λ b. map entry_as (map finished_as (cond b (c ∷ kept) kept))) q ∙ ap (λ e. e ∷ map entry_as (map finished_as kept)) (of_this c q)
          ∙ ap (λ l. entry_of c ∷ l) rest ∙ ap (λ b. map entry_of (cond b (c ∷ kept) kept)) (sym q)
      by rest false q = ap (λ b. map entry_as (map finished_as (cond b (c ∷ kept) kept))) q ∙ rest ∙ ap (λ b. map entry_of (cond b (c ∷ kept) kept)) (sym q)

-- what is told of a session with a seat
seat_told : (node : ℕ) (transcript : List Completed) (s : SeatValue)
    → map as_finished s.outcomes ≡ map finished_as (filter (λ (c : Completed). c.node == node) transcript)
    → filter is_outcome (told_at node (Some s)) ≡ map entry_of (filter (λ (c : Completed). c.node == node) transcript)
seat_told node transcript s same =
    outcomes_told node s.outcomes s.refusals ∙ sym (as_entries node s.outcomes) ∙ ap (λ (l : List Finished). map (entry_as node) l) same ∙ entries_at node transcript

-- ## All sessions

map_append : {Y Z : Type 0} (g : Y → Z) (xs ys : List Y) → map g (xs ++ ys) ≡ map g xs ++ map g ys
map_append g [] ys = refl
map_append g (x ∷ xs) ys = ap (λ l. g x ∷ l) (map_append g xs ys)

module _ {X Y : Type 0} where
  filter_flat : (p : Y → Bool) (f : X → List Y) (xs : List X) → filter p (flat_map f xs) ≡ flat_map (λ x. filter p (f x)) xs
  filter_flat p f [] = refl
  filter_flat p f (x ∷ xs) = filter-append p (f x) (flat_map f xs) ∙ ap (λ l. filter p (f x) ++ l) (filter_flat p f xs)

  map_flat : {Z : Type 0} (g : Y → Z) (f : X → List Y) (xs : List X) → map g (flat_map f xs) ≡ flat_map (λ x. map g (f x)) xs
  map_flat g f [] = refl
  map_flat g f (x ∷ xs) = map_append g (f x) (flat_map f xs) ∙ ap (λ l. map g (f x) ++ l) (map_flat g f xs)

  among_flat : (f : X → List Y) (xs : List X) (y : Y) → Contains (flat_map f xs) y → (x : X) × Contains (f x) y
  among_flat f [] y m = absurd (none_in_empty y m)
  among_flat f (x ∷ xs) y m = elim (Contains-append_cases (f x) (flat_map f xs) y m) [ inl here ↦ (x, here) | inr later ↦ among_flat f xs y later ]

flat_same : {Y : Type 0} (f g : ℕ → List Y) (start n : ℕ) → ((i : ℕ) → i < start + n → f i ≡ g i) → flat_map f (range_with_len start n) ≡ flat_map g (range_with_len start n)
flat_same f g start zero same = refl
flat_same f g start (suc n) same =
    ap (λ l. l ++ flat_map f (range_with_len (start + 1) n)) (same start (omega arith))
    ∙ ap (λ l. g start ++ l) (flat_same f g (start + 1) n (λ i lt. same i (omega (arith, lt))))

pub all_outcomes : (top : TopologyValue) (seats : List SeatValue) → AreConcluded top seats
    → InEachRun top seats (λ w. filter is_outcome (told_of top seats) ≡ map entry_of (by_session top w.transcript))
all_outcomes top seats are events is =
    filter_flat is_outcome (λ i. told_at (session_node top i) (seat_of seats (session_node top i))) sessions
    ∙ flat_same
    (λ i. filter is_outcome (told_at (session_node top i) (seat_of seats (session_node top i))))
    (λ i. map entry_of (filter (λ (c : Completed). c.node == session_node top i) (run top events).transcript))
    0 (length top.homes) each
    ∙ sym (map_flat entry_of (λ i. filter (λ (c : Completed). c.node == session_node top i) (run top events).transcript) sessions)
  where
    sessions : List ℕ
    sessions = range_with_len 0 (length top.homes)

    each : (i : ℕ) → i < 0 + length top.homes
        → filter is_outcome (told_at (session_node top i) (seat_of seats (session_node top i)))
        ≡ map entry_of (filter (λ (c : Completed). c.node == session_node top i) (run top events).transcript)
    each i lt =
        let node = session_node top i in
        let below : node < node_count top = omega (arith, lt) in
        let seat = are.are.each node below in
        ap (λ o. filter is_outcome (told_at node o)) seat.1
        ∙ seat_told node (run top events).transcript seat.0 ((are.alike events is).outcomes node seat.0 below seat.1)

some_shards : (top : TopologyValue) → is_topology top.dcs top.shards top.homes ≡ true → 0 < top.shards
some_shards top sound = grind (arith, nat_tests)

-- what is told of concluded seats
module _ (top : TopologyValue) (entries : List Entry) (seats : List SeatValue) (are : AreConcluded top seats) (told : entries ≡ told_of top seats) where
  outcomes_in_each : InEachRun top seats (λ w. filter is_outcome entries ≡ map entry_of (by_session top w.transcript))
  outcomes_in_each events is = ap (filter is_outcome) told ∙ all_outcomes top seats are events is

  reads_in_each : (node number time : ℕ) (answer : List AnsweredRow) → Contains entries (entry.Read node number time answer)
      → InEachRun top seats (λ w. ShowsOneTable top w node number time answer)
  reads_in_each node number time answer has events is =
      let e = entry.Read node number time answer in
      let w = run top events in
      let here : Contains (filter is_outcome entries) e = contains_filter is_outcome entries e has refl in
      let there : Contains (map entry_of (by_session top w.transcript)) e = subst (λ l. Contains l e) (outcomes_in_each events is) here in
      let (c, listed, shown) = mapped_from entry_of (by_session top w.transcript) e there in
      let (i, among) = among_flat (λ i. filter (λ (d : Completed). d.node == session_node top i) w.transcript) (range_with_len 0 (length top.homes)) c listed in
      let in_all : Contains w.transcript c = (filter_contains (λ (d : Completed). d.node == session_node top i) w.transcript c among).0 in
      let back : Contains (map entry_of w.transcript) e = subst (λ x. Contains (map entry_of w.transcript) x) (sym shown) (contains_map entry_of w.transcript c in_all) in
      shows top events (some_shards top are.are.sound) node number time answer back

-- ## Seats of a script

module _ (s : Script) (seats : List SeatValue) where
  each_took : HaveTaken s seats → (node : ℕ) (seat : SeatValue) → node < node_count s.topology → seat_of seats node ≡ Some seat → DidAsked s node seat
  each_took took node seat lt at =
      let here = took node lt in
      let both : Some here.0 ≡ Some seat = sym here.1 ∙ at in
      let same : here.0 ≡ seat = cc in
      subst (λ z. DidAsked s node z) same here.2

  pub is_transcript : (entries : List Entry) (top : TopologyValue) → top ≡ s.topology → AreConcluded top seats → All IsResting seats → HaveTaken s seats
      → AreOfQuietRun top seats → entries ≡ told_of top seats → IsToldOf s (record { top = top; seats = seats }) entries
  is_transcript entries top same are resting took quiet told =
      let here : AreConcluded s.topology seats = subst (λ t. AreConcluded t seats) same are in
      let tells : entries ≡ told_of s.topology seats = told ∙ ap (λ t. told_of t seats) same in
      record {
        topology = same;
        transcript = record {
          seats = seats;
          concluded = here;
          resting = resting;
          taken = each_took took;
          quiet = subst (λ t. AreOfQuietRun t seats) same quiet;
          told = tells;
          outcomes = outcomes_in_each s.topology entries seats here tells;
          reads = reads_in_each s.topology entries seats here tells;
        };
        seats = refl;
      }

  -- seats that conclude a run and received all that was sent, each of whose actors did what the script asks of it
  pub of_script : (top : TopologyValue) → top ≡ s.topology → AreConcluded top seats → AreAllReceived top seats → HaveTaken s seats → AreOfScript s seats
  of_script top same are received took =
      record {
        are = subst (λ t. AreSeatsOf t seats) same are.are;
        received = subst (λ t. AreAllReceived t seats) same received;
        taken = took;
      }

  pub not_of_run : (AreOfOneRun seats → ⊥) → AreOfScript s seats → ⊥
  not_of_run not of =
      not
      (record {
        top = s.topology;
        are = of.are;
        links = λ from to sends receives. ([], sym (of.received from to sends receives) ∙ sym (append-nil _));
      })

  pub not_received : (top : TopologyValue) → top ≡ s.topology → (AreAllReceived top seats → ⊥) → AreOfScript s seats → ⊥
  not_received top same not of = not (subst (λ t. AreAllReceived t seats) (sym same) of.received)

  pub not_of_script : (top : TopologyValue) → AreConcluded top seats → ((top ≡ s.topology) × HaveTaken s seats → ⊥) → AreOfScript s seats → ⊥
  not_of_script top are not of = not (one_topology top are.are of.are, of.taken)
    where
      one_topology : (top : TopologyValue) → AreSeatsOf top seats → AreSeatsOf s.topology seats → top ≡ s.topology
      one_topology top first second =
          let le : 1 ≤ length top.homes = (let sound = first.sound in grind (arith, nat_tests)) in
          let count : length seats ≡ shard_count top + length top.homes = first.count in
          by seats refl (omega (arith, le, count))
        where
          by : (l : List SeatValue) → l ≡ seats → 0 < length seats → top ≡ s.topology
          by [] is lt = absurd (omega (arith, lt, (let none : length seats ≡ 0 = ap (λ (l : List SeatValue). length l) (sym is) in none)))
          by (x ∷ xs) is lt =
              let at : slice_get seats 0 ≡ Some x = ap (λ l. slice_get l 0) (sym is) in
              sym (first.topology 0 x at) ∙ second.topology 0 x at

-- ## As faults are told

module _ (s : Script) (back last : List SeatValue) (later : AreLater back last) where
  pub ended_so : (e told : Fault) → CanEnd e last → IsToldAs e told → IsEndedBy s back told
  ended_so e told (inl memory) (inl is) = inl (is.1 ∙ memory)
  ended_so e told (inl memory) (inr is) = absurd (is.0 (inl memory))
  ended_so e told (inr can) (inl is) = elim is.0 [
    | inl memory ↦ inl (is.1 ∙ memory)
    | inr spent ↦ elim spent [
      | inl clock ↦ inr (inl (inl (is.1 ∙ clock), (last, later, subst (λ f. OneCanRefuse Refuses f last) (sym is.1) can)))
      | inr full ↦ inr (inl (inr (is.1 ∙ full), (last, later, subst (λ f. OneCanRefuse Refuses f last) (sym is.1) can)))
    ]
  ]
  ended_so e told (inr can) (inr is) = inr (inr (is.1, (last, later, inl (e, is.0, can))))

pub unconcluded : (s : Script) (seats : List SeatValue) (e : Fault) → IsUnconcluded seats e → (e ≡ Memory) ⊎ ((e ≡ StrangerEnd) × (AreOfScript s seats → ⊥))
unconcluded s seats e (inl memory) = inl memory
unconcluded s seats e (inr strange) = inr (strange.0, not_of_run s seats strange.1)

-- What the seats of coordinators tell of writes, and how that is added up.
use Rattle.std.proofs.Common.{append-nil, ◌≡◌, ◌∙◌, ℕ, zero, suc, ◌+◌, ◌*◌, ◌<◌, ◌≤◌, true, List, [], ◌∷◌, ◌++◌, length, take, slice_get, Option, Some, None, refl, sym, ap, subst, arith, eqb-true}
use Rattle.std.specs.Prelude.{◌==◌, filter_map, flat_map, option_map, option_and_then, option_to_list, slice_index_or}
use Rattle.std.specs.List.{range_with_len, cons_option}
use Rattle.std.proofs.lemmas.List.{append_assoc, length-append}
use Rattle.std.proofs.lemmas.List.Elements.{filter_map-append}
use Rattle.std.proofs.lemmas.Option.{slice_get_within}
use Rattle.logical_time.specs.Stamps.{TxnValue, StampValue}
use Rattle.column_family.specs.declared.batch.Change.{Change}
use Rattle.column_family.specs.declared.batch.Committed.{Committed}
use Rattle.planner.specs.Plan.{coordinator_of}
use Rattle.messages.specs.declared.op.Op.{Op}
use Rattle.messages.specs.declared.event.ActorEvent.{ActorEvent}
use Rattle.messages.specs.Home.{HomeValue}
use Rattle.messages.specs.Topology.{TopologyValue, is_shard, shard_node, session_node}
use Rattle.messages.specs.Shard.{ShardState, Decision}
use Rattle.messages.specs.Known.{decision_of}
use Rattle.messages.specs.Actors.{ActorState, OfShard, Replayed}
use Rattle.messages.proofs.Numbering.{shard_is_shard}
use Rattle.actors.specs.Seats.{SeatValue, Keeps}
use Rattle.world.specs.Asked.{entry_of}
use Rattle.world.specs.Histories.{batch_in}
use Rattle.world.specs.Threads.{op_in}
use Rattle.world.proofs.envelopes.Addresses.{stands}
use Rattle.world.proofs.lists.Members.{found}
use Rattle.world.proofs.steps.Moves.{shard_node_counts}
use Rattle.world.proofs.envelopes.Near.{coordinator_below}
use Rattle.world.proofs.lists.Replacing.{item_at}
use Rattle.threaded.specs.declared.actor.Actor.{Actor}
use Rattle.threaded.specs.Machines.{Stands, CameFrom, untaken_of}
use Rattle.threaded.specs.OneRun.{seat_of, journal_at, journal_of, AreSeatsOf}
use Rattle.threaded.specs.Matching.{IsPlace}
use Rattle.threaded.specs.Asking.{writes_from, writes_by, AreReplays, AreAsked}
use Rattle.threaded.proofs.Lists.{take_one_more, range_more, flat_more}

-- ## What a coordinator tells

-- the commit time and the stamp of a decision
abbrev pub told_of : Option Decision → Option (ℕ × StampValue)
told_of o = option_map (λ (d : Decision). (d.commit, d.stamp)) o

module _ (top : TopologyValue) (states : ℕ → ShardState) (home : HomeValue) (seats : List SeatValue) (batch : List Change) (txn : TxnValue) (node number : ℕ)
    (asked : AreAsked top states home seats) (at : node ≡ home.dc * home.shards + number) (is : number ≡ coordinator_of home.shards batch) where
  there : shard_node top home.dc (coordinator_of top.shards batch) ≡ node
  there = ap (λ n. home.dc * n + coordinator_of n batch) asked.shards ∙ ap (λ m. home.dc * home.shards + m) (sym is) ∙ sym at

  a_shard : is_shard top node ≡ true
  a_shard =
      subst (λ n. is_shard top n ≡ true) there
      (shard_is_shard top home.dc (coordinator_of top.shards batch) asked.below (coordinator_below top.shards batch (stands top asked.are.sound).some))

  -- the machine of the shard's seat stands for the shard's state
  machine_stands : (place : ℕ) (s : SeatValue) (machine : Actor) → IsPlace seats node place → slice_get seats place ≡ Some s → Keeps CameFrom untaken_of machine s
      → Stands top node machine (OfShard (states node))
  machine_stands place s machine p here keeps =
      let both : Some p.seat ≡ Some s = sym p.at ∙ here in
      let same : p.seat ≡ s = cc in
      let there : seat_of seats node ≡ Some s = p.found ∙ ap Some same in
      let journal : s.journal ≡ journal_of seats node = sym (ap journal_at there) in
      let of : s.topology ≡ top = asked.are.topology place s here in
      let own : s.node ≡ node = eqb-true s.node node (found (λ (z : SeatValue). z.node == node) seats s there).1 in
      let sent = keeps.recorded.sent in
      let came : CameFrom top node (journal_of seats node) sent s.outcomes machine =
      subst (λ (t : TopologyValue). CameFrom t node (journal_of seats node) sent s.outcomes machine) of
      (subst (λ n. CameFrom s.topology n (journal_of seats node) sent s.outcomes machine) own
      (subst (λ l. CameFrom s.topology s.node l sent s.outcomes machine) journal keeps.recorded.past.came)) in
      let told = asked.replays node a_shard in
      let r = told.1 in
      let i = came.comes told.0 in
      let replays : Some i.replay ≡ Some r.0 = sym i.replays ∙ r.1 in
      let replay : i.replay ≡ r.0 = cc in
      subst (λ (a : ActorState). Stands top node machine a) (ap (λ (z : Replayed). z.state) replay ∙ r.2) i.stands

  -- what is decided of the transaction
  abbrev decides : Option (ℕ × StampValue)
  decides = told_of (decision_of txn (states (shard_node top home.dc (coordinator_of top.shards batch))))

  pub seat_decides : (place : ℕ) (s : SeatValue) (machine : Actor) (told : Option (ℕ × StampValue)) → IsPlace seats node place
      → s ≡ slice_index_or seats place s → Keeps CameFrom untaken_of machine s
      → ((t : TopologyValue) (m : ℕ) (a : ShardState) → Stands t m machine (OfShard a) → told_of (decision_of txn a) ≡ told) → decides ≡ told
  seat_decides place s machine told p here keeps tells =
      let at = item_at seats place s (slice_get_within seats place p.seat p.at) here in
      ap (λ n. told_of (decision_of txn (states n))) there ∙ tells top node (states node) (machine_stands place s machine p at keeps)

  pub has_seat : (o : Option (ℕ × StampValue)) → seat_of seats node ≡ None → decides ≡ o
  has_seat o none = let e = (asked.are.each node (shard_node_counts top node a_shard)).1 in let q = sym e ∙ none in absurd (cc)

-- ## One session

-- a write with its transaction
abbrev Write : Type 0
Write = TxnValue × List Change

-- the write that an operation is, after so many others
abbrev numbered : ℕ → ℕ → Op → Option Write
numbered node count o = option_map (λ (batch : List Change). (record { session = node; number = count + 1 }, batch)) (batch_in o)

abbrev pub ops_of : List ActorEvent → List Op
ops_of journal = filter_map op_in journal

writes_more : (node count : ℕ) (os ps : List Op) → writes_from node count (os ++ ps) ≡ writes_from node count os ++ writes_from node (count + length os) ps
writes_more node count [] ps = ap (λ n. writes_from node n ps) (omega arith)
writes_more node count (o ∷ os) ps =
    let number : count + 1 + length os ≡ count + suc (length os) = omega arith in
    let first : List Write = option_to_list (numbered node count o) in
    ap (λ l. first ++ l) (writes_more node (count + 1) os ps ∙ ap (λ n. writes_from node (count + 1) os ++ writes_from node n ps) number)
    ∙ sym (append_assoc first (writes_from node (count + 1) os) (writes_from node (count + suc (length os)) ps))

given_element : {X Y : Type 0} (f : X → Option Y) (o : Option X) → filter_map f (option_to_list o) ≡ option_to_list (option_and_then f o)
given_element f None = refl
given_element {X} {Y} f (Some x) = go (f x)
  where
    go : (y : Option Y) → cons_option y [] ≡ option_to_list y
    go None = refl
    go (Some y) = refl

-- there are no more operations than events
pub few_ops : (journal : List ActorEvent) (k : ℕ) → length (ops_of (take k journal)) ≤ k
few_ops journal zero = omega arith
few_ops [] (suc k) = omega arith
few_ops (e ∷ journal) (suc k) = by (op_in e) (few_ops journal k)
  where
    by : (o : Option Op) → length (ops_of (take k journal)) ≤ k → length (cons_option o (ops_of (take k journal))) ≤ suc k
    by None le = omega arith
    by (Some o) le = omega arith

module _ (journal : List ActorEvent) (k : ℕ) (e : ActorEvent) (at : slice_get journal k ≡ Some e) where
  ops_to : ops_of (take (k + 1) journal) ≡ ops_of (take k journal) ++ cons_option (op_in e) []
  ops_to =
      let one : k + 1 ≡ suc k = omega arith in
      ap (λ n. ops_of (take n journal)) one ∙ ap ops_of (take_one_more journal k e at) ∙ filter_map-append op_in (take k journal) (e ∷ [])

  pub no_op : op_in e ≡ None → ops_of (take (k + 1) journal) ≡ ops_of (take k journal)
  no_op none = ops_to ∙ ap (λ o. ops_of (take k journal) ++ cons_option o []) none ∙ append-nil (ops_of (take k journal))

  one_op : (o : Op) → op_in e ≡ Some o → ops_of (take (k + 1) journal) ≡ ops_of (take k journal) ++ o ∷ []
  one_op o some = ops_to ∙ ap (λ p. ops_of (take k journal) ++ cons_option p []) some

  pub count_more : (count : ℕ) (o : Op) → op_in e ≡ Some o → count ≡ length (ops_of (take k journal)) → count + 1 ≡ length (ops_of (take (k + 1) journal))
  count_more count o some counted =
      ap (λ n. n + 1) counted ∙ sym (ap (λ (l : List Op). length l) (one_op o some) ∙ length-append (ops_of (take k journal)) (o ∷ []))

-- what is told of the writes among the first so many events
abbrev pub told_to : (Write → Option Committed) → ℕ → List ActorEvent → ℕ → List Committed
told_to f session journal k = filter_map f (writes_by session (take k journal))

pub told_more : (f : Write → Option Committed) (session : ℕ) (journal : List ActorEvent) (k count : ℕ) (e : ActorEvent) (o : Op) (start h g : List Committed) → slice_get journal k ≡ Some e → op_in e ≡ Some o → count ≡ length (ops_of (take k journal))
    → h ≡ start ++ told_to f session journal k
    → g ≡ h ++ option_to_list (option_and_then f (numbered session count o))
    → g ≡ start ++ told_to f session journal (k + 1)
told_more f session journal k count e o start h g at some counted so_far added =
    let this : ℕ → Option Write = λ n. numbered session n o in
    let last : writes_from session count (o ∷ []) ≡ option_to_list (this count) = append-nil (option_to_list (this count)) in
    let zeroth : 0 + length (ops_of (take k journal)) ≡ count = omega arith in
    let whole : told_to f session journal (k + 1) ≡ told_to f session journal k ++ option_to_list (option_and_then f (this count)) =
    ap (λ l. filter_map f (writes_from session 0 l)) (one_op journal k e at o some)
    ∙ ap (filter_map f) (writes_more session 0 (ops_of (take k journal)) (o ∷ []) ∙ ap (λ n. writes_by session (take k journal) ++ writes_from session n (o ∷ [])) zeroth)
    ∙ filter_map-append f (writes_by session (take k journal)) (writes_from session count (o ∷ []))
    ∙ ap (λ l. told_to f session journal k ++ filter_map f l) last ∙ ap (λ l. told_to f session journal k ++ l) (given_element f (this count)) in
    added ∙ ap (λ l. l ++ option_to_list (option_and_then f (this count))) so_far
    ∙ append_assoc start (told_to f session journal k) (option_to_list (option_and_then f (this count)))
    ∙ ap (λ l. start ++ l) (sym whole)

-- ## All sessions

-- what is told of the writes of the first so many sessions
abbrev pub told_first : TopologyValue → (ℕ → ShardState) → List SeatValue → ℕ → ℕ → List Committed
told_first top states seats dc n =
    filter_map (entry_of top states dc) (flat_map (λ i. writes_by (session_node top i) (journal_of seats (session_node top i))) (range_with_len 0 n))

pub next_session : (top : TopologyValue) (states : ℕ → ShardState) (seats : List SeatValue) (dc n : ℕ) (node : ℕ) (h g : List Committed) → node ≡ session_node top n
    → h ≡ told_first top states seats dc n → g ≡ h ++ filter_map (entry_of top states dc) (writes_by node (journal_of seats node))
    → g ≡ told_first top states seats dc (n + 1)
next_session top states seats dc n node h g is so_far more =
    let f = entry_of top states dc in
    let one : suc n ≡ n + 1 = omega arith in
    let none : n ≡ 0 + n = omega arith in
    let of : ℕ → List Write = λ i. writes_by (session_node top i) (journal_of seats (session_node top i)) in
    more ∙ ap (λ l. l ++ filter_map f (writes_by node (journal_of seats node))) so_far
    ∙ ap (λ m. told_first top states seats dc n ++ filter_map f (writes_by m (journal_of seats m))) is
    ∙ sym (filter_map-append f (flat_map of (range_with_len 0 n)) (of n))
    ∙ ap (filter_map f) (sym (flat_more of (range_with_len 0 n) n) ∙ ap (λ k. flat_map of (range_with_len 0 n ++ k ∷ [])) none ∙ ap (flat_map of) (sym (range_more 0 n)))
    ∙ ap (told_first top states seats dc) one

-- the journal of a seat's actor
pub its_journal : (seats : List SeatValue) (node place : ℕ) (s : SeatValue) → IsPlace seats node place → s ≡ slice_index_or seats place s
    → s.journal ≡ journal_of seats node
its_journal seats node place s p here =
    let both : Some p.seat ≡ Some s = sym p.at ∙ item_at seats place s (slice_get_within seats place p.seat p.at) here in
    let same : p.seat ≡ s = cc in
    sym (ap journal_at (p.found ∙ ap Some same))

-- a session without a seat tells nothing
pub without_seat : (top : TopologyValue) (states : ℕ → ShardState) (seats : List SeatValue) (dc n : ℕ) (node : ℕ) (h : List Committed) → node ≡ session_node top n
    → h ≡ told_first top states seats dc n → seat_of seats node ≡ None → h ≡ told_first top states seats dc (n + 1)
without_seat top states seats dc n node h is so_far none =
    next_session top states seats dc n node h h is so_far
    (sym (ap (λ o. h ++ filter_map (entry_of top states dc) (writes_by node (journal_at o))) none ∙ append-nil h))

-- ## What the loops keep

-- the history of this data centre is asked for
pub are_asked : (top : TopologyValue) (states : ℕ → ShardState) (home : HomeValue) (seats : List SeatValue) (dc : ℕ) → home ≡ record { dc = dc; shards = top.shards } → dc < top.dcs
    → AreSeatsOf top seats → AreReplays top seats states → AreAsked top states home seats
are_asked top states home seats dc is below are replays =
    record {
      shards = ap (λ (z : HomeValue). z.shards) (sym is);
      below = subst (λ (z : HomeValue). z.dc < top.dcs) (sym is) below;
      are = are;
      replays = replays;
    }

-- one more session with a seat
pub with_seat : (top : TopologyValue) (states : ℕ → ShardState) (home : HomeValue) (seats : List SeatValue) (dc n node place : ℕ) (s : SeatValue) (journal : List ActorEvent) (h g : List Committed)
    → home ≡ record { dc = dc; shards = top.shards } → node ≡ session_node top n → IsPlace seats node place → s ≡ slice_index_or seats place s → journal ≡ s.journal
    → h ≡ told_first top states seats dc n → g ≡ h ++ filter_map (entry_of top states home.dc) (writes_by node journal) → g ≡ told_first top states seats dc (n + 1)
with_seat top states home seats dc n node place s journal h g at is p here same so_far more =
    next_session top states seats dc n node h g is so_far
    (more ∙ ap (λ (z : HomeValue). h ++ filter_map (entry_of top states z.dc) (writes_by node journal)) at
    ∙ ap (λ l. h ++ filter_map (entry_of top states dc) (writes_by node l)) (same ∙ its_journal seats node place s p here))

-- Seats are looked through.
use Rattle.std.proofs.Common.{◌≡◌, ◌∙◌, ℕ, zero, suc, ◌+◌, ◌<◌, Bool, true, false, ◌&&◌, cond, List, [], ◌∷◌, ◌++◌, length, Some, None, ◌⊎◌, inl, inr, refl, sym, ap, subst, arith, slice_get}
use Rattle.std.specs.Prelude.{◌==◌, ◌↔◌, find, nat_lt, slice_index_or}
use Rattle.std.proofs.lemmas.Bool.Decides.{nat_tests}
use Rattle.std.proofs.lemmas.List.{length-append}
use Rattle.std.proofs.lemmas.Option.{slice_get_within, slice_get-get_or}
use Rattle.logical_time.specs.declared.fault.Fault.{Fault}
use Rattle.logical_time.specs.declared.fault.Fault.TheVariants.{StrangerEnd}
use Rattle.messages.specs.declared.event.ActorEvent.{ActorEvent}
use Rattle.messages.specs.Topology.{TopologyValue, is_topology, node_count}
use Rattle.actors.specs.Seats.{SeatValue}
use Rattle.world.proofs.lists.Replacing.{item_at}
use Rattle.threaded.specs.OneRun.{seat_of, journal_at, journal_of, AreOfTopology, AreSeatsOf, DoLinksMatch, AreOfOneRun}
use Rattle.threaded.specs.Matching.{IsKept, AreKept, AreAllTimed, IsPlace, ArePlaces, DoesReceive, DoReceive, AreFromActors, IsUnseated, IsUnconcluded}
use Rattle.threaded.proofs.Lists.{last_or_before}

-- ## Lists

-- none of the first so many is found
abbrev pub NoneBefore : {X : Type 0} → (X → Bool) → List X → ℕ → Type 0
NoneBefore {X} p xs k = (i : ℕ) (x : X) → i < k → slice_get xs i ≡ Some x → p x ≡ false

pub found_first : {X : Type 0} (p : X → Bool) (xs : List X) (k : ℕ) (x : X) → NoneBefore p xs k → slice_get xs k ≡ Some x → p x ≡ true → find p xs ≡ Some x
found_first p [] k x none at is = absurd (cc)
found_first p (y ∷ xs) zero x none at is = let same : y ≡ x = cc in ap (λ z. cond (p z) (Some z) (find p xs)) same ∙ ap (λ b. cond b (Some x) (find p xs)) is
found_first p (y ∷ xs) (suc k) x none at is =
    ap (λ b. cond b (Some y) (find p xs)) (none 0 y (omega arith) refl) ∙ found_first p xs k x (λ i z lt there. none (suc i) z (omega arith) there) at is

pub none_found : {X : Type 0} (p : X → Bool) (xs : List X) → NoneBefore p xs (length xs) → find p xs ≡ None
none_found p [] none = refl
none_found p (y ∷ xs) none =
    ap (λ b. cond b (Some y) (find p xs)) (none 0 y (omega arith) refl) ∙ none_found p xs (λ i z lt there. none (suc i) z (omega arith) there)

-- ## Topologies

-- the first so many seats are of this topology
abbrev pub AreFirstOf : TopologyValue → List SeatValue → ℕ → Type 0
AreFirstOf top seats k = (i : ℕ) (s : SeatValue) → i < k → slice_get seats i ≡ Some s → s.topology ≡ top

below_or_last : (i k : ℕ) → i < k + 1 → (i < k) ⊎ (i ≡ k)
below_or_last i k lt = by (nat_lt i k) refl
  where
    by : (b : Bool) → nat_lt i k ≡ b → (i < k) ⊎ (i ≡ k)
    by true q = inl (grind (arith, nat_tests))
    by false q = inr (grind (arith, nat_tests))

-- ## Places

-- the first so many seats are of other nodes
abbrev pub AreElsewhere : ℕ → List SeatValue → ℕ → Type 0
AreElsewhere node seats k = NoneBefore (λ (s : SeatValue). s.node == node) seats k

pub one_more_elsewhere : (node : ℕ) (seats : List SeatValue) (place : ℕ) (s : SeatValue) → place < length seats → s ≡ slice_index_or seats place s → (s.node == node) ≡ false
    → AreElsewhere node seats place → AreElsewhere node seats (place + 1)
one_more_elsewhere node seats place s lt at is are i t below there = elim (below_or_last i place below) [
  | inl less ↦ are i t less there
  | inr last ↦
      let here = item_at seats place s lt at in
      let both : Some t ≡ Some s = sym there ∙ ap (slice_get seats) last ∙ here in
      let same : t ≡ s = cc in
      ap (λ (z : SeatValue). z.node == node) same ∙ is
]

pub place_found : (node : ℕ) (seats : List SeatValue) (place : ℕ) (s : SeatValue) → place < length seats → s ≡ slice_index_or seats place s → (s.node == node) ≡ true
    → AreElsewhere node seats place → IsPlace seats node place
place_found node seats place s lt at is are =
    let here = item_at seats place s lt at in
    record { seat = s; at = here; found = found_first (λ (z : SeatValue). z.node == node) seats place s are here is }

pub nowhere : (node : ℕ) (seats : List SeatValue) → AreElsewhere node seats (length seats) → seat_of seats node ≡ None
nowhere node seats are = none_found (λ (s : SeatValue). s.node == node) seats are

pub no_place : (seats : List SeatValue) → ArePlaces 0 seats []
no_place seats = record { len = refl; each = λ node place at. absurd (cc) }

pub one_more_place : (seats : List SeatValue) (node place : ℕ) (places : List ℕ) → ArePlaces node seats places → IsPlace seats node place
    → ArePlaces (node + 1) seats (places ++ place ∷ [])
one_more_place seats node place places are is =
    record {
      len = length-append places (place ∷ []) ∙ ap (λ n. n + 1) are.len;
      each = λ n p at. elim (last_or_before places place p n at) [
        | inl old ↦ are.each n p old
        | inr new ↦ subst (λ q. IsPlace seats n q) new.1 (subst (λ m. IsPlace seats m place) (sym (new.0 ∙ are.len)) is)
      ];
    }

-- ## Seats at their places

module _ (seats : List SeatValue) (places : List ℕ) (count node : ℕ) (are : ArePlaces count seats places) (lt : node < count) where
  stands : IsPlace seats node (slice_index_or places node 0)
  stands = let within : node < length places = subst (λ n. node < n) (sym are.len) lt in are.each node (slice_index_or places node 0) (slice_get-get_or places node 0 within)

  -- the place of an actor's seat is one of a seat
  pub seat_there : slice_index_or places node 0 < length seats
  seat_there = let p = stands in slice_get_within seats (slice_index_or places node 0) p.seat p.at

  -- the seat at an actor's place is that of the actor
  pub seat_is : (s : SeatValue) → s ≡ slice_index_or seats (slice_index_or places node 0) s → seat_of seats node ≡ Some s
  seat_is s here =
      let p = stands in
      let at = item_at seats (slice_index_or places node 0) s seat_there here in
      let both : Some p.seat ≡ Some s = sym p.at ∙ at in
      let same : p.seat ≡ s = cc in
      p.found ∙ ap Some same

-- so it is where a place is known for each of so many
pub seat_at_place : (seats : List SeatValue) (places : List ℕ) (node : ℕ) → ArePlaces (length places) seats places → node < length places
    → slice_index_or places node 0 < length seats
seat_at_place seats places node are lt = seat_there seats places (length places) node are lt

-- ## What seats keep

pub one_more_kept : (seats : List SeatValue) (node : ℕ) (s : SeatValue) → seat_of seats node ≡ Some s → IsKept s → AreKept node seats → AreKept (node + 1) seats
one_more_kept seats node s found is are m t below there = elim (below_or_last m node below) [
  | inl less ↦ are m t less there
  | inr last ↦
      let both : Some s ≡ Some t = sym found ∙ ap (seat_of seats) (sym last) ∙ there in
      let same : s ≡ t = cc in
      subst IsKept same is
]

both_true : (a b : Bool) → (a && b) ≡ true → (a ≡ true) × (b ≡ true)
both_true true true q = (refl, refl)
both_true true false q = absurd cc
both_true false b q = absurd cc

pub one_more_timed : (seats : List SeatValue) (node : ℕ) (s : SeatValue) (before now : Bool) → seat_of seats node ≡ Some s → now ≡ (before && s.timed)
    → (before ≡ true) ↔ AreAllTimed node seats → (now ≡ true) ↔ AreAllTimed (node + 1) seats
one_more_timed seats node s before now found is tied = (λ on. all (both_true before s.timed (sym is ∙ on)), λ are. is ∙ none are)
  where
    all : (before ≡ true) × (s.timed ≡ true) → AreAllTimed (node + 1) seats
    all two m t below there = elim (below_or_last m node below) [
      | inl less ↦ tied.0 two.0 m t less there
      | inr last ↦
          let both : Some s ≡ Some t = sym found ∙ ap (seat_of seats) (sym last) ∙ there in
          let same : s ≡ t = cc in
          ap (λ (z : SeatValue). z.timed) (sym same) ∙ two.1
    ]

    none : AreAllTimed (node + 1) seats → (before && s.timed) ≡ true
    none are =
        let a : before ≡ true = tied.1 (λ m t less there. are m t (omega arith) there) in
        let b : s.timed ≡ true = are node s (omega arith) found in
        ap (λ c. c && s.timed) a ∙ b

-- what a seat of the topology handled is from one of its actors
pub are_from_actors : (top : TopologyValue) (seats : List SeatValue) (place count : ℕ) (s : SeatValue) → place < length seats → s ≡ slice_index_or seats place s
    → AreOfTopology top seats → IsKept s → count ≡ node_count top → AreFromActors count s.journal
are_from_actors top seats place count s lt at of kept is e has =
    let top_is = of place s (item_at seats place s lt at) in
    let by = kept.1.handled e has in
    let within = kept.1.reached by.0 e.from by.1 in
    subst (λ n. e.from < n) (ap node_count top_is ∙ sym is) (subst (λ n. n < node_count s.topology) by.2 within)

-- ## What they received

-- the journals of the first so many actors received what was sent
abbrev pub DoFirstReceive : ℕ → List SeatValue → ℕ → Type 0
DoFirstReceive count seats k = (to : ℕ) → to < k → DoesReceive count seats to (journal_of seats to)

-- a journal that is looked at: of the seat at an actor's place
module _ (count : ℕ) (seats : List SeatValue) (places : List ℕ) (node from to : ℕ) (seat : SeatValue) (journal : List ActorEvent) (are : ArePlaces count seats places) (lt : node < count)
    (is : from ≡ node) (other : to ≡ node) (here : seat ≡ slice_index_or seats (slice_index_or places from 0) seat) (its : journal ≡ seat.journal) where
  journal_here : journal ≡ journal_of seats node
  journal_here =
      its ∙ sym (ap journal_at (seat_is seats places count node are lt seat (here ∙ ap (λ k. slice_index_or seats (slice_index_or places k 0) seat) is)))

  pub one_more_receives : DoesReceive (length places) seats to journal → DoFirstReceive count seats node → DoFirstReceive count seats (node + 1)
  one_more_receives does so_far m below = elim (below_or_last m node below) [
    | inl less ↦ so_far m less
    | inr last ↦
        let whole : DoesReceive count seats node (journal_of seats node) =
        subst (λ n. DoesReceive n seats node (journal_of seats node)) are.len
        (subst (λ t. DoesReceive (length places) seats t (journal_of seats node)) other (subst (λ l. DoesReceive (length places) seats to l) journal_here does)) in
        subst (λ n. DoesReceive count seats n (journal_of seats n)) (sym last) whole
  ]

  pub does_not_receive : (does : Bool) → (does ≡ true) ↔ DoesReceive (length places) seats to journal → does ≡ false → (false ≡ true) ↔ DoReceive count seats
  does_not_receive does told off = (
    λ h. absurd cc,
    λ all.
        let whole : DoesReceive (length places) seats to journal =
        subst (λ l. DoesReceive (length places) seats to l) (sym journal_here)
        (subst (λ t. DoesReceive (length places) seats t (journal_of seats node)) (sym other)
        (subst (λ n. DoesReceive n seats node (journal_of seats node)) (sym are.len) (all node lt))) in
        let on : does ≡ true = told.1 whole in
        absurd cc,
  )

-- ## Topologies that are within their limits

pub some_shards : (top : TopologyValue) → is_topology top.dcs top.shards top.homes ≡ true → 0 < top.shards
some_shards top sound = grind (arith, nat_tests)

pub are_seats : (top : TopologyValue) (seats : List SeatValue) (places : List ℕ) → is_topology top.dcs top.shards top.homes ≡ true → length seats ≡ node_count top
    → AreOfTopology top seats → ArePlaces (node_count top) seats places → AreSeatsOf top seats
are_seats top seats places sound count of are =
    record {
      sound = sound;
      count = count;
      topology = of;
      each = λ node lt. let p = stands seats places (node_count top) node are lt in (p.seat, p.found);
    }

-- ## What concludes nothing

module _ (seats : List SeatValue) (s : SeatValue) (lt : 0 < length seats) (at : s ≡ slice_index_or seats 0 s) where
  its_topology : (one : AreOfOneRun seats) → one.top ≡ s.topology
  its_topology one = sym (one.are.topology 0 s (item_at seats 0 s lt at))

  pub other_count : (n : ℕ) → n ≡ node_count s.topology → (length seats ≡ n → ⊥) → IsUnconcluded seats StrangerEnd
  other_count n is apart = inr (refl, λ one. apart (one.are.count ∙ ap node_count (its_topology one) ∙ sym is))

  pub other_topology : (AreOfTopology s.topology seats → ⊥) → IsUnconcluded seats StrangerEnd
  other_topology apart = inr (refl, λ one. apart (subst (λ t. AreOfTopology t seats) (its_topology one) one.are.topology))

  pub no_seat : (n : ℕ) → n ≡ node_count s.topology → (e : Fault) → IsUnseated n seats e → IsUnconcluded seats e
  no_seat n is e (inl memory) = inl memory
  no_seat n is e (inr (stranger, missing)) =
      inr (stranger, λ one. let found = one.are.each missing.0 (subst (λ k. missing.0 < k) (is ∙ ap node_count (sym (its_topology one))) missing.1) in let q = sym found.1 ∙ missing.2 in absurd (cc))

  -- so it is where the links of seats of its topology don't match
  pub no_match : (DoLinksMatch s.topology (journal_of seats) → ⊥) → IsUnconcluded seats StrangerEnd
  no_match apart = inr (refl, λ one. apart (subst (λ t. DoLinksMatch t (journal_of seats)) (its_topology one) one.links))

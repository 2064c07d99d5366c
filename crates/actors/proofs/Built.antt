-- The seats of a topology, as one more is made.
use Rattle.std.proofs.Common.{◌≡◌, ℕ, zero, suc, ◌+◌, ◌<◌, ◌≤◌, ◌==◌, Bool, true, false, cond, arith, List, [], ◌∷◌, ◌++◌, length, get_or, drop, Some, refl, ap, sym, subst, ◌∙◌, ◌⊎◌, inl, inr, add-one, drop-cons}
use mathlib.Core.Path.{ap₂}
use Rattle.std.specs.Prelude.{◌≢◌, map, filter}
use Rattle.std.specs.List.{slice_get, range_with_len}
use Rattle.std.proofs.lemmas.Bool.Decides.{eqb_tells, nat_tests}
use Rattle.std.proofs.lemmas.List.{length-append}
use Rattle.messages.specs.Topology.{TopologyValue, node_count}
use Rattle.links.specs.Links.{RingName, may_exchange, reached_from, reaching}
use Rattle.links.specs.Mesh.{IsMesh, outgoing_of, incoming_of, new_out_link, new_in_link, new_outgoing, new_incoming}
use Rattle.links.specs.declared.ends.Ends.{Ends}
use Rattle.actors.specs.Seats.{SeatValue}
use Rattle.actors.specs.Opening.{AreItsRings, new_lane, new_seat}
use Rattle.actors.specs.Building.{ring_to, ring_from, IsNewSeat, AreNewSeats}
use Rattle.actors.proofs.Lists.{here}

pub first_of : (ends rest : List Ends) (node : ℕ) (own : Ends) → rest ≡ drop node ends → node < length ends → own ≡ get_or rest 0 own → slice_get ends node ≡ Some own
first_of ends rest node own is lt first =
    here ends node own lt (first ∙ ap (λ (l : List Ends). get_or l 0 own) (is ∙ drop-cons ends node own lt))

pub others_of : (ends rest next : List Ends) (node : ℕ) (own : Ends) → rest ≡ drop node ends → node < length ends → next ≡ drop 1 rest → next ≡ drop (node + 1) ends
others_of ends rest next node own is lt others =
    rw add-one (others ∙ ap (λ (l : List Ends). drop 1 l) (is ∙ drop-cons ends node own lt))

pub its_rings : (top : TopologyValue) (ring node : ℕ) (ends : List Ends) (own : Ends) → IsMesh top ring ends → node < node_count top → slice_get ends node ≡ Some own → AreItsRings top node own
its_rings top ring node ends own mesh lt at = record {
  capacity = ring;
  rings_to = mesh.rings node;
  rings_from = λ from. mesh.rings from node;
  outgoing = ap (λ o. outgoing_of o) (sym at) ∙ mesh.outgoing node lt;
  incoming = ap (λ o. incoming_of o) (sym at) ∙ mesh.incoming node lt;
}

found_to : (capacity : ℕ) (rings : ℕ → RingName) (ns : List ℕ) (k n : ℕ) → slice_get ns k ≡ Some n → ring_to (map new_lane (new_outgoing capacity rings ns)) n ≡ rings n
found_to capacity rings [] k n at = absurd cc
found_to capacity rings (m ∷ ns) zero n at = elim (eqb_tells m n) [ inl same ↦ rw same.0 (ap rings same.1) | inr away ↦ absurd (away.1 cc) ]
found_to capacity rings (m ∷ ns) (suc k) n at = elim (eqb_tells m n) [ inl same ↦ rw same.0 (ap rings same.1) | inr away ↦ rw away.0 (found_to capacity rings ns k n at) ]

found_from : (rings : ℕ → RingName) (node : ℕ) (ns : List ℕ) (k n : ℕ) → slice_get ns k ≡ Some n → ring_from (new_incoming rings node ns) n ≡ rings n
found_from rings node [] k n at = absurd cc
found_from rings node (m ∷ ns) zero n at = elim (eqb_tells m n) [ inl same ↦ rw same.0 (ap rings same.1) | inr away ↦ absurd (away.1 cc) ]
found_from rings node (m ∷ ns) (suc k) n at = elim (eqb_tells m n) [ inl same ↦ rw same.0 (ap rings same.1) | inr away ↦ rw away.0 (found_from rings node ns k n at) ]

map_same : {Y : Type 0} (f g : ℕ → Y) (ns : List ℕ) → ((k n : ℕ) → slice_get ns k ≡ Some n → f n ≡ g n) → map f ns ≡ map g ns
map_same f g [] same = refl
map_same f g (n ∷ ns) same = ap₂ (λ y ys. y ∷ ys) (same 0 n refl) (map_same f g ns (λ k m at. same (suc k) m at))

-- the rings of a seat's links are those that its links tell
by_its_own : (top : TopologyValue) (ring limit node : ℕ) (rings_to rings_from : ℕ → RingName) (s : SeatValue)
    → s ≡ new_seat top node limit (new_outgoing ring rings_to (reached_from top node)) (new_incoming rings_from node (reaching top node)) → IsNewSeat top ring limit node s
by_its_own top ring limit node rings_to rings_from s is =
    is ∙ ap₂ (λ out into. new_seat top node limit out into)
    (map_same (λ to. new_out_link ring (rings_to to) to) (λ to. new_out_link ring (ring_to s.outgoing to) to) (reached_from top node)
    (λ k n at. ap (λ r. new_out_link ring r n) (sym (ap (λ (z : SeatValue). ring_to z.outgoing n) is ∙ found_to ring rings_to (reached_from top node) k n at))))
    (map_same (λ from. new_in_link (rings_from from) node from) (λ from. new_in_link (ring_from s.incoming from) node from) (reaching top node)
    (λ k n at. ap (λ r. new_in_link r node n) (sym (ap (λ (z : SeatValue). ring_from z.incoming n) is ∙ found_from rings_from node (reaching top node) k n at))))

-- a seat with its ends of these rings
abbrev pub IsBuilt : TopologyValue → ℕ → ℕ → (ℕ → ℕ → RingName) → ℕ → SeatValue → Type 0
IsBuilt top ring limit rings node s =
    s ≡ new_seat top node limit (new_outgoing ring (rings node) (reached_from top node)) (new_incoming (λ from. rings from node) node (reaching top node))

is_built : (top : TopologyValue) (ring limit node : ℕ) (ends : List Ends) (own : Ends) (s : SeatValue) (mesh : IsMesh top ring ends) → node < node_count top → slice_get ends node ≡ Some own
    → s ≡ new_seat top node limit own.outgoing.items own.incoming.items → IsBuilt top ring limit mesh.rings node s
is_built top ring limit node ends own s mesh lt at is =
    is ∙ ap₂ (λ out into. new_seat top node limit out into) (ap (λ o. outgoing_of o) (sym at) ∙ mesh.outgoing node lt) (ap (λ o. incoming_of o) (sym at) ∙ mesh.incoming node lt)

-- the seats that were made so far, over these rings
pub record AreBuilt (top : TopologyValue) (ring limit count : ℕ) (ends : List Ends) (seats : List SeatValue) : Type 0 where
  pub mesh : IsMesh top ring ends
  pub all : length seats ≡ count
  pub each : (node : ℕ) (s : SeatValue) → slice_get seats node ≡ Some s → (node < node_count top) × IsBuilt top ring limit mesh.rings node s

pub none_built : (top : TopologyValue) (ring limit : ℕ) (ends : List Ends) (seats : List SeatValue) → IsMesh top ring ends → seats ≡ [] → AreBuilt top ring limit 0 ends seats
none_built top ring limit ends seats mesh none = rw none (record { mesh = mesh; all = refl; each = λ node s at. absurd cc })

last_or_before : {X : Type 0} (xs : List X) (x s : X) (k : ℕ) → slice_get (xs ++ x ∷ []) k ≡ Some s → (slice_get xs k ≡ Some s) ⊎ ((k ≡ length xs) × (x ≡ s))
last_or_before [] x s zero at = inr (refl, cc)
last_or_before [] x s (suc k) at = absurd cc
last_or_before (y ∷ xs) x s zero at = inl at
last_or_before (y ∷ xs) x s (suc k) at = elim (last_or_before xs x s k at) [ inl before ↦ inl before | inr last ↦ inr (ap suc last.0, last.1) ]

pub one_more_seat : (top : TopologyValue) (ring limit count : ℕ) (ends : List Ends) (own : Ends) (seats next : List SeatValue) (x : SeatValue) → AreBuilt top ring limit count ends seats
    → count < node_count top → slice_get ends count ≡ Some own → x ≡ new_seat top count limit own.outgoing.items own.incoming.items → next ≡ seats ++ x ∷ []
    → AreBuilt top ring limit (count + 1) ends next
one_more_seat top ring limit count ends own seats next x so_far lt here_is made is = record {
  mesh = so_far.mesh;
  all = rw (is, length-append seats (x ∷ []), so_far.all) refl;
  each = λ node s at. elim (last_or_before seats x s node (subst (λ (l : List SeatValue). slice_get l node ≡ Some s) is at)) [
    | inl before ↦ so_far.each node s before
    | inr last ↦
        let place : count ≡ node = sym (last.0 ∙ so_far.all) in
        let new : IsBuilt top ring limit so_far.mesh.rings count x = is_built top ring limit count ends own x so_far.mesh lt here_is made in (
          subst (λ (n : ℕ). n < node_count top) place lt,
          subst (λ (n : ℕ). IsBuilt top ring limit so_far.mesh.rings n s) place (subst (λ (y : SeatValue). IsBuilt top ring limit so_far.mesh.rings count y) last.1 new),
        )
  ];
}

strictly : (a b : ℕ) → a ≤ b → a ≢ b → a + 1 ≤ b
strictly a b le ne = grind (arith, nat_tests)

-- the ring that leads to an actor of a range which the test lets pass
reaches : (capacity : ℕ) (rings : ℕ → RingName) (p : ℕ → Bool) (n a b : ℕ) → a ≤ b → b < a + n → p b ≡ true
    → ring_to (map new_lane (new_outgoing capacity rings (filter p (range_with_len a n)))) b ≡ rings b
reaches capacity rings p zero a b le lt passes = absurd (omega (arith, le, lt))
reaches capacity rings p (suc n) a b le lt passes = elim (eqb_tells a b) [
  | inl same ↦ first (p a) (ap p same.1 ∙ passes) same.0 same.1
  | inr away ↦ later (p a) away.0 (reaches capacity rings p n (a + 1) b (strictly a b le away.1) (omega (arith, lt)) passes)
]
  where
    rest : List ℕ
    rest = filter p (range_with_len (a + 1) n)

    first : (c : Bool) → c ≡ true → (a == b) ≡ true → a ≡ b → ring_to (map new_lane (new_outgoing capacity rings (cond c (a ∷ rest) rest))) b ≡ rings b
    first true is tells same = rw tells (ap rings same)
    first false is tells same = absurd cc

    later : (c : Bool) → (a == b) ≡ false → ring_to (map new_lane (new_outgoing capacity rings rest)) b ≡ rings b
        → ring_to (map new_lane (new_outgoing capacity rings (cond c (a ∷ rest) rest))) b ≡ rings b
    later true tells found = rw tells found
    later false tells found = found

-- and the one from it
is_reached : (rings : ℕ → RingName) (node : ℕ) (p : ℕ → Bool) (n a b : ℕ) → a ≤ b → b < a + n → p b ≡ true
    → ring_from (new_incoming rings node (filter p (range_with_len a n))) b ≡ rings b
is_reached rings node p zero a b le lt passes = absurd (omega (arith, le, lt))
is_reached rings node p (suc n) a b le lt passes = elim (eqb_tells a b) [
  | inl same ↦ first (p a) (ap p same.1 ∙ passes) same.0 same.1
  | inr away ↦ later (p a) away.0 (is_reached rings node p n (a + 1) b (strictly a b le away.1) (omega (arith, lt)) passes)
]
  where
    rest : List ℕ
    rest = filter p (range_with_len (a + 1) n)

    first : (c : Bool) → c ≡ true → (a == b) ≡ true → a ≡ b → ring_from (new_incoming rings node (cond c (a ∷ rest) rest)) b ≡ rings b
    first true is tells same = rw tells (ap rings same)
    first false is tells same = absurd cc

    later : (c : Bool) → (a == b) ≡ false → ring_from (new_incoming rings node rest) b ≡ rings b → ring_from (new_incoming rings node (cond c (a ∷ rest) rest)) b ≡ rings b
    later true tells found = rw tells found
    later false tells found = found

-- the seats over the rings of a topology are new ones, and each two hold the ends of one ring
pub are_new : (top : TopologyValue) (ring limit count : ℕ) (ends : List Ends) (seats : List SeatValue) → AreBuilt top ring limit count ends seats → AreNewSeats top ring limit count seats
are_new top ring limit count ends seats built =
    let rings : ℕ → ℕ → RingName = built.mesh.rings in
    record {
      all = built.all;
      each = λ node s at. by_its_own top ring limit node (rings node) (λ from. rings from node) s (built.each node s at).1;
      one_ring = λ a b s t at_a at_b may.
          let sender = built.each a s at_a in
          let receiver = built.each b t at_b in
          let leads : ring_to s.outgoing b ≡ rings a b = ap (λ (z : SeatValue). ring_to z.outgoing b) sender.1
          ∙ reaches ring (rings a) (λ to. may_exchange top a to) (node_count top) 0 b (omega arith) (let lt = receiver.0 in omega (arith, lt)) may in
          let comes : ring_from t.incoming a ≡ rings a b = ap (λ (z : SeatValue). ring_from z.incoming a) receiver.1
          ∙ is_reached (λ from. rings from b) b (λ from. may_exchange top from b) (node_count top) 0 a (omega arith) (let lt = sender.0 in omega (arith, lt)) may in
          leads ∙ sym comes;
    }

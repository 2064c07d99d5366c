-- A seat before its first event keeps what seats keep.
use Rattle.std.proofs.Common.{◌≡◌, ℕ, zero, suc, ◌+◌, ◌≤◌, ◌<◌, ◌==◌, Bool, true, false, cond, List, [], ◌∷◌, ◌++◌, map, Option, Some, None, refl, ap, sym, subst, ◌∙◌, arith}
use Rattle.std.specs.Prelude.{All, filter}
use Rattle.std.specs.List.{slice_get, range_with_len}
use Rattle.messages.specs.declared.envelope.Envelope.{Envelope}
use Rattle.messages.specs.declared.outcome.Outcome.{Outcome}
use Rattle.messages.specs.Topology.{TopologyValue, node_count}
use Rattle.links.specs.Links.{RingName, OutLinkValue, InLinkValue, may_exchange, reached_from, reaching}
use Rattle.links.specs.Mesh.{new_out_link, new_in_link, new_outgoing, new_incoming}
use Rattle.links.specs.declared.ends.Ends.{Ends}
use Rattle.actors.specs.CameFrom.{CameFrom}
use Rattle.actors.specs.Machines.{IsRecorded}
use Rattle.actors.specs.Seats.{SeatValue, through, ends_of, sources_of, IsApart, Keeps}
use Rattle.actors.specs.Opening.{new_lane, IsUnused, AreItsRings}
use Rattle.actors.proofs.Lists.{all_of}
use Rattle.actors.proofs.Seating.{recorded_moved}

both_empty : (b : Bool) (xs : List Envelope) → xs ≡ [] → cond b [] xs ≡ []
both_empty true xs e = refl
both_empty false xs e = e

quiet : (capacity : ℕ) (rings : ℕ → RingName) (ns : List ℕ) (n : ℕ) → through (map new_lane (new_outgoing capacity rings ns)) n ≡ []
quiet capacity rings [] n = refl
quiet capacity rings (m ∷ ns) n = both_empty (m == n) _ (quiet capacity rings ns n)

same_ends : (capacity : ℕ) (rings : ℕ → RingName) (ns : List ℕ) → ends_of (map new_lane (new_outgoing capacity rings ns)) ≡ ns
same_ends capacity rings [] = refl
same_ends capacity rings (n ∷ ns) = ap (λ (ms : List ℕ). n ∷ ms) (same_ends capacity rings ns)

same_sources : (rings : ℕ → RingName) (node : ℕ) (ns : List ℕ) → sources_of (new_incoming rings node ns) ≡ ns
same_sources rings node [] = refl
same_sources rings node (n ∷ ns) = ap (λ (ms : List ℕ). n ∷ ms) (same_sources rings node ns)

nothing_taken : (rings : ℕ → RingName) (node : ℕ) (ns : List ℕ) (k : ℕ) (l : InLinkValue) → slice_get (new_incoming rings node ns) k ≡ Some l → l.received ≡ []
nothing_taken rings node [] k l at = absurd cc
nothing_taken rings node (n ∷ ns) zero l at = let is : new_in_link (rings n) node n ≡ l = cc in ap (λ (x : InLinkValue). x.received) (sym is)
nothing_taken rings node (n ∷ ns) (suc k) l at = nothing_taken rings node ns k l at

nothing_gone : (capacity : ℕ) (rings : ℕ → RingName) (ns : List ℕ) (k : ℕ) (l : OutLinkValue) → slice_get (new_outgoing capacity rings ns) k ≡ Some l → IsUnused l
nothing_gone capacity rings [] k l at = absurd cc
nothing_gone capacity rings (n ∷ ns) zero l at = let is : new_out_link capacity (rings n) n ≡ l = cc in ap (λ (x : OutLinkValue). x.sent) (sym is)
nothing_gone capacity rings (n ∷ ns) (suc k) l at = nothing_gone capacity rings ns k l at

-- nothing went into a seat's rings before its first event
pub unused : (top : TopologyValue) (node : ℕ) (ends : Ends) → AreItsRings top node ends → All IsUnused ends.outgoing.items
unused top node ends its =
    all_of IsUnused ends.outgoing.items (λ k l lt at. nothing_gone its.capacity its.rings_to (reached_from top node) k l (subst (λ ls. slice_get ls k ≡ Some l) its.outgoing at))

at_least : (p : ℕ → Bool) (n a k m : ℕ) → slice_get (filter p (range_with_len a n)) k ≡ Some m → a ≤ m
at_least p zero a k m at = absurd cc
at_least p (suc n) a k m at = by (p a) k at (λ j here. at_least p n (a + 1) j m here)
  where
    by : (b : Bool) (k : ℕ) → slice_get (cond b (a ∷ filter p (range_with_len (a + 1) n)) (filter p (range_with_len (a + 1) n))) k ≡ Some m
        → ((j : ℕ) → slice_get (filter p (range_with_len (a + 1) n)) j ≡ Some m → a + 1 ≤ m) → a ≤ m
    by true zero at rest = let is : a ≡ m = cc in omega arith
    by true (suc k) at rest = let le = rest k at in omega arith
    by false k at rest = let le = rest k at in omega arith

apart_cons : (a : ℕ) (ns : List ℕ) → ((k m : ℕ) → slice_get ns k ≡ Some m → a + 1 ≤ m) → IsApart ns → IsApart (a ∷ ns)
apart_cons a ns above apart zero zero m at_j at_k = refl
apart_cons a ns above apart zero (suc k) m at_j at_k = absurd (let is : a ≡ m = cc in let le = above k m at_k in omega arith)
apart_cons a ns above apart (suc j) zero m at_j at_k = absurd (let is : a ≡ m = cc in let le = above j m at_j in omega arith)
apart_cons a ns above apart (suc j) (suc k) m at_j at_k = ap suc (apart j k m at_j at_k)

range_apart : (p : ℕ → Bool) (n a : ℕ) → IsApart (filter p (range_with_len a n))
range_apart p zero a = λ j k m at_j at_k. absurd cc
range_apart p (suc n) a = by (p a) (λ k m at. at_least p n (a + 1) k m at) (range_apart p n (a + 1))
  where
    by : (b : Bool) → ((k m : ℕ) → slice_get (filter p (range_with_len (a + 1) n)) k ≡ Some m → a + 1 ≤ m) → IsApart (filter p (range_with_len (a + 1) n))
        → IsApart (cond b (a ∷ filter p (range_with_len (a + 1) n)) (filter p (range_with_len (a + 1) n)))
    by true above rest = apart_cons a _ above rest
    by false above rest = rest

-- what a test finds in a range is within it
at_most : (p : ℕ → Bool) (n a k m : ℕ) → slice_get (filter p (range_with_len a n)) k ≡ Some m → m < a + n
at_most p zero a k m at = absurd cc
at_most p (suc n) a k m at = by (p a) k at (λ j here. at_most p n (a + 1) j m here)
  where
    by : (b : Bool) (k : ℕ) → slice_get (cond b (a ∷ filter p (range_with_len (a + 1) n)) (filter p (range_with_len (a + 1) n))) k ≡ Some m
        → ((j : ℕ) → slice_get (filter p (range_with_len (a + 1) n)) j ≡ Some m → m < a + 1 + n) → m < a + suc n
    by true zero at rest = let is : a ≡ m = cc in omega (arith, is)
    by true (suc k) at rest = let lt = rest k at in omega (arith, lt)
    by false k at rest = let lt = rest k at in omega (arith, lt)

range_within : (p : ℕ → Bool) (n : ℕ) → All (λ m. m < n) (filter p (range_with_len 0 n))
range_within p n = all_of (λ m. m < n) (filter p (range_with_len 0 n)) (λ k m lt at. let most = at_most p n 0 k m at in omega (arith, most))

pub opened : {M : Type 0} (came_from : CameFrom M) (untaken : M → Option (ℕ × Outcome)) (machine : M) (d : SeatValue) (ends : Ends)
    → IsRecorded came_from untaken d.topology d.node (λ to. []) machine [] [] [] 0 0 true → AreItsRings d.topology d.node ends
    → d.journal ≡ [] → d.outcomes ≡ [] → d.outbox ≡ [] → d.accepted ≡ 0 → d.clock ≡ 0 → d.timed ≡ true → d.backlog ≡ [] → d.outgoing ≡ map new_lane ends.outgoing.items → d.incoming ≡ ends.incoming.items → d.held ≡ None
    → Keeps came_from untaken machine d
opened came_from untaken machine d ends recorded its journal outcomes outbox accepted clock timed backlog outgoing incoming held =
    let reached = reached_from d.topology d.node in
    let out : d.outgoing ≡ map new_lane (new_outgoing its.capacity its.rings_to reached) = outgoing ∙ ap (λ ls. map new_lane ls) its.outgoing in
    let into : d.incoming ≡ new_incoming its.rings_from d.node (reaching d.topology d.node) = incoming ∙ its.incoming in
    record {
      recorded =
          rw (journal, outcomes, outbox, accepted, clock, timed)
          (recorded_moved came_from untaken d.topology d.node (λ to. []) (through d.outgoing) machine [] [] [] [] 0 0 true recorded
          (λ n. rw out (ap (λ xs. xs ++ []) (quiet its.capacity its.rings_to reached n))));
      received = rw (journal, into, held) (λ k l at. nothing_taken its.rings_from d.node (reaching d.topology d.node) k l at);
      ends = rw (out, same_ends its.capacity its.rings_to reached) (range_apart (λ to. may_exchange d.topology d.node to) (node_count d.topology) 0);
      sources = rw (into, same_sources its.rings_from d.node (reaching d.topology d.node)) (range_apart (λ from. may_exchange d.topology from d.node) (node_count d.topology) 0);
      reached =
          rw (into, same_sources its.rings_from d.node (reaching d.topology d.node)) (range_within (λ from. may_exchange d.topology from d.node) (node_count d.topology));
      handled = rw journal (λ e has. absurd (let lt = has.1 in omega (arith, lt)));
      held_back = rw held tt;
      own = rw backlog (λ k e lt. absurd (omega arith));
    }

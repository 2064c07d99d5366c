-- The rings that are laid so far, and which each of them is.
use Rattle.std.proofs.Common.{◌≡◌, ℕ, ◌+◌, ◌<◌, ◌==◌, ◌&&◌, Bool, true, false, cond, List, [], ◌∷◌, ◌++◌, refl, ap, sym, ◌∙◌, inl, inr, arith, append-nil}
use Rattle.std.specs.Prelude.{◌≢◌, filter, nat_lt, if◌then◌else◌, Result, Ok, Err, OnOk}
use Rattle.std.specs.List.{range_with_len}
use Rattle.std.proofs.lemmas.Bool.Decides.{eqb_tells, nat_tests}
use denote.RawPtr.{null_ptr}
use Rattle.std.specs.declared.alloc.Global.{Global}
use Rattle.messages.specs.Topology.{TopologyValue, node_count}
use Rattle.links.specs.Links.{RingName, may_exchange, reached_from}
use Rattle.links.specs.Mesh.{outgoing_at, incoming_at, new_out_link, new_in_link, new_outgoing, new_incoming, IsLaid, AreLaid}
use Rattle.links.specs.declared.ends.Ends.{Ends}
use Rattle.links.proofs.Rows.{laid_out, passed_out, laid_in, passed_in, rows_out, rows_in}

-- the same as before, but for one number
abbrev changed : {X : Type 0} → (ℕ → X) → ℕ → X → ℕ → X
changed f at x k = cond (k == at) x (f k)

changed_there : {X : Type 0} (f : ℕ → X) (at : ℕ) (x : X) → changed f at x at ≡ x
changed_there f at x = elim (eqb_tells at at) [ inl same ↦ rw same.0 refl | inr away ↦ absurd (away.1 refl) ]

changed_away : {X : Type 0} (f : ℕ → X) (at : ℕ) (x : X) (k : ℕ) → k ≢ at → changed f at x k ≡ f k
changed_away f at x k ne = elim (eqb_tells k at) [ inl same ↦ absurd (ne same.1) | inr away ↦ rw away.0 refl ]

not_same : (k n : ℕ) → k < n → k ≢ n
not_same k n lt is = absurd (omega (arith, is))

-- those from one actor to the actors below `to`
pub record AreLaidBelow (top : TopologyValue) (capacity from to : ℕ) (old new : List Ends) : Type 0 where
  pub rings : ℕ → RingName
  pub outgoing : (node : ℕ) → outgoing_at new node
      ≡ outgoing_at old node ++ (if node == from then new_outgoing capacity rings (filter (λ to. may_exchange top from to) (range_with_len 0 to)) else [])
  pub incoming : (node : ℕ) → incoming_at new node
      ≡ incoming_at old node ++ (if (nat_lt node to && may_exchange top from node) then new_in_link (rings node) node from ∷ [] else [])

-- those from all actors below `from`
pub record AreLaidByAll (top : TopologyValue) (capacity from : ℕ) (ends : List Ends) : Type 0 where
  pub rings : ℕ → ℕ → RingName
  pub outgoing : (node : ℕ) → outgoing_at ends node ≡ (if nat_lt node from then new_outgoing capacity (rings node) (reached_from top node) else [])
  pub incoming : (node : ℕ) → node < node_count top
      → incoming_at ends node ≡ new_incoming (λ from. rings from node) node (filter (λ from. may_exchange top from node) (range_with_len 0 from))

-- both ends are of the ring that was made
pub ends_laid : {T E : Type 0} (r : Result T E) (capacity from to : ℕ) (ring : RingName) (old middle new : List Ends)
    → ((node : ℕ) → outgoing_at middle node ≡ outgoing_at old node ++ (if node == from then new_out_link capacity ring to ∷ [] else []))
    → ((node : ℕ) → incoming_at middle node ≡ incoming_at old node)
    → ((node : ℕ) → outgoing_at new node ≡ outgoing_at middle node)
    → ((node : ℕ) → OnOk r (incoming_at new node ≡ incoming_at middle node ++ (if node == to then new_in_link ring to from ∷ [] else [])))
    → OnOk r (IsLaid capacity from to old new)
ends_laid (Ok x) capacity from to ring old middle new out in_stays out_stays into = record {
  ring = ring;
  outgoing = λ node. out_stays node ∙ out node;
  incoming = λ node. into node ∙ ap (λ ls. ls ++ cond (node == to) (new_in_link ring to from ∷ []) []) (in_stays node);
}
ends_laid (Err e) capacity from to ring old middle new out in_stays out_stays into = tt

-- stands for a ring that is not laid yet
abbrev no_ring : Global → RingName
no_ring heap = record { words = null_ptr; slots = null_ptr; names = (0, (0, 0)); heap = heap }

none_less : (node : ℕ) → nat_lt node 0 ≡ false
none_less node = grind (arith, nat_tests)

pub none_below : (heap : Global) (top : TopologyValue) (capacity from : ℕ) (start : List Ends) → AreLaidBelow top capacity from 0 start start
none_below heap top capacity from start = record {
  rings = λ to. no_ring heap;
  outgoing = λ node. nothing (node == from) (outgoing_at start node);
  incoming = λ node. rw (none_less node) (sym (append-nil (incoming_at start node)));
}
  where
    nothing : {X : Type 0} (b : Bool) (xs : List X) → xs ≡ xs ++ cond b [] []
    nothing true xs = sym (append-nil xs)
    nothing false xs = sym (append-nil xs)

pub none_by_any : (heap : Global) (top : TopologyValue) (capacity : ℕ) (ends : List Ends) → ((node : ℕ) → outgoing_at ends node ≡ []) → ((node : ℕ) → incoming_at ends node ≡ [])
    → AreLaidByAll top capacity 0 ends
none_by_any heap top capacity ends no_out no_in = record { rings = λ from to. no_ring heap; outgoing = λ node. rw (none_less node) (no_out node); incoming = λ node lt. no_in node }

pub one_laid : (top : TopologyValue) (capacity from to : ℕ) (start now next : List Ends) → may_exchange top from to ≡ true
    → AreLaidBelow top capacity from to start now → IsLaid capacity from to now next → AreLaidBelow top capacity from (to + 1) start next
one_laid top capacity from to start now next allowed so_far more =
    let may : ℕ → Bool = λ to. may_exchange top from to in
    let rings : ℕ → RingName = changed so_far.rings to more.ring in
    let there : rings to ≡ more.ring = changed_there so_far.rings to more.ring in
    let agree : (k : ℕ) → k < to → rings k ≡ so_far.rings k = λ k lt. changed_away so_far.rings to more.ring k (not_same k to lt) in
    record {
      rings = rings;
      outgoing = λ node.
          laid_out may from to node (λ to. new_out_link capacity (so_far.rings to) to) (λ to. new_out_link capacity (rings to) to) _ _ _ allowed
          (λ k lt. ap (λ r. new_out_link capacity r k) (agree k lt)) (so_far.outgoing node)
          (more.outgoing node ∙ ap (λ r. outgoing_at now node ++ cond (node == from) (new_out_link capacity r to ∷ []) []) (sym there));
      incoming = λ node.
          laid_in may to node (λ node. new_in_link (so_far.rings node) node from) (λ node. new_in_link (rings node) node from) _ _ _ allowed
          (λ lt. ap (λ r. new_in_link r node from) (agree node lt)) (so_far.incoming node)
          (more.incoming node ∙ ap (λ r. incoming_at now node ++ cond (node == to) (new_in_link r to from ∷ []) []) (sym there));
    }

pub one_passed : (top : TopologyValue) (capacity from to : ℕ) (start now : List Ends) → may_exchange top from to ≡ false
    → AreLaidBelow top capacity from to start now → AreLaidBelow top capacity from (to + 1) start now
one_passed top capacity from to start now never so_far =
    let may : ℕ → Bool = λ to. may_exchange top from to in
    record {
      rings = so_far.rings;
      outgoing = λ node. passed_out may from to node (λ to. new_out_link capacity (so_far.rings to) to) _ _ never (so_far.outgoing node);
      incoming = λ node. passed_in may to node (λ node. new_in_link (so_far.rings node) node from) _ _ never (so_far.incoming node);
    }

pub row_laid : (top : TopologyValue) (capacity from : ℕ) (now next : List Ends) → AreLaidByAll top capacity from now → AreLaid top capacity from now next
    → AreLaidByAll top capacity (from + 1) next
row_laid top capacity from now next so_far more =
    let rings : ℕ → ℕ → RingName = changed so_far.rings from more.rings in
    let there : rings from ≡ more.rings = changed_there so_far.rings from more.rings in
    let others : (k : ℕ) → k ≢ from → rings k ≡ so_far.rings k = λ k ne. changed_away so_far.rings from more.rings k ne in
    record {
      rings = rings;
      outgoing = λ node.
          rows_out (reached_from top) from node (λ node to. new_out_link capacity (so_far.rings node to) to) (λ node to. new_out_link capacity (rings node to) to) _ _
          (λ ne. ap (λ (rs : ℕ → RingName). λ (to : ℕ). new_out_link capacity (rs to) to) (others node ne)) (so_far.outgoing node)
          (more.outgoing node ∙ ap (λ rs. outgoing_at now node ++ cond (node == from) (new_outgoing capacity rs (reached_from top from)) []) (sym there));
      incoming = λ node lt.
          rows_in (λ from. may_exchange top from node) from (λ from. new_in_link (so_far.rings from node) node from) (λ from. new_in_link (rings from node) node from) _ _
          (λ k below. ap (λ (rs : ℕ → RingName). new_in_link (rs node) node k) (others k (not_same k from below))) (so_far.incoming node lt)
          (more.incoming node lt ∙ ap (λ (rs : ℕ → RingName). incoming_at now node ++ cond (may_exchange top from node) (new_in_link (rs node) node from ∷ []) []) (sym there));
    }

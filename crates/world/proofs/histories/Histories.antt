-- What histories tell, that they only grow, that stamps agree, and that completed writes stand in them.
use Rattle.std.proofs.Common.{◌≡◌, ◌∙◌, ℕ, Bool, true, false, refl, sym, ap, arith}
use Rattle.std.specs.Prelude.{◌≢◌, Contains, IsPermutation}
use Rattle.std.specs.Ordering.{is_eq, ordering_then, nat_cmp}
use Rattle.std.proofs.lemmas.Bool.Decides.{nat_tests}
use Rattle.std.proofs.lemmas.List.Sorted.{Contains-permutation, IsPermutation-sym}
use Rattle.std.proofs.lemmas.Map.Keys.{IsDistinct-IsPermutation, IsDistinct-from_apart, apart_from_distinct}
use Rattle.logical_time.specs.Stamps.{StampValue, stamp_cmp}
use Rattle.column_family.specs.declared.batch.Committed.{Committed}
use Rattle.column_family.specs.History.{History}
use Rattle.column_family.specs.Normal.{committed}
use Rattle.store.proofs.lists.Lists.{given, given_only}
use Rattle.messages.specs.Topology.{TopologyValue, shard_node}
use Rattle.messages.specs.Shard.{Decision}
use Rattle.world.specs.Run.{Run}
use Rattle.world.specs.Histories.{decisions_in, committed_of, history_of, IsHistory}
use Rattle.world.specs.Entries.{CoordinatorsDecide, HaveOwnStamps, IsEntryOf, TellsDecided}
use Rattle.world.proofs.lists.Pairs.{among_pairs, given_pairs}
use Rattle.world.proofs.safety.Invariant.{Inv}
use Rattle.world.proofs.histories.Decisions.{sound, own_stamp}
use Rattle.world.proofs.histories.Entries.{decided_by_one, decided_once, batch_found, entry_found, entry_only}

-- ## Stamps of a history

same_times : (a b c d : ℕ) → is_eq (ordering_then (nat_cmp a b) (nat_cmp c d)) ≡ true → a ≡ b
same_times a b c d e = grind (arith, nat_tests)

same_nodes : (a b c d : ℕ) → is_eq (ordering_then (nat_cmp a b) (nat_cmp c d)) ≡ true → c ≡ d
same_nodes a b c d e = grind (arith, nat_tests)

same_both : (a c : ℕ) → is_eq (ordering_then (nat_cmp a a) (nat_cmp c c)) ≡ true
same_both a c = grind (arith, nat_tests)

turned : (a b c d : ℕ) → is_eq (ordering_then (nat_cmp a b) (nat_cmp c d)) ≡ is_eq (ordering_then (nat_cmp b a) (nat_cmp d c))
turned a b c d = grind (arith, nat_tests)

same_stamp : (s t : StampValue) → is_eq (stamp_cmp s t) ≡ true → s ≡ t
same_stamp s t e i = record { time = same_times s.time t.time s.node t.node e i; node = same_nodes s.time t.time s.node t.node e i }

abbrev has_same_stamp : Committed → Committed → Bool
has_same_stamp c e = is_eq (stamp_cmp c.stamp e.stamp)

differ : (s t : StampValue) (b : Bool) → is_eq (stamp_cmp s t) ≡ b → s ≢ t → b ≡ false
differ s t true e n = absurd (n (same_stamp s t e))
differ s t false e n = refl

no_differ : (s t : StampValue) → is_eq (stamp_cmp s t) ≡ false → s ≢ t
no_differ s t e same =
    let is = ap (λ z. is_eq (stamp_cmp z t)) same ∙ same_both t.time t.node in absurd (cc)

-- in any order
own_in_order : (g h : History) → IsPermutation g h → HaveOwnStamps g → HaveOwnStamps h
own_in_order g h p own =
    let apart = IsDistinct-from_apart has_same_stamp g (λ i j d lt below. differ _ _ _ refl (own i j d lt below)) in
    let moved = IsDistinct-IsPermutation has_same_stamp (λ c e. turned c.stamp.time e.stamp.time c.stamp.node e.stamp.node) g h p apart in
    λ i j d lt below. no_differ _ _ (apart_from_distinct has_same_stamp h i j d moved lt below)

-- decisions of different transactions in one data centre have entries of different stamps
own_entries : (top : TopologyValue) (w : Run) (dc : ℕ) → Inv top w → HaveOwnStamps (history_of top w dc)
own_entries top w dc inv =
    given_pairs (λ d e. d.stamp ≢ e.stamp) (λ c e. c.stamp ≢ e.stamp) (committed_of w) (decisions_in top w dc)
    (λ d e x y n p q same. n (sym (entry_only w d x p).stamp ∙ same ∙ (entry_only w e y q).stamp))
    (among_pairs (λ d e. d.txn ≢ e.txn) (λ d e. d.stamp ≢ e.stamp) (decisions_in top w dc)
    (λ d e m k n same.
    let a = decided_by_one top w dc d m in
    let b = decided_by_one top w dc e k in
    n (own_stamp top w (shard_node top dc a.0) (shard_node top dc b.0) d e inv a.2 b.2 same))
    (decided_once top w dc inv))

-- ## What a history tells

-- each decision has its entry
pub entry_there : (top : TopologyValue) (w : Run) (dc : ℕ) (d : Decision) → Inv top w → Contains (decisions_in top w dc) d
    → (c : Committed) × Contains (history_of top w dc) c × IsEntryOf w d c
entry_there top w dc d inv has =
    let a = decided_by_one top w dc d has in
    let s = sound top w (shard_node top dc a.0) d inv a.2 in
    let is = entry_found top w d s.submission s.batch inv s.written in
    let c = committed s.batch d.stamp d.commit in
    (c, given (committed_of w) (decisions_in top w dc) d c has is, entry_only w d c is)

-- each entry has its decision
pub decision_there : (top : TopologyValue) (w : Run) (dc : ℕ) (c : Committed) → Contains (history_of top w dc) c
    → (d : Decision) × Contains (decisions_in top w dc) d × IsEntryOf w d c
decision_there top w dc c has =
    let r = given_only (committed_of w) (decisions_in top w dc) c has in
    (r.0, r.1, entry_only w r.0 c r.2)

pub history_tells : (top : TopologyValue) (w : Run) (dc : ℕ) (h : History) → Inv top w → IsHistory top w dc h → TellsDecided top w dc h
history_tells top w dc h inv p = record {
  entries = λ c has. decision_there top w dc c (Contains-permutation h (history_of top w dc) c p has);
  decisions = λ d has. back (entry_there top w dc d inv has);
  once = decided_once top w dc inv;
  stamps = own_in_order (history_of top w dc) h turn (own_entries top w dc inv);
}
  where
    turn : IsPermutation (history_of top w dc) h
    turn = IsPermutation-sym h (history_of top w dc) p

    back : {d : Decision} → (c : Committed) × Contains (history_of top w dc) c × IsEntryOf w d c → (c : Committed) × Contains h c × IsEntryOf w d c
    back (c, has, is) = (c, Contains-permutation (history_of top w dc) h c turn has, is)

-- ## Submissions and coordinators

pub coordinators_decide : (top : TopologyValue) (w : Run) → Inv top w → CoordinatorsDecide top w
coordinators_decide top w inv node d has =
    let s = sound top w node d inv has in
    (s.batch, batch_found top w d.txn s.submission s.batch inv.submitted s.written, s.here)

-- The sessions and the shards that are here.
use Rattle.std.proofs.Common.{◌≡◌, ◌∙◌, ℕ, ◌+◌, ◌<◌, Bool, true, false, List, [], ◌∷◌, ◌++◌, map, length, slice_get, append-nil, Some, refl, sym, ap, subst, arith, eq-eqb}
use Rattle.std.specs.Prelude.{filter, if◌then◌else◌, ◌&&◌, nat_lt, Contains}
use Rattle.std.proofs.lemmas.Bool.{and_from, ltb-true, lt-ltb}
use Rattle.std.proofs.lemmas.Option.{slice_get_within, get_or_from_slice_get}
use Rattle.std.specs.List.{range_with_len}
use Rattle.std.proofs.lemmas.Bool.Decides.{nat_tests}
use Rattle.std.proofs.lemmas.List.FromFn.{filter_of_map_range_with_len_more, length-range_with_len, get_or-range_with_len}
use Rattle.planner.proofs.Members.{map_contains, filter_contains}
use Rattle.messages.specs.Topology.{TopologyValue, is_session, session_node, is_shard, shard_node, shard_count, node_count}
use Rattle.messages.proofs.Numbering.{dc_of_shard, shard_is_shard}
use Rattle.site.specs.Story.{site_of, is_here}
use Rattle.site_port.specs.Port.{sessions_of}

pub session_at : (top : TopologyValue) (i : ℕ) → i < length top.homes → is_session top (session_node top i) ≡ true
session_at top i lt = grind (arith, nat_tests)

contains_get : {X : Type 0} (xs : List X) (k : ℕ) (x : X) → slice_get xs k ≡ Some x → Contains xs x
contains_get xs k x at = (k, slice_get_within xs k x at, get_or_from_slice_get xs k x x at)

below : (n i : ℕ) → Contains (range_with_len 0 n) i → i < n
below n i (k, lt, is) =
    let short : k < n = subst (λ m. k < m) (length-range_with_len 0 n) lt in
    let at : k ≡ i = omega (arith, sym (get_or-range_with_len 0 n k i short) ∙ is) in
    subst (λ m. m < n) at short

-- the session at a place is one, and is here
pub session_of_place : (top : TopologyValue) (dc place node : ℕ) → slice_get (sessions_of top dc) place ≡ Some node → (is_session top node ≡ true) × (is_here top dc node ≡ true)
session_of_place top dc place node at =
    let among = filter_contains (is_here top dc) (map (session_node top) (range_with_len 0 (length top.homes))) node (contains_get (sessions_of top dc) place node at) in
    let from = map_contains (session_node top) (range_with_len 0 (length top.homes)) node among.0 in
    (subst (λ n. is_session top n ≡ true) from.2 (session_at top from.0 (below (length top.homes) from.0 from.1)), among.1)

-- the sessions among so many are those among one less, and it, if it is here
pub one_session_more : (top : TopologyValue) (dc i : ℕ) (listed : List ℕ) → listed ≡ filter (is_here top dc) (map (session_node top) (range_with_len 0 i)) → (here : Bool) → here ≡ is_here top dc (session_node top i)
    → (if here then listed ++ session_node top i ∷ [] else listed) ≡ filter (is_here top dc) (map (session_node top) (range_with_len 0 (i + 1)))
one_session_more top dc i listed is true same = rw is (sym (filter_of_map_range_with_len_more (is_here top dc) (session_node top) 0 i i (omega arith) ∙ (rw (sym same) refl)))
one_session_more top dc i listed is false same = rw is (sym (filter_of_map_range_with_len_more (is_here top dc) (session_node top) 0 i i (omega arith) ∙ (rw (sym same) (append-nil (filter (is_here top dc) (map (session_node top) (range_with_len 0 i)))))))

-- the test of a session's node, which is one
pub here_by_test : (top : TopologyValue) (dc i node : ℕ) (r : Bool) → i < length top.homes → node ≡ session_node top i → r ≡ (is_session top node && is_here top dc node) → r ≡ is_here top dc (session_node top i)
here_by_test top dc i node r lt at e =
    subst (λ n. r ≡ (is_session top n && is_here top dc n)) at e ∙ ap (λ b. b && is_here top dc (session_node top i)) (session_at top i lt)

-- ## Shards

-- a shard of the data centre is here
pub shard_here : (top : TopologyValue) (dc shard : ℕ) → dc < top.dcs → shard < top.shards → is_here top dc (shard_node top dc shard) ≡ true
shard_here top dc shard there within =
    let is : is_shard top (shard_node top dc shard) ≡ true = shard_is_shard top dc shard there within in
    let below : shard_node top dc shard < shard_count top = ltb-true (shard_node top dc shard) (shard_count top) is in
    let first : nat_lt (shard_node top dc shard) (node_count top) ≡ true = lt-ltb (shard_node top dc shard) (node_count top) (omega arith) in
    let home : site_of top (shard_node top dc shard) ≡ dc = rw is (dc_of_shard top dc shard within) in
    and_from _ _ first (eq-eqb (site_of top (shard_node top dc shard)) dc home)

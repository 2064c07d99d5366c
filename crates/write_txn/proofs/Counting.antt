-- Votes, notices and answers, as the state counts them and as ballots do.
use Rattle.std.proofs.Common.{◌≡◌, ◌∙◌, sym, ap, refl, ℕ, Bool, true, false, ◌&&◌, ◌||◌, not, if◌then◌else◌, List, [], ◌∷◌, ◌++◌, length, arith}
use Rattle.std.specs.Prelude.{filter, ◌==◌}
use Rattle.std.specs.List.{list_all}
use Rattle.std.proofs.lemmas.Bool.Decides.{nat_tests}
use Rattle.logical_time.specs.Stamps.{TxnValue, WriterValue}
use Rattle.column_family.proofs.Options.{by_cases, neither}
use Rattle.txn_state.specs.Votes.{is_among}
use Rattle.txn_state.specs.Answers.{is_unanswered}
use Rattle.messages.specs.Topology.{TopologyValue, dc_of, shard_node}
use Rattle.messages.specs.Words.{is_same_txn}
use Rattle.messages.specs.Shard.{Vote, Met}
use Rattle.messages.specs.Known.{has_vote, is_cohort, is_awaited, all_voted, is_met, all_met}
use Rattle.write_txn.specs.View.{nodes_for, met_for, near_nodes, left_of}

pub has_among : (vs : List Vote) (t : TxnValue) (node : ℕ) → has_vote vs t node ≡ is_among (nodes_for vs t) node
has_among [] t node = refl
has_among (v ∷ vs) t node = by_cases (is_same_txn v.txn t)
    (λ yes. rw yes (ap (λ (b : Bool). (v.node == node) || b) (has_among vs t node)))
    (λ no. rw no (has_among vs t node))

pub met_among : (ms : List Met) (t d : TxnValue) → is_met ms t d ≡ is_unanswered (met_for ms t) d
met_among [] t d = refl
met_among (m ∷ ms) t d = by_cases (is_same_txn m.waiter t)
    (λ yes. rw yes (ap (λ (b : Bool). is_same_txn m.dependency d || b) (met_among ms t d)))
    (λ no. rw no (met_among ms t d))

pub cohort_near : (top : TopologyValue) (me : ℕ) (cohorts : List ℕ) (node : ℕ) → is_cohort top me cohorts node ≡ is_among (near_nodes top me cohorts) node
cohort_near top me [] node = refl
cohort_near top me (c ∷ cs) node = ap (λ (b : Bool). (shard_node top (dc_of top me) c == node) || b) (cohort_near top me cs node)

same_number : (m n : ℕ) → (m == n) ≡ true → m ≡ n
same_number m n e = grind (arith, nat_tests)

same_self : (m : ℕ) → (m == m) ≡ true
same_self m = grind (arith, nat_tests)

number_back : (m n : ℕ) → (m == n) ≡ (n == m)
number_back m n = grind (arith, nat_tests)

-- a node is left exactly where it is one of the nodes and hasn't voted
pub among_left : (nodes voters : List ℕ) (node : ℕ) → is_among (left_of nodes voters) node ≡ (is_among nodes node && not (is_among voters node))
among_left [] voters node = refl
among_left (n ∷ ns) voters node = by_cases (is_among voters n)
    (λ yes. rw yes (among_left ns voters node ∙ by_cases (n == node)
    (λ is. rw (is, sym (ap (is_among voters) (same_number n node is)), yes) (go (is_among ns node)))
    (λ isnt. rw isnt refl)))
    (λ no. rw no (ap (λ (b : Bool). (n == node) || b) (among_left ns voters node) ∙ by_cases (n == node)
    (λ is. rw (is, sym (ap (is_among voters) (same_number n node is)), no) refl)
    (λ isnt. rw isnt refl)))
  where
    go : (b : Bool) → (b && false) ≡ false
    go true = refl
    go false = refl

pub awaited_left : (top : TopologyValue) (me : ℕ) (cohorts : List ℕ) (vs : List Vote) (t : TxnValue) (node : ℕ)
    → is_awaited top me cohorts vs t node ≡ is_among (left_of (near_nodes top me cohorts) (nodes_for vs t)) node
awaited_left top me cohorts vs t node =
    ap (λ (b : Bool). b && not (has_vote vs t node)) (cohort_near top me cohorts node)
    ∙ (ap (λ (b : Bool). is_among (near_nodes top me cohorts) node && not b) (has_among vs t node)
    ∙ sym (among_left (near_nodes top me cohorts) (nodes_for vs t) node))

abbrev pub is_empty : List ℕ → Bool
is_empty ns = length ns == 0

nonempty : (n : ℕ) (ns : List ℕ) → is_empty (n ∷ ns) ≡ false
nonempty n ns = grind (arith, nat_tests)

pub all_among_left : (nodes voters : List ℕ) → list_all (λ n. is_among voters n) nodes ≡ is_empty (left_of nodes voters)
all_among_left [] voters = refl
all_among_left (n ∷ ns) voters = by_cases (is_among voters n)
    (λ yes. rw yes (all_among_left ns voters))
    (λ no. rw no (sym (nonempty n (left_of ns voters))))

all_near : (top : TopologyValue) (me : ℕ) (cohorts : List ℕ) (vs : List Vote) (t : TxnValue)
    → all_voted top me cohorts vs t ≡ list_all (λ n. is_among (nodes_for vs t) n) (near_nodes top me cohorts)
all_near top me [] vs t = refl
all_near top me (c ∷ cs) vs t =
    ap (λ (b : Bool). b && all_voted top me cs vs t) (has_among vs t (shard_node top (dc_of top me) c))
    ∙ ap (λ (b : Bool). is_among (nodes_for vs t) (shard_node top (dc_of top me) c) && b) (all_near top me cs vs t)

-- all have voted where none is left
pub voted_left : (top : TopologyValue) (me : ℕ) (cohorts : List ℕ) (vs : List Vote) (t : TxnValue)
    → all_voted top me cohorts vs t ≡ is_empty (left_of (near_nodes top me cohorts) (nodes_for vs t))
voted_left top me cohorts vs t = all_near top me cohorts vs t ∙ all_among_left (near_nodes top me cohorts) (nodes_for vs t)

pub voted_near : (top : TopologyValue) (me : ℕ) (cohorts : List ℕ) (vs : List Vote) (t : TxnValue)
    → all_voted top me cohorts vs t ≡ list_all (λ n. is_among (nodes_for vs t) n) (near_nodes top me cohorts)
voted_near top me cohorts vs t = all_near top me cohorts vs t

pub met_all : (ms : List Met) (t : TxnValue) (ds : List WriterValue) → all_met ms t ds ≡ list_all (λ w. is_unanswered (met_for ms t) w.txn) ds
met_all ms t [] = refl
met_all ms t (w ∷ ws) =
    ap (λ (b : Bool). b && all_met ms t ws) (met_among ms t w.txn) ∙ ap (λ (b : Bool). is_unanswered (met_for ms t) w.txn && b) (met_all ms t ws)

among_more : (voters : List ℕ) (node n : ℕ) → is_among (voters ++ node ∷ []) n ≡ (is_among voters n || (node == n))
among_more [] node n = or_no (node == n)
  where
    or_no : (b : Bool) → (b || false) ≡ (false || b)
    or_no true = refl
    or_no false = refl
among_more (v ∷ vs) node n = by_cases {P = ((v == n) || is_among (vs ++ node ∷ []) n) ≡ (((v == n) || is_among vs n) || (node == n))} (v == n) (λ yes. rw yes refl) (λ no. rw no (among_more vs node n))

-- one vote more takes that node out
pub left_counted : (nodes voters : List ℕ) (node : ℕ) → left_of nodes (voters ++ node ∷ []) ≡ filter (λ n. not (n == node)) (left_of nodes voters)
left_counted [] voters node = refl
left_counted (n ∷ ns) voters node =
    ap (λ (b : Bool). if not b then n ∷ left_of ns (voters ++ node ∷ []) else left_of ns (voters ++ node ∷ [])) (among_more voters node n)
    ∙ by_cases (is_among voters n)
    (λ yes. rw yes (left_counted ns voters node))
    (λ no. rw no (by_cases (n == node)
    (λ is. rw (number_back node n, is) (left_counted ns voters node))
    (λ isnt. rw (number_back node n, isnt) (ap (λ (xs : List ℕ). n ∷ xs) (left_counted ns voters node)))))

-- who isn't missing is passed over
pub stranger_left : (nodes : List ℕ) (node : ℕ) → is_among nodes node ≡ false → filter (λ n. not (n == node)) nodes ≡ nodes
stranger_left [] node e = refl
stranger_left (n ∷ ns) node e = let h = neither (n == node) (is_among ns node) e in rw h.0 (ap (λ (xs : List ℕ). n ∷ xs) (stranger_left ns node h.1))

pub none_left : (nodes : List ℕ) → left_of nodes [] ≡ nodes
none_left [] = refl
none_left (n ∷ ns) = ap (λ (xs : List ℕ). n ∷ xs) (none_left ns)

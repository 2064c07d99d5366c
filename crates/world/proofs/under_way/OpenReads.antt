-- Which answers a read or a move misses, and what a session's step leaves of that.
use Rattle.std.proofs.Common.{◌≡◌, ℕ, ◌+◌, ◌≤◌, Bool, true, false, ◌&&◌, ◌||◌, not, List, [], ◌∷◌, ◌++◌, map, refl, sym, ap, ◌∙◌, subst, arith, eq-eqb, le_refl}
use Rattle.std.specs.Prelude.{◌==◌, Contains}
use Rattle.std.specs.List.{list_any, list_all}
use Rattle.std.proofs.lemmas.Bool.{false≢true, and_parts, and_from}
use Rattle.std.proofs.lemmas.List.Folds.{list_any-append}
use Rattle.logical_time.specs.Stamps.{TxnValue, WriterValue}
use Rattle.slice.specs.declared.read.Read.{Read}
use Rattle.planner.specs.Plan.{shards_asked}
use Rattle.messages.specs.Topology.{TopologyValue, shard_node}
use Rattle.messages.specs.Words.{is_same_txn}
use Rattle.messages.specs.Session.{SessionState, Open, Idle, Writing, FirstRound, SecondRound, Moving, HeardNow, HeardAt}
use Rattle.messages.specs.Rounds.{was_heard, asked_nodes, is_missing, all_heard, late_nodes, was_heard_at, is_missing_at, all_heard_at}
use Rattle.messages.specs.SessionEvents.{left_after, is_left}
use Rattle.world.proofs.lists.Members.{contains_first, contains_rest, Contains-push, filter_contains, any_found, any_has, same_txn_self}
use Rattle.world.proofs.under_way.Underway.{FirstHas, SecondIs, SecondHas, IsNotLeft, SessionOnward}

-- ## Tests

all_false : {X : Type 0} (p : X → Bool) (xs : List X) → list_all p xs ≡ false → (x : X) × Contains xs x × (p x ≡ false)
all_false p [] e = absurd (false≢true (sym e))
all_false {X} p (y ∷ ys) e = go (p y) refl e (all_false p ys)
  where
    go : (b : Bool) → p y ≡ b → (b && list_all p ys) ≡ false → (list_all p ys ≡ false → (x : X) × Contains ys x × (p x ≡ false))
        → (x : X) × Contains (y ∷ ys) x × (p x ≡ false)
    go false q h ih = (y, contains_first y ys, q)
    go true q h ih = let r = ih h in (r.0, contains_rest y r.0 ys r.1, r.2)

not_either : (a b : Bool) → not (a || b) ≡ true → not a ≡ true
not_either true b e = e
not_either false b e = refl

and_false : (a : Bool) → (a && false) ≡ false
and_false true = refl
and_false false = refl

-- what isn't so later wasn't so before
unless : (a b : Bool) → (b ≡ true → a ≡ true) → a ≡ false → b ≡ false
unless a true f e = absurd (false≢true (sym e ∙ f refl))
unless a false f e = refl

asks : (asked : List ℕ) (node : ℕ) → Contains asked node → list_any (λ s. s == node) asked ≡ true
asks asked node m = any_has (λ s. s == node) asked node m (eq-eqb node node refl)

-- ## The first round

-- while not all are heard, one is missing
pub missing_some : (asked : List ℕ) (heard : List HeardNow) → all_heard asked heard ≡ false → (node : ℕ) × (is_missing asked heard node ≡ true)
missing_some asked heard e =
    let r = all_false (was_heard heard) asked e in
    (r.0, and_from (list_any (λ s. s == r.0) asked) (not (was_heard heard r.0)) (asks asked r.0 r.1) (ap not r.2))

-- at its begin all of its shards are missing
pub first_missing : (asked : List ℕ) (node : ℕ) → Contains asked node → is_missing asked [] node ≡ true
first_missing asked node m = and_from (list_any (λ s. s == node) asked) (not (was_heard [] node)) (asks asked node m) refl

-- what is missing after one more answer was missing before
pub missing_before : (asked : List ℕ) (heard : List HeardNow) (h : HeardNow) (node : ℕ) → is_missing asked (heard ++ h ∷ []) node ≡ true
    → is_missing asked heard node ≡ true
missing_before asked heard h node e =
    let p = and_parts (list_any (λ s. s == node) asked) (not (was_heard (heard ++ h ∷ []) node)) e in
    and_from (list_any (λ s. s == node) asked) (not (was_heard heard node)) p.0
    (not_either (was_heard heard node) (was_heard (h ∷ []) node) (ap not (sym (list_any-append (λ h. h.from == node) heard (h ∷ []))) ∙ p.1))

pub heard_after : (asked : List ℕ) (heard : List HeardNow) (h : HeardNow) (node : ℕ) → is_missing asked heard node ≡ false
    → is_missing asked (heard ++ h ∷ []) node ≡ false
heard_after asked heard h node e = unless (is_missing asked heard node) (is_missing asked (heard ++ h ∷ []) node) (missing_before asked heard h node) e

-- the one that answers is no longer missing
pub heard_now_has : (asked : List ℕ) (heard : List HeardNow) (h : HeardNow) (node : ℕ) → h.from ≡ node
    → is_missing asked (heard ++ h ∷ []) node ≡ false
heard_now_has asked heard h node e =
    let q : was_heard (heard ++ h ∷ []) node ≡ true = any_has (λ h. h.from == node) (heard ++ h ∷ []) h (Contains-push heard h) (eq-eqb h.from node e) in
    ap (λ b. list_any (λ s. s == node) asked && not b) q ∙ and_false (list_any (λ s. s == node) asked)

-- ## The second round

pub missing_at_some : (asked : List ℕ) (time : ℕ) (first : List HeardNow) (heard : List HeardAt) → all_heard_at asked time first heard ≡ false
    → (node : ℕ) × (is_missing_at asked time first heard node ≡ true)
missing_at_some asked time first heard e =
    let late = late_nodes asked time first in
    let r = all_false (was_heard_at heard) late e in
    (r.0, and_from (list_any (λ s. s == r.0) late) (not (was_heard_at heard r.0)) (asks late r.0 r.1) (ap not r.2))

-- at its begin all of its shards are missing
pub late_missing : (asked : List ℕ) (time : ℕ) (first : List HeardNow) (node : ℕ) → Contains (late_nodes asked time first) node
    → is_missing_at asked time first [] node ≡ true
late_missing asked time first node m =
    and_from (list_any (λ s. s == node) (late_nodes asked time first)) (not (was_heard_at [] node)) (asks (late_nodes asked time first) node m) refl

pub missing_at_before : (asked : List ℕ) (time : ℕ) (first : List HeardNow) (heard : List HeardAt) (h : HeardAt) (node : ℕ)
    → is_missing_at asked time first (heard ++ h ∷ []) node ≡ true → is_missing_at asked time first heard node ≡ true
missing_at_before asked time first heard h node e =
    let late = late_nodes asked time first in
    let p = and_parts (list_any (λ s. s == node) late) (not (was_heard_at (heard ++ h ∷ []) node)) e in
    and_from (list_any (λ s. s == node) late) (not (was_heard_at heard node)) p.0
    (not_either (was_heard_at heard node) (was_heard_at (h ∷ []) node) (ap not (sym (list_any-append (λ h. h.from == node) heard (h ∷ []))) ∙ p.1))

pub heard_at_after : (asked : List ℕ) (time : ℕ) (first : List HeardNow) (heard : List HeardAt) (h : HeardAt) (node : ℕ)
    → is_missing_at asked time first heard node ≡ false → is_missing_at asked time first (heard ++ h ∷ []) node ≡ false
heard_at_after asked time first heard h node e =
    unless (is_missing_at asked time first heard node) (is_missing_at asked time first (heard ++ h ∷ []) node) (missing_at_before asked time first heard h node) e

pub heard_at_has : (asked : List ℕ) (time : ℕ) (first : List HeardNow) (heard : List HeardAt) (h : HeardAt) (node : ℕ) → h.from ≡ node
    → is_missing_at asked time first (heard ++ h ∷ []) node ≡ false
heard_at_has asked time first heard h node e =
    let late = late_nodes asked time first in
    let q : was_heard_at (heard ++ h ∷ []) node ≡ true = any_has (λ h. h.from == node) (heard ++ h ∷ []) h (Contains-push heard h) (eq-eqb h.from node e) in
    ap (λ b. list_any (λ s. s == node) late && not b) q ∙ and_false (list_any (λ s. s == node) late)

-- ## The move

-- what is missing once an answer is there was missing before
pub left_before : (t : TxnValue) (left : List WriterValue) (k : WriterValue) → Contains (left_after t left) k → Contains left k
left_before t left k m = (filter_contains (λ w. not (is_same_txn w.txn t)) left k m).0

pub still_left : (left : List WriterValue) (k : WriterValue) → Contains left k → is_left k.txn left ≡ true
still_left left k m = any_has (λ w. is_same_txn w.txn k.txn) left k m (same_txn_self k.txn)

-- the transaction that is answered about is no longer missing
pub left_now_has : (t : TxnValue) (left : List WriterValue) → is_left t (left_after t left) ≡ false
left_now_has t left = go (is_left t (left_after t left)) refl
  where
    go : (b : Bool) → is_left t (left_after t left) ≡ b → b ≡ false
    go false e = refl
    go true e =
        let r = any_found (λ w. is_same_txn w.txn t) (left_after t left) e in
        let p = filter_contains (λ w. not (is_same_txn w.txn t)) left r.0 r.1 in
        absurd (false≢true (sym (ap not r.2) ∙ p.1))

pub left_has_after : (t u : TxnValue) (left : List WriterValue) → is_left u left ≡ false → is_left u (left_after t left) ≡ false
left_has_after t u left e =
    unless (is_left u left) (is_left u (left_after t left))
    (λ q.
    let r = any_found (λ w. is_same_txn w.txn u) (left_after t left) q in
    any_has (λ w. is_same_txn w.txn u) left r.0 (left_before t left r.0 r.1) r.2) e

-- ## The session's home alone counts

asked_home : (top : TopologyValue) (a b : SessionState) (read : Read) → b.home ≡ a.home → asked_nodes top a read ≡ asked_nodes top b read
asked_home top a b read e = ap (λ home. map (λ shard. shard_node top home shard) (shards_asked top.shards read.keys)) (sym e)

pub first_home : (top : TopologyValue) (a b : SessionState) → b.home ≡ a.home → (o : Open) (node : ℕ) → FirstHas top a o node → FirstHas top b o node
first_home top a b e Idle node k = tt
first_home top a b e (Writing coordinator) node k = tt
first_home top a b e (FirstRound read heard) node k = subst (λ asked. is_missing asked heard node ≡ false) (asked_home top a b read e) k
first_home top a b e (SecondRound read time first heard) node k = tt
first_home top a b e (Moving dc left floor) node k = tt

pub second_home : (top : TopologyValue) (a b : SessionState) → b.home ≡ a.home → (o : Open) (node : ℕ) → SecondHas top a o node
    → SecondHas top b o node
second_home top a b e Idle node k = tt
second_home top a b e (Writing coordinator) node k = tt
second_home top a b e (FirstRound read heard) node k = k
second_home top a b e (SecondRound read time first heard) node k =
    subst (λ asked. is_missing_at asked time first heard node ≡ false) (asked_home top a b read e) k
second_home top a b e (Moving dc left floor) node k = tt

-- the same operation goes on, or has ended
pub goes_on : (top : TopologyValue) (a b : SessionState) → b.count ≡ a.count
    → ((node : ℕ) → FirstHas top a a.current node → FirstHas top b b.current node)
    → ((time : ℕ) → SecondIs a.current time → SecondIs b.current time)
    → ((node : ℕ) → SecondHas top a a.current node → SecondHas top b b.current node)
    → ((t : TxnValue) → IsNotLeft a.current t → IsNotLeft b.current t) → SessionOnward top a b
goes_on top a b e first time second left =
    record {
      count = subst (λ c. a.count ≤ c) (sym e) (le_refl a.count);
      missing = λ m node k. record { number = subst (λ c. m ≤ c) (sym e) k.number; round = λ q. first node (k.round (q ∙ e)) };
      rounds = λ m t k. record { number = subst (λ c. m ≤ c) (sym e) k.number; round = λ q. time t (k.round (q ∙ e)) };
      awaited = λ m node k. record { number = subst (λ c. m ≤ c) (sym e) k.number; round = λ q. second node (k.round (q ∙ e)) };
      left = λ m t k. record { number = subst (λ c. m ≤ c) (sym e) k.number; round = λ q. left t (k.round (q ∙ e)) };
    }

-- the next operation is opened
pub next_onward : (top : TopologyValue) (a b : SessionState) → b.count ≡ a.count + 1 → SessionOnward top a b
next_onward top a b e =
    record {
      count = omega arith;
      missing = λ m node k. let le = k.number in record { number = omega arith; round = λ q. absurd (omega arith) };
      rounds = λ m t k. let le = k.number in record { number = omega arith; round = λ q. absurd (omega arith) };
      awaited = λ m node k. let le = k.number in record { number = omega arith; round = λ q. absurd (omega arith) };
      left = λ m t k. let le = k.number in record { number = omega arith; round = λ q. absurd (omega arith) };
    }

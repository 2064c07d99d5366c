-- What one gets by asking the shards of a run for the writes in the journals of its sessions is the history of the run.
use Rattle.std.proofs.Common.{◌≡◌, ◌∙◌, ℕ, zero, suc, ◌+◌, ◌-◌, ◌<◌, ◌≤◌, true, List, [], ◌∷◌, ◌++◌, length, slice_get, Option, Some, None, inl, inr, refl, sym, ap, subst, arith}
use Rattle.std.specs.Prelude.{◌≢◌, AllPairs, IsPermutation, filter_map, flat_map, option_map, option_and_then, option_to_list, Contains}
use Rattle.std.specs.List.{range_with_len, cons_option}
use Rattle.std.proofs.lemmas.Bool.Decides.{nat_tests}
use Rattle.std.proofs.lemmas.List.Elements.{filter_map-append}
use Rattle.std.proofs.lemmas.List.Sorted.{IsPermutation-refl, IsPermutation-sym, IsPermutation-trans, IsPermutation-cons, IsPermutation-middle}
use Rattle.logical_time.specs.Stamps.{TxnValue}
use Rattle.column_family.specs.declared.batch.Change.{Change}
use Rattle.column_family.specs.declared.batch.Committed.{Committed}
use Rattle.messages.specs.declared.op.Op.{Op}
use Rattle.store.proofs.lists.Lists.{given, given_only}
use Rattle.messages.specs.Words.{is_same_txn}
use Rattle.messages.specs.Topology.{TopologyValue, is_topology, is_session, shard_count, session_node}
use Rattle.actors.specs.Seats.{SeatValue}
use Rattle.world.specs.declared.run_event.RunEvent.{RunEvent}
use Rattle.world.specs.Run.{Run, Submission, submission_of, run}
use Rattle.world.specs.Asked.{write_of, entry_of}
use Rattle.world.specs.Entries.{named_by}
use Rattle.world.specs.Histories.{batch_in, history_of, IsHistory}
use Rattle.world.specs.Journals.{IsRunOf}
use Rattle.world.specs.Lookups.{entry_asked, history_asked}
use Rattle.world.specs.Threads.{op_in, op_numbered}
use Rattle.world.proofs.envelopes.Addresses.{stands}
use Rattle.world.proofs.lists.Members.{none_in_empty, contains_first, contains_rest, contains_cases, contains_one, Contains-append_left, Contains-append_right, Contains-append_cases, contains_flat, flat_contains, contains_below, within_range, found, same_txn}
use Rattle.world.proofs.histories.AskedHistory.{histories_are_asked}
use Rattle.world.proofs.replays.Journaled.{operation_there, told_by_journals}
use Rattle.world.proofs.promised.Laws.{named_in_runs}
use Rattle.world.proofs.envelopes.Near.{listed_below}
use Rattle.world.proofs.replays.Numbered.{run_numbered}
use Rattle.world.proofs.lists.Pairs.{first_pairs, later_pairs, no_pairs, more_pairs, append_pairs, given_pairs}
use Rattle.threaded.specs.OneRun.{journal_of}
use Rattle.threaded.specs.Asking.{writes_from, writes_by, writes_of, asked_of}

-- ## Lists with the same elements

module _ {X : Type 0} where
  -- a list that has the element has others before and after it
  split_at : (x : X) (ys : List X) → Contains ys x → (us : List X) × (vs : List X) × (ys ≡ us ++ x ∷ vs)
  split_at x [] m = absurd (none_in_empty x m)
  split_at x (y ∷ ys) m = elim (contains_cases y x ys m) [
    | inl q ↦ ([], ys, ap (λ z. z ∷ ys) (sym q))
    | inr later ↦ let r = split_at x ys later in (y ∷ r.0, r.1, ap (λ l. y ∷ l) r.2)
  ]

  with_it : (us : List X) (x : X) (vs : List X) (z : X) → Contains (us ++ vs) z → Contains (us ++ x ∷ vs) z
  with_it us x vs z m = elim (Contains-append_cases us vs z m) [ inl a ↦ Contains-append_left us (x ∷ vs) z a | inr b ↦ Contains-append_right us (x ∷ vs) z (contains_rest x z vs b) ]

  without_it : (us : List X) (x : X) (vs : List X) (z : X) → Contains (us ++ x ∷ vs) z → (z ≢ x) → Contains (us ++ vs) z
  without_it us x vs z m other = elim (Contains-append_cases us (x ∷ vs) z m) [
    | inl a ↦ Contains-append_left us vs z a
    | inr b ↦ elim (contains_cases x z vs b) [ inl same ↦ absurd (other same) | inr later ↦ Contains-append_right us vs z later ]
  ]

  others_apart : (us : List X) (x : X) (vs : List X) → AllPairs (λ a b. a ≢ b) (us ++ x ∷ vs) → AllPairs (λ a b. a ≢ b) (us ++ vs)
  others_apart [] x vs pairs = later_pairs (λ a b. a ≢ b) x vs pairs
  others_apart (u ∷ us) x vs pairs =
      more_pairs (λ a b. a ≢ b) u (us ++ vs) (λ y m. first_pairs (λ a b. a ≢ b) u (us ++ x ∷ vs) pairs y (with_it us x vs y m))
      (others_apart us x vs (later_pairs (λ a b. a ≢ b) u (us ++ x ∷ vs) pairs))

  not_again : (us : List X) (x : X) (vs : List X) → AllPairs (λ a b. a ≢ b) (us ++ x ∷ vs) → Contains (us ++ vs) x → ⊥
  not_again [] x vs pairs m = first_pairs (λ a b. a ≢ b) x vs pairs x m refl
  not_again (u ∷ us) x vs pairs m = elim (contains_cases u x (us ++ vs) m) [
    | inl q ↦ first_pairs (λ a b. a ≢ b) u (us ++ x ∷ vs) pairs x (Contains-append_right us (x ∷ vs) x (contains_first x vs)) (sym q)
    | inr later ↦ not_again us x vs (later_pairs (λ a b. a ≢ b) u (us ++ x ∷ vs) pairs) later
  ]

  module _ {Y : Type 0} (f : X → Option Y) where
    -- what is given of an element in the middle may as well stand first
    moved_first : (us : List X) (x : X) (vs : List X) (xs : List X) → IsPermutation (filter_map f xs) (filter_map f (us ++ vs))
        → IsPermutation (cons_option (f x) (filter_map f xs)) (filter_map f (us ++ x ∷ vs))
    moved_first us x vs xs rest =
        subst (λ l. IsPermutation (cons_option (f x) (filter_map f xs)) l) (sym (filter_map-append f us (x ∷ vs)))
        (go (f x) (subst (λ l. IsPermutation (filter_map f xs) l) (filter_map-append f us vs) rest))
      where
        go : (o : Option Y) → IsPermutation (filter_map f xs) (filter_map f us ++ filter_map f vs)
            → IsPermutation (cons_option o (filter_map f xs)) (filter_map f us ++ cons_option o (filter_map f vs))
        go None h = h
        go (Some y) h =
            IsPermutation-trans (y ∷ filter_map f xs) (y ∷ (filter_map f us ++ filter_map f vs)) (filter_map f us ++ y ∷ filter_map f vs)
            (IsPermutation-cons y (filter_map f xs) (filter_map f us ++ filter_map f vs) h)
            (IsPermutation-sym (filter_map f us ++ y ∷ filter_map f vs) (y ∷ (filter_map f us ++ filter_map f vs)) (IsPermutation-middle (filter_map f us) y (filter_map f vs)))

    -- of two lists with the same elements, each once, a function gives the same in two orders
    same_given : (xs ys : List X) → AllPairs (λ a b. a ≢ b) xs → AllPairs (λ a b. a ≢ b) ys → ((x : X) → Contains xs x → Contains ys x)
        → ((y : X) → Contains ys y → Contains xs y) → IsPermutation (filter_map f xs) (filter_map f ys)
    same_given [] [] p q to from = IsPermutation-refl []
    same_given [] (y ∷ ys) p q to from = absurd (none_in_empty y (from y (contains_first y ys)))
    same_given (x ∷ xs) ys p q to from =
        let r = split_at x ys (to x (contains_first x xs)) in
        let us = r.0 in
        let vs = r.1 in
        let pairs = subst (λ (l : List X). AllPairs (λ a b. a ≢ b) l) r.2 q in
        let rest : IsPermutation (filter_map f xs) (filter_map f (us ++ vs)) =
        same_given xs (us ++ vs) (later_pairs (λ a b. a ≢ b) x xs p) (others_apart us x vs pairs)
        (λ z m. without_it us x vs z (subst (λ (l : List X). Contains l z) r.2 (to z (contains_rest x z xs m))) (λ same. first_pairs (λ a b. a ≢ b) x xs p z m (sym same)))
        (λ z m. elim (contains_cases x z xs (from z (subst (λ (l : List X). Contains l z) (sym r.2) (with_it us x vs z m)))) [
          | inl same ↦ absurd (not_again us x vs pairs (subst (λ a. Contains (us ++ vs) a) same m))
          | inr there ↦ there
        ]) in
        subst (λ (l : List X). IsPermutation (filter_map f (x ∷ xs)) (filter_map f l)) (sym r.2) (moved_first us x vs xs rest)

-- ## The writes of one session

-- a write with its transaction
abbrev Write : Type 0
Write = TxnValue × List Change

abbrev txn_at : ℕ → ℕ → TxnValue
txn_at node number = record { session = node; number = number }

abbrev numbered : ℕ → ℕ → Op → Option Write
numbered node count o = option_map (λ (batch : List Change). (txn_at node (count + 1), batch)) (batch_in o)

-- the write is the operation at a place, and its number is the place's
record IsWriteAt (node count : ℕ) (os : List Op) (z : Write) : Type 0 where
  pub place : ℕ
  pub op : Op
  pub at : slice_get os place ≡ Some op
  pub batch : batch_in op ≡ Some z.1
  pub txn : z.0 ≡ txn_at node (count + place + 1)

first_write : (node count : ℕ) (o : Op) (os : List Op) (z : Write) → Contains (option_to_list (numbered node count o)) z → IsWriteAt node count (o ∷ os) z
first_write node count o os z m = go (batch_in o) refl m
  where
    go : (b : Option (List Change)) → batch_in o ≡ b
        → Contains (option_to_list (option_map (λ (batch : List Change). (txn_at node (count + 1), batch)) b)) z → IsWriteAt node count (o ∷ os) z
    go None q n = absurd (none_in_empty z n)
    go (Some batch) q n =
        let same = contains_one (txn_at node (count + 1), batch) z n in
        let number : count + 1 ≡ count + 0 + 1 = omega arith in
        record {
          place = 0;
          op = o;
          at = refl;
          batch = q ∙ ap (λ (y : Write). Some y.1) (sym same);
          txn = ap (λ (y : Write). y.0) same ∙ ap (λ n. txn_at node n) number;
        }

write_at : (node count : ℕ) (os : List Op) (z : Write) → Contains (writes_from node count os) z → IsWriteAt node count os z
write_at node count [] z m = absurd (none_in_empty z m)
write_at node count (o ∷ os) z m = elim (Contains-append_cases (option_to_list (numbered node count o)) (writes_from node (count + 1) os) z m) [
  | inl here ↦ first_write node count o os z here
  | inr later ↦
      let r = write_at node (count + 1) os z later in
      let number : count + 1 + r.place + 1 ≡ count + suc r.place + 1 = omega arith in
      record {
        place = suc r.place;
        op = r.op;
        at = r.at;
        batch = r.batch;
        txn = r.txn ∙ ap (λ n. txn_at node n) number;
      }
]

-- each write among the operations is one of them
write_there : (node count : ℕ) (os : List Op) (k : ℕ) (o : Op) (batch : List Change) → slice_get os k ≡ Some o → batch_in o ≡ Some batch
    → Contains (writes_from node count os) (txn_at node (count + k + 1), batch)
write_there node count [] k o batch at is = absurd (cc)
write_there node count (p ∷ os) zero o batch at is =
    let same : p ≡ o = cc in
    let number : count + 0 + 1 ≡ count + 1 = omega arith in
    let all : option_to_list (numbered node count p) ≡ (txn_at node (count + 0 + 1), batch) ∷ [] =
    ap (λ q. option_to_list (numbered node count q)) same
    ∙ ap (λ b. option_to_list (option_map (λ (c : List Change). (txn_at node (count + 1), c)) b)) is
    ∙ ap (λ n. (txn_at node n, batch) ∷ []) (sym number) in
    Contains-append_left (option_to_list (numbered node count p)) (writes_from node (count + 1) os) (txn_at node (count + 0 + 1), batch) (subst (λ (l : List Write). Contains l (txn_at node (count + 0 + 1), batch)) (sym all) (contains_first (txn_at node (count + 0 + 1), batch) []))
write_there node count (p ∷ os) (suc k) o batch at is =
    let number : count + 1 + k + 1 ≡ count + suc k + 1 = omega arith in
    Contains-append_right (option_to_list (numbered node count p)) (writes_from node (count + 1) os) (txn_at node (count + suc k + 1), batch) (subst (λ n. Contains (writes_from node (count + 1) os) (txn_at node n, batch)) number (write_there node (count + 1) os k o batch at is))

-- no two of them are one
writes_apart : (node count : ℕ) (os : List Op) → AllPairs (λ (y z : Write). y ≢ z) (writes_from node count os)
writes_apart node count [] = no_pairs (λ (y z : Write). y ≢ z)
writes_apart node count (o ∷ os) =
    append_pairs (λ (y z : Write). y ≢ z) (option_to_list (numbered node count o)) (writes_from node (count + 1) os)
    (one (numbered node count o)) (writes_apart node (count + 1) os) across
  where
    one : (w : Option Write) → AllPairs (λ (y z : Write). y ≢ z) (option_to_list w)
    one None = no_pairs (λ (y z : Write). y ≢ z)
    one (Some w) = more_pairs (λ (y z : Write). y ≢ z) w [] (λ y m. absurd (none_in_empty y m)) (no_pairs (λ (y z : Write). y ≢ z))

    across : (y z : Write) → Contains (option_to_list (numbered node count o)) y → Contains (writes_from node (count + 1) os) z → y ≢ z
    across y z m n same =
        let a = first_write node count o [] y m in
        let b = write_at node (count + 1) os z n in
        let none = only a.place a.op a.at in
        let p : y.0.number ≡ count + a.place + 1 = ap (λ (t : TxnValue). t.number) a.txn in
        let q : z.0.number ≡ count + 1 + b.place + 1 = ap (λ (t : TxnValue). t.number) b.txn in
        let e : y.0.number ≡ z.0.number = ap (λ (x : Write). x.0.number) same in
        absurd (omega (arith, none, p, q, e))
      where
        only : (k : ℕ) (p : Op) → slice_get (o ∷ []) k ≡ Some p → k ≡ 0
        only zero p at = refl
        only (suc k) p at = absurd (cc)

-- ## The writes of all sessions

module _ (top : TopologyValue) (seats : List SeatValue) where
  abbrev of_session : ℕ → List Write
  of_session i = writes_by (session_node top i) (journal_of seats (session_node top i))

  by_session : (i : ℕ) (z : Write) → Contains (of_session i) z → z.0.session ≡ session_node top i
  by_session i z m =
      ap (λ (t : TxnValue). t.session) (write_at (session_node top i) 0 (filter_map op_in (journal_of seats (session_node top i))) z m).txn

  pub all_apart : (a n : ℕ) → AllPairs (λ (y z : Write). y ≢ z) (flat_map of_session (range_with_len a n))
  all_apart a zero = no_pairs (λ (y z : Write). y ≢ z)
  all_apart a (suc n) =
      append_pairs (λ (y z : Write). y ≢ z) (of_session a) (flat_map of_session (range_with_len (a + 1) n))
      (writes_apart (session_node top a) 0 (filter_map op_in (journal_of seats (session_node top a)))) (all_apart (a + 1) n) across
    where
      across : (y z : Write) → Contains (of_session a) y → Contains (flat_map of_session (range_with_len (a + 1) n)) z → y ≢ z
      across y z m k same =
          let r = flat_contains of_session (range_with_len (a + 1) n) z k in
          let above = (within_range (a + 1) n r.0 r.1).0 in
          let p : y.0.session ≡ shard_count top + a = by_session a y m in
          let q : z.0.session ≡ shard_count top + r.0 = by_session r.0 z r.2 in
          let e : y.0.session ≡ z.0.session = ap (λ (x : Write). x.0.session) same in
          absurd (omega (arith, above, p, q, e))

-- ## The run

session_is : (top : TopologyValue) (i : ℕ) → i < length top.homes → is_session top (session_node top i) ≡ true
session_is top i lt = grind (arith, nat_tests)

-- a session's node is that of its number
node_is : (top : TopologyValue) (node : ℕ) → is_session top node ≡ true → (i : ℕ) × (i < length top.homes) × (session_node top i ≡ node)
node_is top node here =
    let le : shard_count top ≤ node = grind (arith, nat_tests) in
    let lt : node < shard_count top + length top.homes = grind (arith, nat_tests) in
    (node - shard_count top, omega arith, omega arith)

module _ (top : TopologyValue) (seats : List SeatValue) (events : List RunEvent) (some : 0 < top.shards) (is : IsRunOf top (journal_of seats) events) where
  abbrev w : Run
  w = run top events

  -- the write of a submission is in its session's journal
  in_journals : (z : Write) → Contains (filter_map write_of w.submitted) z → Contains (writes_of top seats) z
  in_journals z m =
      let g = given_only write_of w.submitted z m in
      by g.0 g.1 (batch_in (g.0).op) refl g.2
    where
      placed : (s : Submission) (batch : List Change) (number : ℕ) → s.number ≡ number → op_numbered (journal_of seats s.session) number ≡ Some s.op → batch_in s.op ≡ Some batch
          → Contains (writes_by s.session (journal_of seats s.session)) (named_by s, batch)
      placed s batch zero n at q = absurd (cc)
      placed s batch (suc k) n at q =
          let number : 0 + k + 1 ≡ s.number = omega arith in
          subst (λ m. Contains (writes_by s.session (journal_of seats s.session)) (txn_at s.session m, batch)) number
          (write_there s.session 0 (filter_map op_in (journal_of seats s.session)) k s.op batch at q)

      by : (s : Submission) → Contains w.submitted s → (b : Option (List Change)) → batch_in s.op ≡ b
          → option_map (λ (batch : List Change). (named_by s, batch)) b ≡ Some z → Contains (writes_of top seats) z
      by s m None q e = absurd (cc)
      by s m (Some batch) q e =
          let same : (named_by s, batch) ≡ z = cc in
          let here = ((run_numbered top events).named s m).0 in
          let i = node_is top s.session here in
          let at = operation_there top (journal_of seats) events some is s m in
          let there = placed s batch s.number refl at q in
          contains_flat (of_session top seats) (range_with_len 0 (length top.homes)) i.0 z (contains_below (length top.homes) i.0 (let lt = i.1 in omega arith))
          (subst (λ (y : Write). Contains (of_session top seats i.0) y) same (subst (λ n. Contains (writes_by n (journal_of seats n)) (named_by s, batch)) (sym i.2) there))

  -- each write of a journal was submitted
  in_run : (z : Write) → Contains (writes_of top seats) z → Contains (filter_map write_of w.submitted) z
  in_run z m =
      let r = flat_contains (of_session top seats) (range_with_len 0 (length top.homes)) z m in
      let node = session_node top r.0 in
      let a = write_at node 0 (filter_map op_in (journal_of seats node)) z r.2 in
      let t : TxnValue = txn_at node (suc a.place) in
      let number : 0 + a.place + 1 ≡ suc a.place = omega arith in
      let txn : z.0 ≡ t = a.txn ∙ ap (λ n. txn_at node n) number in
      let told : option_map (λ (b : Submission). b.op) (submission_of w.submitted t) ≡ Some a.op =
      (told_by_journals top (journal_of seats) events some is).operations t (session_is top r.0 (listed_below (length top.homes) r.0 r.1)) ∙ a.at in
      by t a.op txn a.batch (submission_of w.submitted t) refl told
    where
      by : (t : TxnValue) (o : Op) → z.0 ≡ t → batch_in o ≡ Some z.1 → (g : Option Submission) → submission_of w.submitted t ≡ g → option_map (λ (b : Submission). b.op) g ≡ Some o
          → Contains (filter_map write_of w.submitted) z
      by t o txn batch None q e = absurd (cc)
      by t o txn batch (Some s) q e =
          let same : s.op ≡ o = cc in
          let f = found (λ (b : Submission). is_same_txn (record { session = b.session; number = b.number }) t) w.submitted s q in
          let name : named_by s ≡ t = same_txn (named_by s) t f.1 in
          let gives : write_of s ≡ Some z =
          ap (option_map (λ (b : List Change). (named_by s, b))) (ap batch_in same ∙ batch) ∙ ap (λ (u : TxnValue). Some (u, z.1)) (name ∙ sym txn) in
          given write_of w.submitted s z f.0 gives

  -- no two submissions give one write
  submitted_apart : AllPairs (λ (y z : Write). y ≢ z) (filter_map write_of w.submitted)
  submitted_apart =
      given_pairs (λ s t. named_by s ≢ named_by t) (λ (y z : Write). y ≢ z) write_of w.submitted
      (λ s t y z other p q same. other (sym (its_name s y p) ∙ ap (λ (x : Write). x.0) same ∙ its_name t z q))
      (named_in_runs top events some)
    where
      its_name : (s : Submission) (y : Write) → write_of s ≡ Some y → y.0 ≡ named_by s
      its_name s y p = go (batch_in s.op) p
        where
          go : (b : Option (List Change)) → option_map (λ (batch : List Change). (named_by s, batch)) b ≡ Some y → y.0 ≡ named_by s
          go None e = absurd (cc)
          go (Some batch) e = let same : (named_by s, batch) ≡ y = cc in ap (λ (x : Write). x.0) (sym same)

  -- what is told of the submissions, in their order
  as_asked : (dc : ℕ) (xs : List Submission) → filter_map (entry_of top w.shards dc) (filter_map write_of xs) ≡ filter_map (entry_asked top w dc) xs
  as_asked dc [] = refl
  as_asked dc (x ∷ xs) =
      first (batch_in x.op) (filter_map write_of xs) ∙ ap (λ l. cons_option (entry_asked top w dc x) l) (as_asked dc xs)
    where
      first : (o : Option (List Change)) (rest : List Write) → filter_map (entry_of top w.shards dc) (cons_option (option_map (λ (b : List Change). (named_by x, b)) o) rest)
          ≡ cons_option (option_and_then (λ (b : List Change). entry_of top w.shards dc (named_by x, b)) o) (filter_map (entry_of top w.shards dc) rest)
      first None rest = refl
      first (Some b) rest = refl

  pub is_history : (dc : ℕ) → IsHistory top w dc (asked_of top w.shards seats dc)
  is_history dc =
      let same : IsPermutation (asked_of top w.shards seats dc) (filter_map (entry_of top w.shards dc) (filter_map write_of w.submitted)) =
      same_given (entry_of top w.shards dc) (writes_of top seats) (filter_map write_of w.submitted) (all_apart top seats 0 (length top.homes)) submitted_apart in_run in_journals in
      IsPermutation-trans (asked_of top w.shards seats dc) (history_asked top w dc) (history_of top w dc)
      (subst (λ (l : List Committed). IsPermutation (asked_of top w.shards seats dc) l) (as_asked dc w.submitted) same)
      (histories_are_asked top events some dc)

pub asked_is_history : (top : TopologyValue) (seats : List SeatValue) → is_topology top.dcs top.shards top.homes ≡ true → (events : List RunEvent) → IsRunOf top (journal_of seats) events
    → (dc : ℕ) → dc < top.dcs → IsHistory top (run top events) dc (asked_of top (run top events).shards seats dc)
asked_is_history top seats sound events is dc lt = is_history top seats events (stands top sound).some is dc

-- The history of a data centre is what one gets by asking, for each submitted batch, its coordinator there.
use Rattle.std.proofs.Common.{◌≡◌, ◌∙◌, ℕ, ◌<◌, List, [], ◌∷◌, ◌++◌, Option, Some, None, inl, inr, refl, sym, ap, subst}
use Rattle.std.specs.Prelude.{◌≢◌, AllPairs, IsPermutation, find, option_map, option_and_then, Contains}
use Rattle.std.proofs.lemmas.Bool.{false≢true}
use Rattle.std.proofs.lemmas.List.Sorted.{IsPermutation-refl, IsPermutation-sym, IsPermutation-trans, IsPermutation-cons, IsPermutation-middle}
use Rattle.logical_time.specs.Stamps.{TxnValue}
use Rattle.column_family.specs.declared.batch.Change.{Change}
use Rattle.column_family.specs.declared.batch.Committed.{Committed}
use Rattle.column_family.specs.Normal.{committed}
use Rattle.planner.specs.Plan.{coordinator_of}
use Rattle.store.proofs.lists.Lists.{given, given_only}
use Rattle.messages.specs.declared.op.Op.{Op}
use Rattle.messages.specs.declared.op.Op.TheVariants as op
use Rattle.messages.specs.Topology.{TopologyValue, shard_node}
use Rattle.messages.specs.Words.{is_same_txn}
use Rattle.messages.specs.Shard.{Decision}
use Rattle.messages.specs.Known.{decision_of}
use Rattle.messages.proofs.Numbering.{dc_of_shard}
use Rattle.world.specs.Run.{Run, RunEvent, Submission, run}
use Rattle.world.specs.Histories.{batch_in, decisions_in, committed_of, history_of}
use Rattle.world.specs.Entries.{named_by, AreNamedOnce}
use Rattle.world.specs.Lookups.{entry_asked, history_asked, HistoriesAreAsked}
use Rattle.world.proofs.lists.Members.{none_in_empty, contains_first, contains_rest, contains_cases, Contains-append_left, Contains-append_right, Contains-append_cases, any_false, found, find_none, same_txn, same_txn_self}
use Rattle.world.proofs.lists.Pairs.{first_pairs, later_pairs, more_pairs, among_pairs, given_pairs}
use Rattle.world.proofs.safety.Facts.{IsWritten, lead}
use Rattle.world.proofs.safety.Invariant.{Inv}
use Rattle.world.proofs.envelopes.Near.{coordinator_below}
use Rattle.world.proofs.histories.Decisions.{sound, own_stamp}
use Rattle.world.proofs.histories.Entries.{decided_in, decided_by_one, entry_found}
use Rattle.world.proofs.histories.Histories.{history_tells}
use Rattle.world.proofs.safety.Runs.{every_run}
use Rattle.world.proofs.promised.Laws.{named_in_runs}

-- ## Lists with the same elements

-- a list that has the element has others before and after it
split_at : {X : Type 0} (x : X) (ys : List X) → Contains ys x → (us : List X) × (vs : List X) × (ys ≡ us ++ x ∷ vs)
split_at x [] m = absurd (none_in_empty x m)
split_at x (y ∷ ys) m = elim (contains_cases y x ys m) [
  | inl q ↦ ([], ys, ap (λ z. z ∷ ys) (sym q))
  | inr later ↦ let r = split_at x ys later in (y ∷ r.0, r.1, ap (λ l. y ∷ l) r.2)
]

without : {X : Type 0} (R : X → X → Type 0) (us : List X) (x : X) (vs : List X) → AllPairs R (us ++ x ∷ vs) → AllPairs R (us ++ vs)
without R [] x vs pairs = later_pairs R x vs pairs
without R (u ∷ us) x vs pairs =
    more_pairs R u (us ++ vs) (λ y m. first_pairs R u (us ++ x ∷ vs) pairs y (with_it y m)) (without R us x vs (later_pairs R u (us ++ x ∷ vs) pairs))
  where
    with_it : (y : _) → Contains (us ++ vs) y → Contains (us ++ x ∷ vs) y
    with_it y m = elim (Contains-append_cases us vs y m) [ inl a ↦ Contains-append_left us (x ∷ vs) y a | inr b ↦ Contains-append_right us (x ∷ vs) y (contains_rest x y vs b) ]

not_again : {X : Type 0} (us : List X) (x : X) (vs : List X) → AllPairs (λ a b. a ≢ b) (us ++ x ∷ vs) → Contains (us ++ vs) x → ⊥
not_again [] x vs pairs m = first_pairs (λ a b. a ≢ b) x vs pairs x m refl
not_again (u ∷ us) x vs pairs m = elim (contains_cases u x (us ++ vs) m) [
  | inl q ↦ first_pairs (λ a b. a ≢ b) u (us ++ x ∷ vs) pairs x (Contains-append_right us (x ∷ vs) x (contains_first x vs)) (sym q)
  | inr later ↦ not_again us x vs (later_pairs (λ a b. a ≢ b) u (us ++ x ∷ vs) pairs) later
]

-- two lists with the same elements, each once, are one in two orders
same_elements : {X : Type 0} (xs ys : List X) → AllPairs (λ a b. a ≢ b) xs → AllPairs (λ a b. a ≢ b) ys → ((x : X) → Contains xs x → Contains ys x)
    → ((y : X) → Contains ys y → Contains xs y) → IsPermutation xs ys
same_elements [] [] p q f g = IsPermutation-refl []
same_elements [] (y ∷ ys) p q f g = absurd (none_in_empty y (g y (contains_first y ys)))
same_elements {X} (x ∷ xs) ys p q f g =
    let r = split_at x ys (f x (contains_first x xs)) in
    let us = r.0 in
    let vs = r.1 in
    let pairs = subst (λ (l : List X). AllPairs (λ a b. a ≢ b) l) r.2 q in
    let rest : IsPermutation xs (us ++ vs) =
    same_elements xs (us ++ vs) (later_pairs (λ a b. a ≢ b) x xs p) (without (λ a b. a ≢ b) us x vs pairs)
    (λ z m. into us vs z (subst (λ (l : List X). Contains l z) r.2 (f z (contains_rest x z xs m))) (λ same. first_pairs (λ a b. a ≢ b) x xs p z m (sym same)))
    (λ z m. elim (contains_cases x z xs (g z (subst (λ (l : List X). Contains l z) (sym r.2) (out us vs z m)))) [
      | inl same ↦ absurd (not_again us x vs pairs (subst (λ a. Contains (us ++ vs) a) same m))
      | inr there ↦ there
    ]) in
    subst (λ (l : List X). IsPermutation (x ∷ xs) l) (sym r.2)
    (IsPermutation-trans (x ∷ xs) (x ∷ (us ++ vs)) (us ++ x ∷ vs) (IsPermutation-cons x xs (us ++ vs) rest)
    (IsPermutation-sym (us ++ x ∷ vs) (x ∷ (us ++ vs)) (IsPermutation-middle us x vs)))
  where
    into : (us vs : List X) (z : X) → Contains (us ++ x ∷ vs) z → (z ≢ x) → Contains (us ++ vs) z
    into us vs z m other = elim (Contains-append_cases us (x ∷ vs) z m) [
      | inl a ↦ Contains-append_left us vs z a
      | inr b ↦ elim (contains_cases x z vs b) [ inl same ↦ absurd (other same) | inr later ↦ Contains-append_right us vs z later ]
    ]

    out : (us vs : List X) (z : X) → Contains (us ++ vs) z → Contains (us ++ x ∷ vs) z
    out us vs z m = elim (Contains-append_cases us vs z m) [ inl a ↦ Contains-append_left us (x ∷ vs) z a | inr b ↦ Contains-append_right us (x ∷ vs) z (contains_rest x z vs b) ]

-- ## What a coordinator tells

-- the entry of a submission, by the batch and the decision that it comes from
pub record IsAsked (top : TopologyValue) (w : Run) (dc : ℕ) (s : Submission) (c : Committed) : Type 0 where
  pub batch : List Change
  pub op : s.op ≡ op.Batch batch
  pub decision : Decision
  pub among : Contains (w.shards (lead top dc batch)).decided decision
  pub txn : decision.txn ≡ named_by s
  pub is : c ≡ committed batch decision.stamp decision.commit

asked_only : (top : TopologyValue) (w : Run) (dc : ℕ) (s : Submission) (c : Committed) → entry_asked top w dc s ≡ Some c → IsAsked top w dc s c
asked_only top w dc s c e = by_op s.op refl e
  where
    by_decision : (batch : List Change) → s.op ≡ op.Batch batch → (o : Option Decision) → decision_of (named_by s) (w.shards (lead top dc batch)) ≡ o
        → option_map (λ d. committed batch d.stamp d.commit) o ≡ Some c → IsAsked top w dc s c
    by_decision batch is None q f = absurd (cc)
    by_decision batch is (Some d) q f =
        let m = found (λ (z : Decision). is_same_txn z.txn (named_by s)) (w.shards (lead top dc batch)).decided d q in
        let same : committed batch d.stamp d.commit ≡ c = cc in
        record { batch = batch; op = is; decision = d; among = m.0; txn = same_txn d.txn (named_by s) m.1; is = sym same }

    by_op : (o : Op) → s.op ≡ o
        → option_and_then (λ batch. option_map (λ d. committed batch d.stamp d.commit) (decision_of (named_by s) (w.shards (lead top dc batch)))) (batch_in o) ≡ Some c
        → IsAsked top w dc s c
    by_op (op.Batch batch) is f = by_decision batch is (decision_of (named_by s) (w.shards (lead top dc batch))) refl f
    by_op (op.Read read) is f = absurd (cc)
    by_op (op.Move there) is f = absurd (cc)

-- the decision of a transaction is found by its number
found_by : (ds : List Decision) (d : Decision) (t : TxnValue) → Contains ds d → d.txn ≡ t → ((e : Decision) → Contains ds e → e.txn ≡ d.txn → e ≡ d)
    → find (λ z. is_same_txn z.txn t) ds ≡ Some d
found_by ds d t m q one = go (find (λ (z : Decision). is_same_txn z.txn t) ds) refl
  where
    go : (o : Option Decision) → find (λ z. is_same_txn z.txn t) ds ≡ o → o ≡ Some d
    go None e =
        absurd
        (false≢true (sym (any_false (λ (z : Decision). is_same_txn z.txn t) ds (find_none (λ z. is_same_txn z.txn t) ds e) d m) ∙ ap (λ u. is_same_txn u t) q ∙ same_txn_self t))
    go (Some e) f =
        let r = found (λ (z : Decision). is_same_txn z.txn t) ds e f in
        ap Some (one e r.0 (same_txn e.txn t r.1 ∙ sym q))

module _ (top : TopologyValue) (w : Run) (some : 0 < top.shards) (inv : Inv top w) (dc : ℕ) where
  -- what is told of a submission is an entry of the history
  told : (c : Committed) → Contains (history_asked top w dc) c → Contains (history_of top w dc) c
  told c m =
      let r = given_only (entry_asked top w dc) w.submitted c m in
      let k = asked_only top w dc r.0 c r.2 in
      let has = decided_in top w dc (coordinator_of top.shards k.batch) k.decision (coordinator_below top.shards k.batch some) k.among in
      let written : IsWritten w k.decision.txn r.0 k.batch = record { among = r.1; txn = sym k.txn; op = k.op } in
      given (committed_of w) (decisions_in top w dc) k.decision c has (entry_found top w k.decision r.0 k.batch inv written ∙ ap Some (sym k.is))

  -- each entry of the history is told of its submission
  telling : (c : Committed) → Contains (history_of top w dc) c → Contains (history_asked top w dc) c
  telling c m =
      let r = given_only (committed_of w) (decisions_in top w dc) c m in
      let d = r.0 in
      let a = decided_by_one top w dc d r.1 in
      let node = shard_node top dc a.0 in
      let s = sound top w node d inv a.2 in
      let at : node ≡ lead top dc s.batch = s.here ∙ ap (λ z. lead top z s.batch) (dc_of_shard top dc a.0 a.1) in
      let there : decision_of (named_by s.submission) (w.shards (lead top dc s.batch)) ≡ Some d =
      subst (λ z. decision_of (named_by s.submission) (w.shards z) ≡ Some d) at
      (found_by (w.shards node).decided d (named_by s.submission) a.2 (sym s.written.txn) (λ e i q. s.one e i q)) in
      let asked : entry_asked top w dc s.submission ≡ Some (committed s.batch d.stamp d.commit) =
      ap (λ (o : Op). option_and_then (λ batch. option_map (λ z. committed batch z.stamp z.commit) (decision_of (named_by s.submission) (w.shards (lead top dc batch)))) (batch_in o)) s.written.op
      ∙ ap (option_map (λ (z : Decision). committed s.batch z.stamp z.commit)) there in
      let same : Some (committed s.batch d.stamp d.commit) ≡ Some c = sym (entry_found top w d s.submission s.batch inv s.written) ∙ r.2 in
      given (entry_asked top w dc) w.submitted s.submission c s.written.among (asked ∙ same)

  own_told : AreNamedOnce w → AllPairs (λ c e. c ≢ e) (history_asked top w dc)
  own_told named =
      given_pairs (λ s t. named_by s ≢ named_by t) (λ c e. c ≢ e) (entry_asked top w dc) w.submitted
      (λ s t c e n p q same. n (one_submission s t c e (asked_only top w dc s c p) (asked_only top w dc t e q) same)) named
    where
      one_submission : (s t : Submission) (c e : Committed) → IsAsked top w dc s c → IsAsked top w dc t e → c ≡ e → named_by s ≡ named_by t
      one_submission s t c e p q same =
          let stamps : p.decision.stamp ≡ q.decision.stamp =
          ap (λ (z : Committed). z.stamp) (sym p.is) ∙ ap (λ (z : Committed). z.stamp) same ∙ ap (λ (z : Committed). z.stamp) q.is in
          sym p.txn
          ∙ own_stamp top w (lead top dc p.batch) (lead top dc q.batch) p.decision q.decision inv p.among q.among stamps ∙ q.txn

  own_entries : AllPairs (λ c e. c ≢ e) (history_of top w dc)
  own_entries =
      among_pairs (λ c e. c.stamp ≢ e.stamp) (λ c e. c ≢ e) (history_of top w dc) (λ c e m n other same. other (ap (λ (z : Committed). z.stamp) same))
      (history_tells top w dc (history_of top w dc) inv (IsPermutation-refl (history_of top w dc))).stamps

pub histories_are_asked : (top : TopologyValue) (events : List RunEvent) → 0 < top.shards → HistoriesAreAsked top (run top events)
histories_are_asked top events some dc =
    let w = run top events in
    let inv = every_run top events some in
    same_elements (history_asked top w dc) (history_of top w dc) (own_told top w some inv dc (named_in_runs top events some)) (own_entries top w some inv dc)
    (told top w some inv dc) (telling top w some inv dc)

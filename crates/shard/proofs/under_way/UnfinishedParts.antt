-- What is under way, put in order, is what the machine hasn't finished.
use Rattle.std.proofs.Common.{◌≡◌, ◌∙◌, sym, ap, subst, refl, ℕ, true, false, not, List, [], ◌∷◌, map, Option, Some, None, Contains, is_some}
use Rattle.std.specs.Prelude.{filter_map, find, option_map}
use Rattle.std.specs.List.{cons_option}
use Rattle.std.specs.List.Sorted.{IsStrictlySortedBy}
use Rattle.logical_time.specs.Stamps.{TxnValue, txn_cmp, WriterValue}
use Rattle.store.proofs.lists.Lists.{kept_only}
use Rattle.planner.proofs.Members.{contains_map, map_contains}
use Rattle.txn_state.specs.declared.part.WritePart.{WritePart}
use Rattle.messages.specs.Topology.{TopologyValue, shard_of}
use Rattle.messages.specs.Words.{is_same_txn, in_writer_order}
use Rattle.messages.specs.Shard.{ShardState, PreparedPart, KeptPart}
use Rattle.messages.specs.Known.{is_applied, AreOnce}
use Rattle.write_txn.specs.declared.open.Open.{Open}
use Rattle.write_txn.specs.declared.open.Open.TheVariants as in_open
use Rattle.write_txn.specs.Ledger.{LedgerValue, State, Holds, IsApplied, IsDecided, state_of, open_in}
use Rattle.write_txn.specs.Ledger as ledger
use Rattle.write_txn.specs.View.{view_of}
use Rattle.write_txn.specs.Stands.{Stands, kept_part_of}
use Rattle.write_txn.proofs.Finds.{own_txn}
use Rattle.shard.specs.Unfinished.{parts_held, parts_unapplied, unfinished_of}
use Rattle.shard.specs.UnderWay.{part_under_way, writer_under_way}
use Rattle.shard.proofs.lists.Lists.{no_truth, not_true, found, found_some, same_txn}
use Rattle.shard.proofs.lists.Ascending.{given_in_order}
use Rattle.shard.proofs.under_way.HeldParts.{AllStand, find_once, marking, none_or_some, one_some, false_not, own_txn_of, own_writers}
use Rattle.shard.proofs.lists.FoundParts.{find_filtered, same_writers_txn, one_of_four}
use Rattle.shard.proofs.under_way.FirstHeld.{by_writer, as_prepared, as_ballot, as_kept, as_kept_ballot, held_first}

-- ## What is unapplied

no_such : {T P : Type 0} (o : Option T) → o ≡ None → is_some o ≡ true → P
no_such None e f = absurd (cc)
no_such (Some x) e f = absurd (cc)

unapplied : (top : TopologyValue) (me : ℕ) (a : ShardState) (t : TxnValue) (o : Open) → Stands top me t (view_of t a) (Some (Holds o)) → is_applied t a ≡ false
unapplied top me a t (in_open.Kept k) h = h.applied
unapplied top me a t (in_open.Part p) h = h.applied
unapplied top me a t (in_open.Led l) h = h.applied
unapplied top me a t (in_open.Remote r) h = h.0.applied

with_shard : (w : WriterValue) (t : TxnValue) (s : ℕ) → w.txn ≡ t → w.shard ≡ s → w ≡ record { txn = t; shard = s }
with_shard w t s e f = ap (λ (u : TxnValue). record { txn = u; shard = w.shard }) e ∙ ap (λ (n : ℕ). record { txn = t; shard = n }) f

held_by : (top : TopologyValue) (me : ℕ) (a : ShardState) (t : TxnValue) (o : Open) (s : ℕ) → Stands top me t (view_of t a) (Some (Holds o)) → (ledger.part_of o).writer.shard ≡ s
    → Some (ledger.part_of o).writer ≡ Some (record { txn = t; shard = s })
held_by top me a t o s h e = ap Some (with_shard (ledger.part_of o).writer t s (own_txn_of top me a t o h) e)

abbrev writer_in : Option State → Option WriterValue
writer_in s = option_map (λ o. (ledger.part_of o).writer) (open_in s)

-- a ballot that isn't applied is under way
ballot_held : (top : TopologyValue) (me : ℕ) (a : ShardState) (t : TxnValue) (s : Option State) → Stands top me t (view_of t a) s → is_some (view_of t a).ballot ≡ true → is_applied t a ≡ false
    → writer_in s ≡ Some (record { txn = t; shard = shard_of top me })
ballot_held top me a t None h e u = no_such (view_of t a).ballot h.unled.ballot e
ballot_held top me a t (Some (Holds (in_open.Kept k))) h e u = no_such (view_of t a).ballot h.unled.ballot e
ballot_held top me a t (Some (Holds (in_open.Part p))) h e u = no_such (view_of t a).ballot h.unled.ballot e
ballot_held top me a t (Some (Holds (in_open.Led l))) h e u = held_by top me a t (in_open.Led l) (shard_of top me) h h.own
ballot_held top me a t (Some (Holds (in_open.Remote r))) h e u = no_such (view_of t a).ballot h.0.ballot e
ballot_held top me a t (Some IsApplied) h e u = no_such (view_of t a).ballot h.unled.ballot e
ballot_held top me a t (Some (IsDecided commit stamp)) h e u = no_truth (is_applied t a) h.applied u

-- and so a part that is kept, with its coordinator
kept_held : (top : TopologyValue) (me : ℕ) (a : ShardState) (t : TxnValue) (s : Option State) (k : KeptPart) → Stands top me t (view_of t a) s → (view_of t a).kept_part ≡ Some k → is_applied t a ≡ false
    → writer_in s ≡ Some (record { txn = t; shard = k.coordinator })
kept_held top me a t None k h e u = none_or_some (view_of t a).kept_part k h.kept_part e
kept_held top me a t (Some (Holds (in_open.Kept q))) k h e u =
    held_by top me a t (in_open.Kept q) k.coordinator h (ap (λ (z : KeptPart). z.coordinator) (one_some (view_of t a).kept_part (kept_part_of q) k h.kept_part e))
kept_held top me a t (Some (Holds (in_open.Part p))) k h e u = held_by top me a t (in_open.Part p) k.coordinator h (sym (h.kept_part k e))
kept_held top me a t (Some (Holds (in_open.Led l))) k h e u = none_or_some (view_of t a).kept_part k h.kept_part e
kept_held top me a t (Some (Holds (in_open.Remote r))) k h e u = none_or_some (view_of t a).kept_part k h.0.kept_part e
kept_held top me a t (Some IsApplied) k h e u = no_truth (is_applied t a) h.applied u
kept_held top me a t (Some (IsDecided commit stamp)) k h e u = no_truth (is_applied t a) h.applied u

-- and a ballot of another data centre's write
kept_ballot_held : (top : TopologyValue) (me : ℕ) (a : ShardState) (t : TxnValue) (s : Option State) → Stands top me t (view_of t a) s → is_some (view_of t a).kept_ballot ≡ true → is_applied t a ≡ false
    → writer_in s ≡ Some (record { txn = t; shard = shard_of top me })
kept_ballot_held top me a t None h e u = no_such (view_of t a).kept_ballot h.unled.kept_ballot e
kept_ballot_held top me a t (Some (Holds (in_open.Kept k))) h e u = no_such (view_of t a).kept_ballot h.unled.kept_ballot e
kept_ballot_held top me a t (Some (Holds (in_open.Part p))) h e u = no_such (view_of t a).kept_ballot h.unled.kept_ballot e
kept_ballot_held top me a t (Some (Holds (in_open.Led l))) h e u = held_by top me a t (in_open.Led l) (shard_of top me) h h.own
kept_ballot_held top me a t (Some (Holds (in_open.Remote r))) h e u = held_by top me a t (in_open.Remote r) (shard_of top me) h h.0.own
kept_ballot_held top me a t (Some IsApplied) h e u = no_truth (is_applied t a) h.applied u
kept_ballot_held top me a t (Some (IsDecided commit stamp)) h e u = no_truth (is_applied t a) h.applied u

-- each part that the shard holds and hasn't applied is under way, with its coordinator
writer_held : (top : TopologyValue) (me : ℕ) (a : ShardState) (l : LedgerValue) (p : WritePart) → AllStand top me l a → AreOnce (λ (q : PreparedPart). q.txn) a.prepared → AreOnce (λ (q : KeptPart). q.txn) a.kept_parts
    → Contains (parts_held top me a) p → is_applied p.writer.txn a ≡ false → writer_under_way l p.writer.txn ≡ Some p.writer
writer_held top me a l p stand once kept_once has u =
    one_of_four {P = writer_under_way l p.writer.txn ≡ Some p.writer} (map as_prepared a.prepared) (map (as_ballot top me) a.ballots) (map as_kept a.kept_parts) (map (as_kept_ballot top me) a.kept_ballots) p
    (λ c. let m = map_contains as_prepared a.prepared p c in
    subst Claim m.2 (λ v. (marking top me a m.0.txn (state_of l m.0.txn) m.0 (stand m.0.txn) (find_once (λ (q : PreparedPart). q.txn) a.prepared m.0 once m.1) v).writer) u)
    (λ c. let m = map_contains (as_ballot top me) a.ballots p c in
    subst Claim m.2 (λ v. ballot_held top me a m.0.txn (state_of l m.0.txn) (stand m.0.txn) (found_some (λ b. is_same_txn b.txn m.0.txn) a.ballots m.0 m.1 (own_txn m.0.txn)) v) u)
    (λ c. let m = map_contains as_kept a.kept_parts p c in
    subst Claim m.2 (λ v. kept_held top me a m.0.txn (state_of l m.0.txn) m.0 (stand m.0.txn) (find_once (λ (q : KeptPart). q.txn) a.kept_parts m.0 kept_once m.1) v) u)
    (λ c. let m = map_contains (as_kept_ballot top me) a.kept_ballots p c in
    subst Claim m.2 (λ v. kept_ballot_held top me a m.0.txn (state_of l m.0.txn) (stand m.0.txn) (found_some (λ b. is_same_txn b.txn m.0.txn) a.kept_ballots m.0 m.1 (own_txn m.0.txn)) v) u)
    has
  where
    Claim : WritePart → Type 0
    Claim q = is_applied q.writer.txn a ≡ false → writer_under_way l q.writer.txn ≡ Some q.writer

-- ## In order

-- what is under way of a transaction is found by its writer
found_by_writer : (top : TopologyValue) (me : ℕ) (a : ShardState) (t : TxnValue) (o : Open) → Stands top me t (view_of t a) (Some (Holds o))
    → find (by_writer (ledger.part_of o).writer) (parts_unapplied top me a) ≡ Some (ledger.part_of o)
found_by_writer top me a t o h =
    find_filtered (by_writer (ledger.part_of o).writer) (λ (p : WritePart). not (is_applied p.writer.txn a)) (parts_held top me a)
    (λ p same. false_not (is_applied p.writer.txn a)
    (ap (λ (u : TxnValue). is_applied u a) (same_txn p.writer.txn (ledger.part_of o).writer.txn (same_writers_txn p.writer (ledger.part_of o).writer same) ∙ own_txn_of top me a t o h)
    ∙ unapplied top me a t o h))
    ∙ held_first top me a t o h

-- what a function finds by the writers is what is under way
found_each : (l : LedgerValue) (g : WriterValue → Option WritePart) → ((t : TxnValue) (o : Open) → open_in (state_of l t) ≡ Some o → g (ledger.part_of o).writer ≡ Some (ledger.part_of o))
    → (ts : List TxnValue) → filter_map g (filter_map (writer_under_way l) ts) ≡ filter_map (part_under_way l) ts
found_each l g finds [] = refl
found_each l g finds (t ∷ ts) = go (open_in (state_of l t)) refl (found_each l g finds ts)
  where
    go : (o : Option Open) → open_in (state_of l t) ≡ o → filter_map g (filter_map (writer_under_way l) ts) ≡ filter_map (part_under_way l) ts
        → filter_map g (cons_option (option_map (λ x. (ledger.part_of x).writer) o) (filter_map (writer_under_way l) ts)) ≡ cons_option (option_map ledger.part_of o) (filter_map (part_under_way l) ts)
    go None e rest = rest
    go (Some o) e rest = ap (λ (p : Option WritePart). cons_option p (filter_map g (filter_map (writer_under_way l) ts))) (finds t o e) ∙ ap (λ ps. ledger.part_of o ∷ ps) rest

holds : (s : Option State) (o : Open) → open_in s ≡ Some o → s ≡ Some (Holds o)
holds None o e = absurd (cc)
holds (Some (Holds q)) o e = let same : q ≡ o = cc in ap (λ (z : Open). Some (Holds z)) same
holds (Some IsApplied) o e = absurd (cc)
holds (Some (IsDecided commit stamp)) o e = absurd (cc)

some_mapped : {S T : Type 0} (f : S → T) (o : Option S) (y : T) → option_map f o ≡ Some y → (x : S) × (o ≡ Some x) × (f x ≡ y)
some_mapped f None y e = absurd (cc)
some_mapped f (Some x) y e = (x, refl, cc)

txn_of_writer : (o : Open) → ledger.txn_of o ≡ (ledger.part_of o).writer.txn
txn_of_writer (in_open.Kept k) = refl
txn_of_writer (in_open.Part p) = refl
txn_of_writer (in_open.Led l) = refl
txn_of_writer (in_open.Remote r) = refl

-- the parts that are under way of transactions in order are those that the machine hasn't finished
pub parts_are_unfinished : (top : TopologyValue) (me : ℕ) (a : ShardState) (l : LedgerValue) (ts : List TxnValue) → AllStand top me l a → AreOnce (λ (q : PreparedPart). q.txn) a.prepared → AreOnce (λ (q : KeptPart). q.txn) a.kept_parts
    → IsStrictlySortedBy txn_cmp ts → ((t : TxnValue) (o : Open) → state_of l t ≡ Some (Holds o) → Contains ts (ledger.txn_of o))
    → filter_map (part_under_way l) ts ≡ unfinished_of top me a
parts_are_unfinished top me a l ts stand once kept_once sorted all =
    sym (found_each l (λ w. find (by_writer w) (parts_unapplied top me a)) (λ t o e. finds t o e) ts)
    ∙ ap (filter_map (λ w. find (by_writer w) (parts_unapplied top me a))) in_order
  where
    stands_open : (t : TxnValue) (o : Open) → open_in (state_of l t) ≡ Some o → Stands top me t (view_of t a) (Some (Holds o))
    stands_open t o e = subst (Stands top me t (view_of t a)) (holds (state_of l t) o e) (stand t)

    finds : (t : TxnValue) (o : Open) → open_in (state_of l t) ≡ Some o → find (by_writer (ledger.part_of o).writer) (parts_unapplied top me a) ≡ Some (ledger.part_of o)
    finds t o e = found_by_writer top me a t o (stands_open t o e)

    in_order : filter_map (writer_under_way l) ts ≡ in_writer_order (map (λ (p : WritePart). p.writer) (parts_unapplied top me a))
    in_order = given_in_order (writer_under_way l) (own_writers top me a l stand) ts (map (λ (p : WritePart). p.writer) (parts_unapplied top me a)) sorted
        (λ t w has e. let m = some_mapped (λ o. (ledger.part_of o).writer) (open_in (state_of l t)) w e in
        let f = found (by_writer (ledger.part_of m.0).writer) (parts_unapplied top me a) (ledger.part_of m.0) (finds t m.0 m.1) in
        subst (Contains (map (λ (p : WritePart). p.writer) (parts_unapplied top me a))) m.2 (contains_map (λ (p : WritePart). p.writer) (parts_unapplied top me a) (ledger.part_of m.0) f.0))
        (λ w has. let m = map_contains (λ (p : WritePart). p.writer) (parts_unapplied top me a) w has in
        let k = kept_only (λ (p : WritePart). not (is_applied p.writer.txn a)) (parts_held top me a) m.0 m.1 in
        let e : writer_under_way l w.txn ≡ Some w =
        subst (λ (v : WriterValue). writer_under_way l v.txn ≡ Some v) m.2 (writer_held top me a l m.0 stand once kept_once k.0 (not_true (is_applied m.0.writer.txn a) k.1)) in
        let o = some_mapped (λ o. (ledger.part_of o).writer) (open_in (state_of l w.txn)) w e in
        (subst (Contains ts) (txn_of_writer o.0 ∙ ap (λ (v : WriterValue). v.txn) o.2) (all w.txn o.0 (holds (state_of l w.txn) o.0 o.1)), e))

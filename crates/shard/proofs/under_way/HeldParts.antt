-- What is under way of a transaction, by what a shard's state says of it.
use Rattle.std.proofs.Common.{◌≡◌, ◌∙◌, sym, ap, subst, refl, ℕ, Bool, not, true, false, inl, inr, List, [], ◌∷◌, Option, Some, None, Contains}
use Rattle.std.specs.Prelude.{find, option_map}
use Rattle.logical_time.specs.Stamps.{TxnValue, StampValue, WriterValue}
use Rattle.column_family.specs.declared.batch.Row.{Row}
use Rattle.store.proofs.lists.Lists.{none_in_empty, first_or_rest}
use Rattle.messages.specs.Topology.{TopologyValue}
use Rattle.messages.specs.Words.{is_same_txn}
use Rattle.messages.specs.Shard.{ShardState, PreparedPart, Decision}
use Rattle.messages.specs.Known.{prepared_part, is_applied, AreOnce, AreOfOthers}
use Rattle.messages.specs.Rows.{touches_row}
use Rattle.write_txn.specs.declared.open.Open.{Open}
use Rattle.write_txn.specs.declared.open.Open.TheVariants as in_open
use Rattle.write_txn.specs.Ledger.{LedgerValue, State, Holds, IsApplied, IsDecided, state_of, open_in, part_of}
use Rattle.write_txn.specs.View.{view_of}
use Rattle.write_txn.specs.Stands.{Stands, own_part, kept_part_of, kept_ballot_of, mark_of}
use Rattle.write_txn.proofs.Finds.{own_txn, same_back}
use Rattle.shard.specs.UnderWay.{writer_under_way}
use Rattle.shard.proofs.lists.Lists.{no_truth, found, same_txn}
use Rattle.shard.proofs.lists.Ascending.{GivesOwn}

-- each transaction stands as it is known
abbrev pub AllStand : TopologyValue → ℕ → LedgerValue → ShardState → Type 0
AllStand top me l a = (t : TxnValue) → Stands top me t (view_of t a) (state_of l t)

-- ## A part among those of which no two are of one transaction

others_apart : {T : Type 0} (f : T → TxnValue) (t : TxnValue) (xs : List T) (x : T) → AreOfOthers f t xs → Contains xs x → is_same_txn (f x) t ≡ false
others_apart f t [] x others has = absurd (none_in_empty x has)
others_apart f t (y ∷ ys) x others has = elim (first_or_rest y x ys has) [
  | inl here ↦ subst (λ z. is_same_txn (f z) t ≡ false) here others.0
  | inr later ↦ others_apart f t ys x others.1 later
]

pub find_once : {T : Type 0} (f : T → TxnValue) (xs : List T) (x : T) → AreOnce f xs → Contains xs x → find (λ y. is_same_txn (f y) (f x)) xs ≡ Some x
find_once f [] x once has = absurd (none_in_empty x has)
find_once f (y ∷ ys) x once has = elim (first_or_rest y x ys has) [
  | inl here ↦ rw (ap (λ z. is_same_txn (f z) (f x)) here ∙ own_txn (f x)) (ap Some here)
  | inr later ↦ rw (same_back (f y) (f x) ∙ others_apart f (f y) ys x once.0 later) (find_once f ys x once.1 later)
]

-- ## Tests and options

pub false_not : (b : Bool) → b ≡ false → not b ≡ true
false_not true e = absurd (cc)
false_not false e = refl

pub none_or_some : {T P : Type 0} (o : Option T) (x : T) → o ≡ None → o ≡ Some x → P
none_or_some o x e f = absurd (let g : None ≡ Some x = sym e ∙ f in cc)

pub one_some : {T : Type 0} (o : Option T) (x y : T) → o ≡ Some x → o ≡ Some y → x ≡ y
one_some o x y e f = let g : Some x ≡ Some y = sym e ∙ f in cc

-- ## Prepared parts

-- a prepared part's transaction, with its coordinator
abbrev pub writer_of : PreparedPart → WriterValue
writer_of p = record { txn = p.txn; shard = p.coordinator }

-- a prepared part that isn't applied is under way, and marks the rows that it touches
pub record IsMarking (s : Option State) (p : PreparedPart) : Type 0 where
  pub marks : (r : Row) → touches_row r p ≡ true → mark_of s r ≡ Some p.time
  pub writer : option_map (λ o. (part_of o).writer) (open_in s) ≡ Some (writer_of p)

pub marking : (top : TopologyValue) (me : ℕ) (a : ShardState) (t : TxnValue) (s : Option State) (p : PreparedPart) → Stands top me t (view_of t a) s
    → prepared_part t a ≡ Some p → is_applied t a ≡ false → IsMarking s p
marking top me a t None p h e u = none_or_some (prepared_part t a) p h.prepared e
marking top me a t (Some (Holds (in_open.Kept k))) p h e u = none_or_some (prepared_part t a) p h.prepared e
marking top me a t (Some (Holds (in_open.Part q))) p h e u =
    subst (IsMarking (Some (Holds (in_open.Part q)))) (one_some (prepared_part t a) q p h.prepared e)
    (record { marks = λ r touches. rw touches refl; writer = refl })
marking top me a t (Some (Holds (in_open.Led l))) p h e u =
    subst (IsMarking (Some (Holds (in_open.Led l)))) (one_some (prepared_part t a) (own_part l) p h.prepared e)
    (record { marks = λ r touches. rw touches refl; writer = refl })
marking top me a t (Some (Holds (in_open.Remote r))) p h e u = none_or_some (prepared_part t a) p h.0.prepared e
marking top me a t (Some IsApplied) p h e u = no_truth (is_applied t a) h.applied u
marking top me a t (Some (IsDecided commit stamp)) p h e u = no_truth (is_applied t a) h.applied u

-- ## Whose it is

pub own_txn_of : (top : TopologyValue) (me : ℕ) (a : ShardState) (t : TxnValue) (o : Open) → Stands top me t (view_of t a) (Some (Holds o)) → (part_of o).writer.txn ≡ t
own_txn_of top me a t (in_open.Kept k) h = same_txn k.part.writer.txn t (found (λ q. is_same_txn q.txn t) a.kept_parts (kept_part_of k) h.kept_part).1
own_txn_of top me a t (in_open.Part p) h = same_txn p.txn t (found (λ q. is_same_txn q.txn t) a.prepared p h.prepared).1
own_txn_of top me a t (in_open.Led l) h = same_txn (own_part l).txn t (found (λ q. is_same_txn q.txn t) a.prepared (own_part l) h.prepared).1
own_txn_of top me a t (in_open.Remote r) h = same_txn r.ballot.part.writer.txn t (found (λ q. is_same_txn q.txn t) a.kept_ballots (kept_ballot_of r) h.0.kept_ballot).1

own_writer : (top : TopologyValue) (me : ℕ) (a : ShardState) (t : TxnValue) (s : Option State) (w : WriterValue) → Stands top me t (view_of t a) s
    → option_map (λ o. (part_of o).writer) (open_in s) ≡ Some w → w.txn ≡ t
own_writer top me a t None w h e = absurd (cc)
own_writer top me a t (Some (Holds o)) w h e =
    let same : (part_of o).writer ≡ w = cc in
    sym (ap (λ (x : WriterValue). x.txn) same) ∙ own_txn_of top me a t o h
own_writer top me a t (Some IsApplied) w h e = absurd (cc)
own_writer top me a t (Some (IsDecided commit stamp)) w h e = absurd (cc)

-- what is under way of a transaction is its own
pub own_writers : (top : TopologyValue) (me : ℕ) (a : ShardState) (l : LedgerValue) → AllStand top me l a → GivesOwn (writer_under_way l)
own_writers top me a l stand t w e = own_writer top me a t (state_of l t) w (stand t) e

-- ## Decisions

-- the commit time and the stamp of what a state tells of a decision
pub told_again : (t : TxnValue) (o : Option (ℕ × StampValue)) → option_map (λ (d : Decision). (d.commit, d.stamp)) (option_map (λ (d : ℕ × StampValue). record { txn = t; commit = d.0; stamp = d.1 }) o) ≡ o
told_again t None = refl
told_again t (Some d) = refl

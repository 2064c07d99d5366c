-- The transactions with a mark below a time are those that the machine asks for.
use Rattle.std.proofs.Common.{◌≡◌, ◌∙◌, sym, ap, subst, refl, ℕ, ◌<◌, Bool, true, false, ◌&&◌, not, List, map, Option, Some, None, Contains, arith}
use Rattle.std.specs.Prelude.{if◌then◌else◌, nat_lt, filter_map, option_map}
use Rattle.std.specs.List.{list_any}
use Rattle.std.proofs.lemmas.Bool.{lt-ltb, ltb-true}
use Rattle.logical_time.specs.Stamps.{TxnValue, WriterValue}
use Rattle.column_family.specs.declared.batch.Row.{Row}
use Rattle.column_family.proofs.Options.{both_true}
use Rattle.slice.specs.declared.read.Read.{Read}
use Rattle.store.proofs.lists.Lists.{kept, kept_only}
use Rattle.planner.proofs.Members.{contains_map, map_contains}
use Rattle.pending.specs.Marks.{MarkList, time_at}
use Rattle.pending.specs.Marked.{AreBelow}
use Rattle.messages.specs.Topology.{TopologyValue}
use Rattle.messages.specs.Words.{is_same_txn}
use Rattle.messages.specs.Shard.{ShardState, PreparedPart}
use Rattle.messages.specs.Known.{prepared_part, is_applied, AreOnce}
use Rattle.slice.specs.Rows.{row_of}
use Rattle.messages.specs.Rows.{touches_row}
use Rattle.messages.specs.Reads.{marks_below, asked_below}
use Rattle.write_txn.specs.declared.open.Open.TheVariants as in_open
use Rattle.write_txn.specs.Ledger.{LedgerValue, State, Holds, IsApplied, IsDecided, state_of, open_in, part_of}
use Rattle.write_txn.specs.View.{view_of}
use Rattle.write_txn.specs.Stands.{Stands, own_part, mark_of}
use Rattle.shard.specs.UnderWay.{writer_under_way}
use Rattle.shard.proofs.lists.Lists.{not_true, both_hold, any_found, any_has, found, same_txn}
use Rattle.shard.proofs.lists.Ascending.{given_in_order}
use Rattle.shard.proofs.under_way.HeldParts.{AllStand, false_not, find_once, writer_of, marking, one_some, own_writers}

-- ## Marks

-- a mark is that of a prepared part that isn't applied, and whose coordinator is known
record IsMark (a : ShardState) (t : TxnValue) (s : Option State) (r : Row) (n : ℕ) : Type 0 where
  part : PreparedPart
  prepared : prepared_part t a ≡ Some part
  unapplied : is_applied t a ≡ false
  touches : touches_row r part ≡ true
  time : part.time ≡ n
  writer : option_map (λ o. (part_of o).writer) (open_in s) ≡ Some (writer_of part)

if_some : {P : Type 0} (b : Bool) (m n : ℕ) → (if b then Some m else None) ≡ Some n → (b ≡ true → m ≡ n → P) → P
if_some true m n e f = f refl (cc)
if_some false m n e f = absurd (cc)

mark_is : (top : TopologyValue) (me : ℕ) (a : ShardState) (t : TxnValue) (s : Option State) (r : Row) (n : ℕ) → Stands top me t (view_of t a) s → mark_of s r ≡ Some n → IsMark a t s r n
mark_is top me a t None r n h e = absurd (cc)
mark_is top me a t (Some (Holds (in_open.Kept k))) r n h e = absurd (cc)
mark_is top me a t (Some (Holds (in_open.Part p))) r n h e =
    if_some (touches_row r p) p.time n e (λ touches same. record { part = p; prepared = h.prepared; unapplied = h.applied; touches = touches; time = same; writer = refl })
mark_is top me a t (Some (Holds (in_open.Led l))) r n h e =
    if_some (touches_row r (own_part l)) l.ballot.own.time n e
    (λ touches same. record { part = own_part l; prepared = h.prepared; unapplied = h.applied; touches = touches; time = same; writer = refl })
mark_is top me a t (Some (Holds (in_open.Remote r'))) r n h e = absurd (cc)
mark_is top me a t (Some IsApplied) r n h e = absurd (cc)
mark_is top me a t (Some (IsDecided commit stamp)) r n h e = absurd (cc)

-- ## The asked transactions

-- whether a part has a mark below the time on an asked row
abbrev is_below : ShardState → ℕ → Read → PreparedPart → Bool
is_below a time read p = list_any (λ key. touches_row (row_of read key) p) read.keys && not (is_applied p.txn a) && nat_lt p.time time

-- a transaction with a mark below the time on one of the rows is asked for
marked_asked : (top : TopologyValue) (me : ℕ) (a : ShardState) (l : LedgerValue) (time : ℕ) (read : Read) (t : TxnValue) (w : WriterValue) (r : Row) (n : ℕ)
    → Stands top me t (view_of t a) (state_of l t) → Contains (map (row_of read) read.keys) r → mark_of (state_of l t) r ≡ Some n → n < time → writer_under_way l t ≡ Some w
    → Contains (map writer_of (marks_below a time read)) w
marked_asked top me a l time read t w r n h has is below under_way =
    let m = mark_is top me a t (state_of l t) r n h is in
    let f = found (λ q. is_same_txn q.txn t) a.prepared m.part m.prepared in
    let same : m.part.txn ≡ t = same_txn m.part.txn t f.1 in
    let k = map_contains (row_of read) read.keys r has in
    let touches : list_any (λ key. touches_row (row_of read key) m.part) read.keys ≡ true =
    any_has (λ key. touches_row (row_of read key) m.part) read.keys k.0 k.1 (ap (λ (x : Row). touches_row x m.part) k.2 ∙ m.touches) in
    let unapplied : not (is_applied m.part.txn a) ≡ true = false_not (is_applied m.part.txn a) (ap (λ (u : TxnValue). is_applied u a) same ∙ m.unapplied) in
    let early : nat_lt m.part.time time ≡ true = lt-ltb m.part.time time (omega (arith, m.time)) in
    let writer : writer_of m.part ≡ w = one_some (writer_under_way l t) (writer_of m.part) w m.writer under_way in
    subst (Contains (map writer_of (marks_below a time read))) writer
    (contains_map writer_of (marks_below a time read) m.part (kept (is_below a time read) a.prepared m.part f.0
    (both_hold (list_any (λ key. touches_row (row_of read key) m.part) read.keys && not (is_applied m.part.txn a)) (nat_lt m.part.time time)
    (both_hold (list_any (λ key. touches_row (row_of read key) m.part) read.keys) (not (is_applied m.part.txn a)) touches unapplied) early)))

-- one that is asked for has such a mark
record IsAsked (l : LedgerValue) (time : ℕ) (read : Read) (w : WriterValue) : Type 0 where
  row : Row
  asked : Contains (map (row_of read) read.keys) row
  mark : ℕ
  is : mark_of (state_of l w.txn) row ≡ Some mark
  below : mark < time
  under_way : writer_under_way l w.txn ≡ Some w

part_asked : (top : TopologyValue) (me : ℕ) (a : ShardState) (l : LedgerValue) (time : ℕ) (read : Read) (p : PreparedPart) → AllStand top me l a → AreOnce (λ (q : PreparedPart). q.txn) a.prepared
    → Contains (marks_below a time read) p → IsAsked l time read (writer_of p)
part_asked top me a l time read p stand once has =
    let k = kept_only (is_below a time read) a.prepared p has in
    let b = both_true (list_any (λ key. touches_row (row_of read key) p) read.keys && not (is_applied p.txn a)) (nat_lt p.time time) k.1 in
    let u = both_true (list_any (λ key. touches_row (row_of read key) p) read.keys) (not (is_applied p.txn a)) b.0 in
    let key = any_found (λ key. touches_row (row_of read key) p) read.keys u.0 in
    let m = marking top me a p.txn (state_of l p.txn) p (stand p.txn) (find_once (λ (q : PreparedPart). q.txn) a.prepared p once k.0) (not_true (is_applied p.txn a) u.1) in
    record {
      row = row_of read key.0;
      asked = contains_map (row_of read) read.keys key.0 key.1;
      mark = p.time;
      is = m.marks (row_of read key.0) key.2;
      below = ltb-true p.time time b.1;
      under_way = m.writer;
    }

writer_asked : (top : TopologyValue) (me : ℕ) (a : ShardState) (l : LedgerValue) (time : ℕ) (read : Read) (w : WriterValue) → AllStand top me l a → AreOnce (λ (q : PreparedPart). q.txn) a.prepared
    → Contains (map writer_of (marks_below a time read)) w → IsAsked l time read w
writer_asked top me a l time read w stand once has =
    let m = map_contains writer_of (marks_below a time read) w has in
    subst (IsAsked l time read) m.2 (part_asked top me a l time read m.0 stand once m.1)

-- the transactions with a mark below the time in an asked row, as writers, are those that the machine asks for
pub writers_are_asked : (top : TopologyValue) (me : ℕ) (a : ShardState) (l : LedgerValue) (ms : MarkList) (time : ℕ) (read : Read) (ts : List TxnValue)
    → AllStand top me l a → AreOnce (λ (q : PreparedPart). q.txn) a.prepared
    → ((r : Row) (t : TxnValue) → time_at ms r t ≡ mark_of (state_of l t) r)
    → AreBelow ms (map (row_of read) read.keys) time ts
    → filter_map (writer_under_way l) ts ≡ asked_below a time read
writers_are_asked top me a l ms time read ts stand once marks below =
    given_in_order (writer_under_way l) (own_writers top me a l stand) ts (map writer_of (marks_below a time read)) below.0
    (λ t w has under_way. let m = (below.1 t).0 has in
    marked_asked top me a l time read t w m.0 m.2.0 (stand t) m.1 (sym (marks m.0 t) ∙ m.2.1) m.2.2 under_way)
    (λ w has. let m = writer_asked top me a l time read w stand once has in
    ((below.1 w.txn).1 (m.row, m.asked, (m.mark, marks m.row w.txn ∙ m.is, m.below)), m.under_way))

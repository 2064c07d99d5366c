-- The marks of the transactions under way are those of the parts that are prepared and not applied.
use Rattle.std.proofs.Common.{◌≡◌, ◌∙◌, sym, ap, subst, refl, ℕ, Bool, true, false, if◌then◌else◌, ◌&&◌, not, List, [], ◌∷◌, Option, Some, None}
use Rattle.std.specs.Prelude.{filter, find}
use Rattle.logical_time.specs.Stamps.{TxnValue}
use Rattle.column_family.specs.declared.batch.Row.{Row}
use Rattle.column_family.proofs.Options.{by_cases}
use Rattle.pending.specs.Marks.{MarkList, time_at}
use Rattle.messages.specs.Topology.{TopologyValue}
use Rattle.messages.specs.Words.{is_same_txn}
use Rattle.messages.specs.Shard.{ShardState, PreparedPart}
use Rattle.messages.specs.Rows.{touches_row, marks_on}
use Rattle.messages.specs.Known.{AreOfOthers, AreOnce, prepared_part, is_applied}
use Rattle.write_txn.specs.declared.open.Open.TheVariants as in_open
use Rattle.write_txn.specs.Ledger.{LedgerValue, State, Holds, IsApplied, IsDecided, state_of}
use Rattle.write_txn.specs.View.{view_of}
use Rattle.write_txn.specs.Stands.{Stands, mark_of, own_part}
use Rattle.write_txn.proofs.Finds.{same_txn}
use Rattle.commit_check.specs.Marked.{mark_in, AreMarksOf}

-- ## Parts that are chosen

-- the time of a part, if there is one and it is chosen
abbrev time_if : (PreparedPart → Bool) → Option PreparedPart → Option ℕ
time_if q None = None
time_if q (Some p) = if q p then Some p.time else None

unmarked : (q : PreparedPart → Bool) (t : TxnValue) (ps : List PreparedPart) → AreOfOthers (λ (p : PreparedPart). p.txn) t ps → mark_in (filter q ps) t ≡ None
unmarked q t [] h = refl
unmarked q t (p ∷ ps) h = by_cases (q p)
    (λ yes. rw (yes, h.0) (unmarked q t ps h.1))
    (λ no. rw no (unmarked q t ps h.1))

mark_found : (q : PreparedPart → Bool) (t : TxnValue) (ps : List PreparedPart) → AreOnce (λ (p : PreparedPart). p.txn) ps
    → mark_in (filter q ps) t ≡ time_if q (find (λ (p : PreparedPart). is_same_txn p.txn t) ps)
mark_found q t [] once = refl
mark_found q t (p ∷ ps) once = by_cases (is_same_txn p.txn t)
    (λ same. by_cases (q p)
    (λ yes. rw (yes, same, yes) refl)
    (λ no. rw (no, same, no) (unmarked q t ps (subst (λ u. AreOfOthers (λ (x : PreparedPart). x.txn) u ps) (same_txn p.txn t same) once.0))))
    (λ other. by_cases (q p)
    (λ yes. rw (yes, other) (mark_found q t ps once.1))
    (λ no. rw (no, other) (mark_found q t ps once.1)))

found_txn : (t : TxnValue) (ps : List PreparedPart) (p : PreparedPart) → find (λ (x : PreparedPart). is_same_txn x.txn t) ps ≡ Some p → p.txn ≡ t
found_txn t [] p e = absurd (cc)
found_txn t (x ∷ xs) p e = by_cases (is_same_txn x.txn t)
    (λ yes. let f : Some x ≡ Some p = rw yes at e in let g : x ≡ p = cc in ap (λ (y : PreparedPart). y.txn) (sym g) ∙ same_txn x.txn t yes)
    (λ no. found_txn t xs p (rw no at e))

-- ## The mark of one transaction

abbrev marks_row : Row → ShardState → PreparedPart → Bool
marks_row r a p = touches_row r p && not (is_applied p.txn a)

marked : (r : Row) (t : TxnValue) (a : ShardState) → AreOnce (λ (p : PreparedPart). p.txn) a.prepared → mark_in (marks_on r a) t ≡ time_if (marks_row r a) (prepared_part t a)
marked r t a once = mark_found (marks_row r a) t a.prepared once

no_part : (r : Row) (t : TxnValue) (a : ShardState) → AreOnce (λ (p : PreparedPart). p.txn) a.prepared → prepared_part t a ≡ None → mark_in (marks_on r a) t ≡ None
no_part r t a once none = marked r t a once ∙ ap (time_if (marks_row r a)) none

and_true : (b : Bool) → (b && true) ≡ b
and_true true = refl
and_true false = refl

and_false : (b : Bool) → (b && false) ≡ false
and_false true = refl
and_false false = refl

a_part : (r : Row) (t : TxnValue) (a : ShardState) (p : PreparedPart) → AreOnce (λ (x : PreparedPart). x.txn) a.prepared → prepared_part t a ≡ Some p → is_applied t a ≡ false
    → mark_in (marks_on r a) t ≡ (if touches_row r p then Some p.time else None)
a_part r t a p once is new =
    let unapplied : is_applied p.txn a ≡ false = subst (λ u. is_applied u a ≡ false) (sym (found_txn t a.prepared p is)) new in
    marked r t a once
    ∙ (ap (time_if (marks_row r a)) is
    ∙ ap (λ (b : Bool). if b then Some p.time else None) (ap (λ (b : Bool). touches_row r p && not b) unapplied ∙ and_true (touches_row r p)))

applied_part : (r : Row) (t : TxnValue) (a : ShardState) → AreOnce (λ (x : PreparedPart). x.txn) a.prepared → is_applied t a ≡ true → mark_in (marks_on r a) t ≡ None
applied_part r t a once old = marked r t a once ∙ go (prepared_part t a) refl
  where
    go : (o : Option PreparedPart) → prepared_part t a ≡ o → time_if (marks_row r a) o ≡ None
    go None e = refl
    go (Some p) e =
        let applied : is_applied p.txn a ≡ true = subst (λ u. is_applied u a ≡ true) (sym (found_txn t a.prepared p e)) old in
        ap (λ (b : Bool). if b then Some p.time else None) (ap (λ (b : Bool). touches_row r p && not b) applied ∙ and_false (touches_row r p))

mark_stands : (top : TopologyValue) (me : ℕ) (t : TxnValue) (a : ShardState) (s : Option State) → Stands top me t (view_of t a) s → AreOnce (λ (p : PreparedPart). p.txn) a.prepared
    → (r : Row) → mark_of s r ≡ mark_in (marks_on r a) t
mark_stands top me t a None h once r = sym (no_part r t a once h.prepared)
mark_stands top me t a (Some (Holds (in_open.Kept k))) h once r = sym (no_part r t a once h.prepared)
mark_stands top me t a (Some (Holds (in_open.Part p))) h once r = sym (a_part r t a p once h.prepared h.applied)
mark_stands top me t a (Some (Holds (in_open.Led l))) h once r = sym (a_part r t a (own_part l) once h.prepared h.applied)
mark_stands top me t a (Some (Holds (in_open.Remote x))) h once r = sym (no_part r t a once h.0.prepared)
mark_stands top me t a (Some IsApplied) h once r = sym (applied_part r t a once h.applied)
mark_stands top me t a (Some (IsDecided commit stamp)) h once r = sym (applied_part r t a once h.applied)

-- ## All marks

pub marks_stand : (top : TopologyValue) (me : ℕ) (l : LedgerValue) (a : ShardState) → ((t : TxnValue) → Stands top me t (view_of t a) (state_of l t))
    → AreOnce (λ (p : PreparedPart). p.txn) a.prepared → (r : Row) (t : TxnValue) → mark_of (state_of l t) r ≡ mark_in (marks_on r a) t
marks_stand top me l a stands once r t = mark_stands top me t a (state_of l t) (stands t) once r

-- marks that are those of what is known are those of the shard
pub marks_are : (top : TopologyValue) (me : ℕ) (l : LedgerValue) (a : ShardState) (ms : MarkList) → ((r : Row) (t : TxnValue) → time_at ms r t ≡ mark_of (state_of l t) r)
    → ((t : TxnValue) → Stands top me t (view_of t a) (state_of l t)) → AreOnce (λ (p : PreparedPart). p.txn) a.prepared → AreMarksOf ms a
marks_are top me l a ms marks stands once r t = marks r t ∙ marks_stand top me l a stands once r t

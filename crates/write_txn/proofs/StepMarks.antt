-- The marks after a step of a transaction.
use Rattle.std.proofs.Common.{◌≡◌, ◌∙◌, ap, sym, refl, ℕ, Bool, true, false, List, [], ◌∷◌, length, Option, Some, None, arith}
use Rattle.std.proofs.lemmas.Bool.Decides.{nat_tests}
use Rattle.std.specs.Prelude.{if◌then◌else◌, ◌==◌, ◌&&◌, not, is_some, OnOk, OnErr, Result, Ok, Err}
use Rattle.std.specs.Ordering.{is_eq}
use Rattle.logical_time.specs.Stamps.{StampValue, TxnValue, txn_cmp}
use Rattle.column_family.specs.declared.batch.Row.{Row}
use Rattle.pending.specs.Marks.{MarkList, time_at}
use Rattle.pending.specs.Marked.{AreMarked, touches}
use Rattle.txn_state.specs.Votes.{counted, are_all_there}
use Rattle.txn_state.specs.Voted.{voted_if}
use Rattle.txn_state.specs.RemoteBallot.{missing_in}
use Rattle.txn_state.specs.Ready.{ready_for}
use Rattle.write_txn.specs.declared.open.Open.TheVariants as in_open
use Rattle.write_txn.specs.declared.open.Remote.{Remote}
use Rattle.write_txn.specs.Ledger.{LedgerValue, State, Holds, IsApplied, IsDecided, state_of, Becomes, HaveSameStates, led_after, complete_in, completed_by, state_voted, part_in, state_applied, remote_after, state_ready}
use Rattle.write_txn.specs.Marking.{is_to_vote}
use Rattle.write_txn.specs.Stands.{mark_of}
use Rattle.write_txn.specs.Transactions.{AreMarksOf}
use Rattle.write_txn.proofs.Txns.{by_txn, equal_txn}

-- a step to a state with the marks of the one before
pub same_marks : (m : MarkList) (l k : LedgerValue) (u : TxnValue) (s : Option State) → AreMarksOf m l → Becomes u s l k → ((r : Row) → mark_of s r ≡ mark_of (state_of l u) r) → AreMarksOf m k
same_marks m l k u s marks becomes same r t =
    marks r t
    ∙ sym (
    ap (λ (o : Option State). mark_of o r) (becomes t)
    ∙ by_txn {P = mark_of (if is_eq (txn_cmp u t) then s else state_of l t) r ≡ mark_of (state_of l t) r} u t
    (λ is yes. rw yes (same r ∙ ap (λ (v : TxnValue). mark_of (state_of l v) r) is))
    (λ other. rw other refl)
    )

-- states that are the same
pub unchanged_marks : (m : MarkList) (l k : LedgerValue) → AreMarksOf m l → HaveSameStates l k → AreMarksOf m k
unchanged_marks m l k marks same r t = marks r t ∙ ap (λ (o : Option State). mark_of o r) (sym (same t))

-- what is known of the transaction after a step, and after two steps of it
becomes_own : (l k : LedgerValue) (u : TxnValue) (s : Option State) → Becomes u s l k → state_of k u ≡ s
becomes_own l k u s first = let e : is_eq (txn_cmp u u) ≡ true = equal_txn u u refl in first u ∙ rw e refl

pub becomes_twice : (l k j : LedgerValue) (u : TxnValue) (s : Option State) (f : Option State → Option State) → Becomes u s l k → Becomes u (f (state_of k u)) k j → Becomes u (f s) l j
becomes_twice l k j u s f first second t =
    second t
    ∙ by_txn {P = (if is_eq (txn_cmp u t) then f (state_of k u) else state_of k t) ≡ (if is_eq (txn_cmp u t) then f s else state_of l t)} u t
    (λ is yes. rw yes (ap f (becomes_own l k u s first)))
    (λ other. rw other (first t ∙ rw other refl))

-- a vote that completes nothing
pub unfinished_vote : (me commit node : ℕ) (s : Option State) → is_some (completed_by node s) ≡ false → (r : Row) → mark_of (state_voted me commit node s) r ≡ mark_of s r
unfinished_vote me commit node None h r = refl
unfinished_vote me commit node (Some (Holds (in_open.Kept k))) h r = refl
unfinished_vote me commit node (Some (Holds (in_open.Part p))) h r = refl
unfinished_vote me commit node (Some (Holds (in_open.Led l))) h r = go (are_all_there (counted l.ballot.votes node)) h
  where
    go : (b : Bool) → is_some (complete_in (voted_if b (record l.ballot { votes = counted l.ballot.votes node }))) ≡ false
        → mark_of (Some (led_after l me commit (voted_if b (record l.ballot { votes = counted l.ballot.votes node })))) r ≡ mark_of (Some (Holds (in_open.Led l))) r
    go true h = absurd (cc)
    go false h = refl
unfinished_vote me commit node (Some (Holds (in_open.Remote x))) h r = refl
unfinished_vote me commit node (Some IsApplied) h r = refl
unfinished_vote me commit node (Some (IsDecided n stamp)) h r = refl

-- a note that a transaction was decided, or one that was refused
pub noted_marks : {T E : Type 0} (result : Result T E) (m : MarkList) (l k : LedgerValue) (u : TxnValue) (commit : ℕ) (stamp : StampValue) → AreMarksOf m l → state_of l u ≡ None → OnOk result (Becomes u (Some (IsDecided commit stamp)) l k) → OnErr result (HaveSameStates l k) → AreMarksOf m k
noted_marks (Ok x) m l k u commit stamp marks unknown ok err =
    same_marks m l k u (Some (IsDecided commit stamp)) marks ok (λ r. ap (λ (o : Option State). mark_of o r) (sym unknown))
noted_marks (Err e) m l k u commit stamp marks unknown ok err = unchanged_marks m l k marks err

-- an application where no part is prepared
pub unapplied : (s : Option State) → part_in s ≡ None → (r : Row) → mark_of (state_applied s) r ≡ mark_of s r
unapplied None h r = refl
unapplied (Some (Holds (in_open.Kept k))) h r = refl
unapplied (Some (Holds (in_open.Part p))) h r = absurd (cc)
unapplied (Some (Holds (in_open.Led l))) h r = refl
unapplied (Some (Holds (in_open.Remote x))) h r = refl
unapplied (Some IsApplied) h r = refl
unapplied (Some (IsDecided n stamp)) h r = refl

-- a ballot that is made ready as soon as it is held
ready_marks : (x : Remote) (time : ℕ) (r : Row) → mark_of (state_ready time (Some (Holds (in_open.Remote x)))) r ≡ (if touches (if is_to_vote x.ballot then x.ballot.part.batch else []) r then Some time else None)
ready_marks x time r = go (missing_in x.ballot == 0) x.ballot.notices.cohorts
  where
    go : (b : Bool) (cohorts : List ℕ) → mark_of (Some (if b then remote_after x time (ready_for cohorts (record { part = x.ballot.part; time = time })) else Holds (in_open.Remote x))) r ≡ (if touches (if b && not (length cohorts == 0) then x.ballot.part.batch else []) r then Some time else None)
    go false cohorts = refl
    go true [] = refl
    go true (c ∷ cs) = let some : (length (c ∷ cs) == 0) ≡ false = grind (arith, nat_tests) in rw some refl

pub held_marks : (m n : MarkList) (l j : LedgerValue) (x : Remote) (time : ℕ) → AreMarksOf m l → state_of l x.ballot.part.writer.txn ≡ None
    → AreMarked m n (if is_to_vote x.ballot then x.ballot.part.batch else []) x.ballot.part.writer.txn time
    → Becomes x.ballot.part.writer.txn (state_ready time (Some (Holds (in_open.Remote x)))) l j
    → AreMarksOf n j
held_marks m n l j x time marks unknown marked ready r t =
    marked r t
    ∙ by_txn {P = (if is_eq (txn_cmp x.ballot.part.writer.txn t) && touches (if is_to_vote x.ballot then x.ballot.part.batch else []) r then Some time else time_at m r t) ≡ mark_of (if is_eq (txn_cmp x.ballot.part.writer.txn t) then state_ready time (Some (Holds (in_open.Remote x))) else state_of l t) r} x.ballot.part.writer.txn t
    (λ is yes. rw yes (ap (λ (o : Option ℕ). if touches (if is_to_vote x.ballot then x.ballot.part.batch else []) r then Some time else o) (marks r t ∙ ap (λ (o : Option State). mark_of o r) (ap (state_of l) (sym is) ∙ unknown)) ∙ sym (ready_marks x time r)))
    (λ other. rw other (marks r t))
    ∙ ap (λ (o : Option State). mark_of o r) (sym (ready t))

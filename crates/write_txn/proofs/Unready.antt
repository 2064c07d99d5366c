-- A ballot of which something is missing isn't made ready: what is known of its transaction stays.
use Rattle.std.proofs.Common.{◌≡◌, refl, ap, sym, subst, ◌∙◌, ℕ, Bool, true, false, Option, Some, None}
use Rattle.std.specs.Prelude.{if◌then◌else◌}
use Rattle.logical_time.specs.Stamps.{TxnValue}
use Rattle.txn_state.specs.Ready.{ready_at}
use Rattle.write_txn.specs.declared.open.Open.TheVariants as in_open
use Rattle.column_family.specs.declared.batch.Row.{Row}
use Rattle.pending.specs.Marks.{MarkList}
use Rattle.write_txn.specs.declared.open.Missing.{Missing}
use Rattle.write_txn.specs.Ledger.{LedgerValue, State, Holds, IsApplied, IsDecided, state_of, state_with, state_ready, readied_by, remote_after, ready_complete, lacks_nothing, Becomes}
use Rattle.write_txn.specs.Stands.{mark_of}
use Rattle.write_txn.specs.Transactions.{AreMarksOf}
use Rattle.write_txn.proofs.Txns.{by_txn}

pub unready_state : (time : ℕ) (s : Option State) → lacks_nothing s ≡ false → state_ready time s ≡ s
unready_state time None waits = refl
unready_state time (Some IsApplied) waits = refl
unready_state time (Some (IsDecided commit stamp)) waits = refl
unready_state time (Some (Holds (in_open.Kept k))) waits = refl
unready_state time (Some (Holds (in_open.Part p))) waits = refl
unready_state time (Some (Holds (in_open.Led l))) waits = refl
unready_state time (Some (Holds (in_open.Remote r))) waits =
    ap (λ (b : Bool). Some (if b then remote_after r time (ready_at r.ballot time) else Holds (in_open.Remote r))) waits

-- nothing is complete
pub none_complete : (time : ℕ) (s : Option State) → lacks_nothing s ≡ false → readied_by time s ≡ None
none_complete time None waits = refl
none_complete time (Some IsApplied) waits = refl
none_complete time (Some (IsDecided commit stamp)) waits = refl
none_complete time (Some (Holds (in_open.Kept k))) waits = refl
none_complete time (Some (Holds (in_open.Part p))) waits = refl
none_complete time (Some (Holds (in_open.Led l))) waits = refl
none_complete time (Some (Holds (in_open.Remote r))) waits =
    ap (λ (b : Bool). if b then ready_complete (ready_at r.ballot time) else None) waits

-- what is counted marks no row
unmarked : (m : Missing) (s : Option State) (r : Row) → mark_of (state_with m s) r ≡ mark_of s r
unmarked m None r = refl
unmarked m (Some IsApplied) r = refl
unmarked m (Some (IsDecided commit stamp)) r = refl
unmarked m (Some (Holds (in_open.Kept k))) r = refl
unmarked m (Some (Holds (in_open.Part p))) r = refl
unmarked m (Some (Holds (in_open.Led l))) r = refl
unmarked m (Some (Holds (in_open.Remote b))) r = refl

pub still_marked : (m : Missing) (t : TxnValue) (marks : MarkList) (l k : LedgerValue) → AreMarksOf marks l → Becomes t (state_with m (state_of l t)) l k → AreMarksOf marks k
still_marked m t marks l k are becomes r u =
    are r u ∙ by_txn t u
    (λ is e.
    sym (ap (λ (v : Option State). mark_of v r) (becomes u)
    ∙ ap (λ (b : Bool). mark_of (if b then state_with m (state_of l t) else state_of l u) r) e
    ∙ unmarked m (state_of l t) r
    ∙ ap (λ (v : TxnValue). mark_of (state_of l v) r) is))
    (λ e.
    sym (ap (λ (v : Option State). mark_of v r) (becomes u)
    ∙ ap (λ (b : Bool). mark_of (if b then state_with m (state_of l t) else state_of l u) r) e))

-- whether or not something was counted
pub marked_early : (last : Bool) (m : Missing) (t : TxnValue) (marks : MarkList) (l k : LedgerValue) → AreMarksOf marks l → (last ≡ false → Becomes t (state_with m (state_of l t)) l k) → (last ≡ true → k ≡ l) → AreMarksOf marks k
marked_early false m t marks l k are counted same = still_marked m t marks l k are (counted refl)
marked_early true m t marks l k are counted same = subst (λ (x : LedgerValue). AreMarksOf marks x) (sym (same refl)) are

stays : (s : Option State) (t : TxnValue) (l : LedgerValue) → s ≡ state_of l t → Becomes t s l l
stays s t l same u =
    by_txn t u
    (λ is e. sym (ap (λ (b : Bool). if b then s else state_of l u) e ∙ same ∙ ap (λ (v : TxnValue). state_of l v) is))
    (λ e. sym (ap (λ (b : Bool). if b then s else state_of l u) e))

-- and the ledger stays as it is
pub unready_stays : (time : ℕ) (t : TxnValue) (l : LedgerValue) → lacks_nothing (state_of l t) ≡ false → Becomes t (state_ready time (state_of l t)) l l
unready_stays time t l waits = stays (state_ready time (state_of l t)) t l (unready_state time (state_of l t) waits)

-- What a step makes of what is under way is of the same transaction.
use Rattle.std.proofs.Common.{◌≡◌, refl, ℕ, Bool, true, false, List, [], ◌∷◌, ◌==◌, None, IfSome}
use Rattle.std.specs.Prelude.{if◌then◌else◌}
use Rattle.txn_state.specs.Ballot.{BallotValue, CompleteValue}
use Rattle.txn_state.specs.Prepared.{PreparedValue}
use Rattle.txn_state.specs.Votes.{counted, are_all_there}
use Rattle.txn_state.specs.Voted.{voted_if}
use Rattle.txn_state.specs.Ready.{ready_for, ready_at}
use Rattle.txn_state.specs.RemoteBallot.{missing_in}
use Rattle.write_txn.specs.declared.open.Open.TheVariants as in_open
use Rattle.write_txn.specs.declared.open.Led.{Led}
use Rattle.write_txn.specs.declared.open.Missing.{Missing}
use Rattle.write_txn.specs.declared.open.Missing.TheVariants as in_missing
use Rattle.write_txn.specs.declared.open.Remote.{Remote}
use Rattle.write_txn.specs.Ledger.{Holds, state_prepared, state_applied, state_voted, led_after, state_with, state_ready, remote_after, part_in, completed_by, complete_in, readied_by, ready_complete}
use Rattle.write_txn.proofs.Taken.{IsOf, KeepsTxn, AnswersTxn}

pub prepared_keeps : (time : ℕ) → KeepsTxn (state_prepared time)
prepared_keeps time (in_open.Kept k) = refl
prepared_keeps time (in_open.Part p) = refl
prepared_keeps time (in_open.Led l) = refl
prepared_keeps time (in_open.Remote r) = refl

pub applied_keeps : KeepsTxn state_applied
applied_keeps (in_open.Kept k) = refl
applied_keeps (in_open.Part p) = refl
applied_keeps (in_open.Led l) = refl
applied_keeps (in_open.Remote r) = refl

pub with_keeps : (missing : Missing) → KeepsTxn (state_with missing)
with_keeps missing (in_open.Kept k) = refl
with_keeps missing (in_open.Part p) = refl
with_keeps missing (in_open.Led l) = refl
with_keeps (in_missing.Notice node) (in_open.Remote r) = refl
with_keeps (in_missing.Answer dependency) (in_open.Remote r) = refl

led_keeps : (l : Led) (me commit : ℕ) (b : Bool) (c : BallotValue) → c.own.part.writer.txn ≡ l.ballot.own.part.writer.txn → IsOf l.ballot.own.part.writer.txn (led_after l me commit (voted_if b c))
led_keeps l me commit true c same = refl
led_keeps l me commit false c same = same

pub voted_keeps : (me commit node : ℕ) → KeepsTxn (state_voted me commit node)
voted_keeps me commit node (in_open.Kept k) = refl
voted_keeps me commit node (in_open.Part p) = refl
voted_keeps me commit node (in_open.Led l) =
    led_keeps l me commit (are_all_there (counted l.ballot.votes node)) (record l.ballot { votes = counted l.ballot.votes node }) refl
voted_keeps me commit node (in_open.Remote r) = refl

remote_keeps : (r : Remote) (time : ℕ) (cohorts : List ℕ) → IsOf r.ballot.part.writer.txn (remote_after r time (ready_for cohorts (record { part = r.ballot.part; time = time })))
remote_keeps r time [] = refl
remote_keeps r time (c ∷ cs) = refl

ready_if_keeps : (r : Remote) (time : ℕ) (b : Bool) → IsOf r.ballot.part.writer.txn (if b then remote_after r time (ready_at r.ballot time) else Holds (in_open.Remote r))
ready_if_keeps r time true = remote_keeps r time r.ballot.notices.cohorts
ready_if_keeps r time false = refl

pub ready_keeps : (time : ℕ) → KeepsTxn (state_ready time)
ready_keeps time (in_open.Kept k) = refl
ready_keeps time (in_open.Part p) = refl
ready_keeps time (in_open.Led l) = refl
ready_keeps time (in_open.Remote r) = ready_if_keeps r time (missing_in r.ballot == 0)

-- ## What a step answers

pub part_own : AnswersTxn part_in (λ (p : PreparedValue). p.part.writer.txn)
part_own (in_open.Kept k) = tt
part_own (in_open.Part p) = refl
part_own (in_open.Led l) = tt
part_own (in_open.Remote r) = tt

complete_own : (b : Bool) (c : BallotValue) → IfSome (complete_in (voted_if b c)) (λ (x : CompleteValue). x.own.part.writer.txn ≡ c.own.part.writer.txn)
complete_own true c = refl
complete_own false c = tt

pub voted_own : (node : ℕ) → AnswersTxn (completed_by node) (λ (x : CompleteValue). x.own.part.writer.txn)
voted_own node (in_open.Kept k) = tt
voted_own node (in_open.Part p) = tt
voted_own node (in_open.Led l) =
    complete_own (are_all_there (counted l.ballot.votes node)) (record l.ballot { votes = counted l.ballot.votes node })
voted_own node (in_open.Remote r) = tt

ready_for_own : (cohorts : List ℕ) (p : PreparedValue) → IfSome (ready_complete (ready_for cohorts p)) (λ (x : CompleteValue). x.own.part.writer.txn ≡ p.part.writer.txn)
ready_for_own [] p = refl
ready_for_own (c ∷ cs) p = tt

ready_if_own : (r : Remote) (time : ℕ) (b : Bool) → IfSome (if b then ready_complete (ready_at r.ballot time) else None) (λ (x : CompleteValue). x.own.part.writer.txn ≡ r.ballot.part.writer.txn)
ready_if_own r time true = ready_for_own r.ballot.notices.cohorts (record { part = r.ballot.part; time = time })
ready_if_own r time false = tt

pub ready_own : (time : ℕ) → AnswersTxn (readied_by time) (λ (x : CompleteValue). x.own.part.writer.txn)
ready_own time (in_open.Kept k) = tt
ready_own time (in_open.Part p) = tt
ready_own time (in_open.Led l) = tt
ready_own time (in_open.Remote r) = ready_if_own r time (missing_in r.ballot == 0)

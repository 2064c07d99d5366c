-- The steps of notices and answers for a ballot of another data centre's write, as what is kept takes them.
use Rattle.std.proofs.Common.{◌≡◌, ◌∙◌, sym, ap, subst, refl, ℕ, Bool, true, false, List, [], ◌∷◌, ◌++◌, Option, Some, None, map, length, is_some, IfSome, append-nil, arith}
use Rattle.std.specs.Prelude.{◌==◌, ◌&&◌}
use Rattle.std.proofs.lemmas.Bool.Decides.{nat_tests}
use Rattle.logical_time.specs.Stamps.{StampValue, TxnValue}
use Rattle.store.specs.Keeps.{AreApart}
use Rattle.store.specs.Stored.{HasRoom}
use Rattle.store.specs.Stored as in_store
use Rattle.txn_state.specs.Ballot.{CompleteValue}
use Rattle.txn_state.specs.RemoteBallot.{missing_in}
use Rattle.messages.specs.declared.body.Body.TheVariants.{PrepareRemote}
use Rattle.messages.specs.declared.envelope.Envelope.{Envelope}
use Rattle.messages.specs.Topology.{TopologyValue, dc_of, shard_node}
use Rattle.messages.specs.Words.{envelope}
use Rattle.messages.specs.Shard.{ShardState, ShardStep, KeptBallot, BegunBallot}
use Rattle.messages.specs.Known.{decision_of}
use Rattle.messages.specs.Commits.{decide}
use Rattle.messages.specs.Replication.{ballot_of, remote_prepare, ready_if, ready, on_notify, on_dep_ok}
use Rattle.write_txn.specs.declared.open.Missing.{Missing}
use Rattle.write_txn.specs.declared.open.Missing.TheVariants as in_missing
use Rattle.write_txn.specs.declared.open.Open.{Open}
use Rattle.write_txn.specs.declared.open.Open.TheVariants as in_open
use Rattle.write_txn.specs.declared.open.Remote.{Remote}
use Rattle.write_txn.specs.Ledger.{State, Holds, IsApplied, IsDecided, LedgerValue, state_of, open_in, part_of, Becomes, remote_with, state_with, state_ready, readied_by}
use Rattle.write_txn.specs.Transactions.{TransactionsValue, GoesOnKeeping}
use Rattle.write_txn.specs.Stands.{IsWaiting, StandsRemote, kept_ballot_of}
use Rattle.write_txn.specs.View.{view_of}
use Rattle.write_txn.proofs.Readying.{KeepsBallot, notice_counts}
use Rattle.write_txn.proofs.Answering.{is_remote, notice_ignored, answer_ignored, answer_counts}
use Rattle.shard.specs.declared.kept.ShardKept.{ShardKept}
use Rattle.shard.specs.Kept.{Represents, IsStep}
use Rattle.shard.specs.Deciding.{told}
use Rattle.shard.specs.Concluding.{MaySettle, IsConcluded}
use Rattle.shard.specs.Counting.{IsInTime, on_missing}
use Rattle.shard.proofs.in_code.Standing.{is_quiet}
use Rattle.shard.proofs.in_code.InPlace.{stands_so}
use Rattle.shard.proofs.in_code.PartSteps.{known_open}
use Rattle.shard.proofs.in_code.BallotSteps.{alone_sends, may_settle, readies_so}

-- ## What is sent

pub asked_sends : (top : TopologyValue) (me n : ℕ) (a : ShardState) (r : KeptBallot) (b : Bool) (t : TxnValue) → b ≡ true → (length r.cohorts == 0) ≡ false → t ≡ r.txn
    → map (λ s. envelope me (shard_node top (dc_of top me) s) n (PrepareRemote t)) r.cohorts ≡ (ready_if b top me n a r).sends
asked_sends top me n a r b t ready_now some is =
    ap (λ (u : TxnValue). map (λ s. envelope me (shard_node top (dc_of top me) s) n (PrepareRemote u)) r.cohorts) is
    ∙ (go r.cohorts some ∙ ap (λ (x : Bool). (ready_if x top me n a r).sends) (sym ready_now))
  where
    go : (cs : List ℕ) → (length cs == 0) ≡ false → map (λ s. envelope me (shard_node top (dc_of top me) s) n (PrepareRemote r.txn)) cs ≡ (remote_prepare cs top me n a r).sends
    go [] e = absurd (cc)
    go (x ∷ xs) e = refl

none_is_nil : (cs : List ℕ) → (length cs == 0) ≡ true → cs ≡ []
none_is_nil [] e = refl
none_is_nil (x ∷ xs) e = absurd (impossible x xs e)
  where
    impossible : (y : ℕ) (ys : List ℕ) → (length (y ∷ ys) == 0) ≡ true → ⊥
    impossible y ys g = grind (arith, nat_tests)

pub alone_told : (top : TopologyValue) (me n : ℕ) (a : ShardState) (r : KeptBallot) (b : Bool) (d : BegunBallot) → b ≡ true → (length r.cohorts == 0) ≡ true → d ≡ ballot_of r
    → told top me n a d ≡ (ready_if b top me n a r).sends
alone_told top me n a r b d ready_now none is =
    ap (told top me n a) is ∙ (alone_sends top me n a r (none_is_nil r.cohorts none) ∙ ap (λ (x : Bool). (ready_if x top me n a r).sends) (sym ready_now))

pub alone_apart : (top : TopologyValue) (me n : ℕ) (a : ShardState) (r : KeptBallot) (b : Bool) (d : BegunBallot) → b ≡ true → (length r.cohorts == 0) ≡ true → d ≡ ballot_of r
    → AreApart (ready_if b top me n a r).state.applied → AreApart (decide top me n a d).state.applied
alone_apart top me n a r b d ready_now none is apart =
    subst (λ (x : BegunBallot). AreApart (decide top me n a x).state.applied) (sym is)
    (subst (λ (cs : List ℕ). AreApart (remote_prepare cs top me n a r).state.applied) (none_is_nil r.cohorts none)
    (subst (λ (x : Bool). AreApart (ready_if x top me n a r).state.applied) ready_now apart))

-- nothing is told to cohorts where there are none
pub alone_sent : (f : ℕ → Envelope) (cohorts : List ℕ) (before es after : List Envelope) → cohorts ≡ [] → after ≡ (before ++ map f cohorts) ++ es → after ≡ before ++ es
alone_sent f cohorts before es after none sent =
    sent ∙ (ap (λ (cs : List ℕ). (before ++ map f cs) ++ es) none ∙ ap (λ (xs : List Envelope). xs ++ es) (append-nil before))

-- ## One more notice or answer

-- what a ballot completes that has one more may be settled
pub counted_settles : (t : TxnValue) (n m : ℕ) (r : Remote) (k : ShardKept) (room : LedgerValue) (s : Option State) (stamp : StampValue) (complete : Option CompleteValue)
    → (kept_ballot_of r).txn ≡ t → m ≡ n → s ≡ Some (Holds (in_open.Remote r)) → stamp ≡ r.ballot.stamp
    → complete ≡ readied_by m s → Becomes t (state_ready m s) room k.transactions.ledger → (((missing_in r.ballot == 0) && (length r.ballot.notices.cohorts == 0)) ≡ true → HasRoom k.transactions.store r.ballot.part.batch)
    → IfSome complete (λ c. MaySettle t n stamp k c)
counted_settles t n m r k room s stamp complete own same_time is same_stamp completes becomes has_room =
    subst (λ (x : StampValue). IfSome complete (λ c. MaySettle t n x k c)) (sym same_stamp)
    (may_settle t n r k room complete own (completes ∙ (ap (readied_by m) is ∙ ap (λ (x : ℕ). readied_by x (Some (Holds (in_open.Remote r)))) same_time))
    (subst (λ (x : ℕ). Becomes t (state_ready x (Some (Holds (in_open.Remote r)))) room k.transactions.ledger) same_time
    (subst (λ (o : Option State). Becomes t (state_ready m o) room k.transactions.ledger) is becomes)) has_room)

-- the step of a ballot that has one more
pub counts_so : (top : TopologyValue) (me n m : ℕ) (t : TxnValue) (r : Remote) (k : ShardKept) (room ts : TransactionsValue) (s : Option State) (stamp : StampValue) (b : Bool) (complete : Option CompleteValue) (l : ShardKept) (a c : ShardState) (step : ShardStep) (before after : List Envelope)
    → step ≡ ready top me n c (kept_ballot_of r) → m ≡ n → s ≡ Some (Holds (in_open.Remote r)) → stamp ≡ r.ballot.stamp → b ≡ (missing_in r.ballot == 0)
    → Represents top me k a → KeepsBallot top me t r a c → c.waiting ≡ a.waiting → AreApart step.state.applied
    → GoesOnKeeping k.transactions.store room.store → room.ledger ≡ k.transactions.ledger → room.early ≡ k.transactions.early
    → Becomes t (state_ready m s) room.ledger ts.ledger → ts.store ≡ room.store → ts.early ≡ room.early
    → complete ≡ readied_by m s → IsConcluded t stamp n complete (record k { transactions = ts }) l
    → (AreApart (ready_if b top me m a (kept_ballot_of r)).state.applied → after ≡ before ++ (ready_if b top me m a (kept_ballot_of r)).sends)
    → IsStep top me step l before after
counts_so top me n m t r k room ts s stamp b complete l a c step before after step_is same_time is same_stamp ready_now represents keeps waiting apart grown ledger room_early becomes store early completes concluded sent =
    subst (λ (x : ShardStep). IsStep top me x l before after) (sym step_is)
    (readies_so top me n t r k room ts complete l a c before after represents keeps waiting (subst (λ (x : ShardStep). AreApart x.state.applied) step_is apart) grown ledger room_early
    (subst (λ (x : ℕ). Becomes t (state_ready x (Some (Holds (in_open.Remote r)))) room.ledger ts.ledger) same_time (subst (λ (o : Option State). Becomes t (state_ready m o) room.ledger ts.ledger) is becomes))
    store early (completes ∙ (ap (readied_by m) is ∙ ap (λ (x : ℕ). readied_by x (Some (Holds (in_open.Remote r)))) same_time))
    (subst (λ (x : StampValue). IsConcluded t x n complete (record k { transactions = ts }) l) same_stamp concluded)
    (subst (λ (x : ℕ). AreApart (ready_if (missing_in r.ballot == 0) top me x a (kept_ballot_of r)).state.applied → after ≡ before ++ (ready_if (missing_in r.ballot == 0) top me x a (kept_ballot_of r)).sends) same_time
    (subst (λ (x : Bool). AreApart (ready_if x top me m a (kept_ballot_of r)).state.applied → after ≡ before ++ (ready_if x top me m a (kept_ballot_of r)).sends) ready_now sent)))

-- the ballot is the same
same_ballot : (r : Remote) (missing : Missing) → kept_ballot_of (remote_with r missing) ≡ kept_ballot_of r
same_ballot r (in_missing.Notice node) = refl
same_ballot r (in_missing.Answer dependency) = refl

pub missing_counts : (missing : Missing) (top : TopologyValue) (me n : ℕ) (a : ShardState) (t : TxnValue) (r : Remote) → (kept_ballot_of r).txn ≡ t → StandsRemote top me (view_of t a) r → IsWaiting r
    → (c : ShardState) × (on_missing missing top me n a t ≡ ready top me n c (kept_ballot_of (remote_with r missing))) × KeepsBallot top me t (remote_with r missing) a c × (c.waiting ≡ a.waiting)
missing_counts (in_missing.Notice node) top me n a t r own h waits = notice_counts top me n a t r node own h waits
missing_counts (in_missing.Answer dependency) top me n a t r own h waits = answer_counts top me n a t dependency r own h waits

-- what it completes may be settled
pub missing_settles : (missing : Missing) (t : TxnValue) (n m : ℕ) (r : Remote) (k : ShardKept) (room : LedgerValue) (s : Option State) (stamp : StampValue) (complete : Option CompleteValue)
    → (kept_ballot_of r).txn ≡ t → m ≡ n → s ≡ state_with missing (Some (Holds (in_open.Remote r))) → stamp ≡ r.ballot.stamp
    → complete ≡ readied_by m s → Becomes t (state_ready m s) room k.transactions.ledger → (((missing_in (remote_with r missing).ballot == 0) && (length r.ballot.notices.cohorts == 0)) ≡ true → HasRoom k.transactions.store r.ballot.part.batch)
    → IfSome complete (λ c. MaySettle t n stamp k c)
missing_settles (in_missing.Notice node) t n m r = counted_settles t n m (remote_with r (in_missing.Notice node))
missing_settles (in_missing.Answer dependency) t n m r = counted_settles t n m (remote_with r (in_missing.Answer dependency))

pub missing_so : (missing : Missing) (top : TopologyValue) (me n m : ℕ) (t : TxnValue) (r : Remote) (k : ShardKept) (room ts : TransactionsValue) (stamp : StampValue) (b : Bool) (complete : Option CompleteValue) (l : ShardKept) (a : ShardState) (before es after : List Envelope)
    → m ≡ n → (kept_ballot_of r).txn ≡ t → open_in (state_of k.transactions.ledger t) ≡ Some (in_open.Remote r) → stamp ≡ r.ballot.stamp → b ≡ (missing_in (remote_with r missing).ballot == 0)
    → Represents top me k a → AreApart (on_missing missing top me n a t).state.applied
    → GoesOnKeeping k.transactions.store room.store → room.ledger ≡ k.transactions.ledger → room.early ≡ k.transactions.early
    → Becomes t (state_ready m (state_with missing (state_of room.ledger t))) room.ledger ts.ledger → ts.store ≡ room.store → ts.early ≡ room.early
    → complete ≡ readied_by m (state_with missing (state_of room.ledger t)) → IsConcluded t stamp n complete (record k { transactions = ts }) l
    → (decision_of (kept_ballot_of r).txn a ≡ None → AreApart (ready_if b top me m a (kept_ballot_of r)).state.applied → es ≡ (ready_if b top me m a (kept_ballot_of r)).sends)
    → after ≡ before ++ es
    → IsStep top me (on_missing missing top me n a t) l before after
missing_so missing top me n m t r k room ts stamp b complete l a before es after same_time own is same_stamp ready_now represents apart grown ledger room_early becomes store early completes concluded sends sent =
    let known = known_open (state_of k.transactions.ledger t) (in_open.Remote r) is in
    let h = stands_so top me k a t (Some (Holds (in_open.Remote r))) represents known in
    let it = missing_counts missing top me n a t r own h.0 h.1 in
    let same = same_ballot r missing in
    counts_so top me n m t (remote_with r missing) k room ts (state_with missing (state_of room.ledger t)) stamp b complete l a it.0 (on_missing missing top me n a t) before after it.1 same_time
    (ap (state_with missing) (ap (λ (x : LedgerValue). state_of x t) ledger ∙ known)) (same_stamp ∙ sym (ap (λ (x : KeptBallot). x.stamp) same)) ready_now represents it.2 it.3 apart grown ledger room_early becomes store early completes concluded
    (subst (λ (x : KeptBallot). AreApart (ready_if b top me m a x).state.applied → after ≡ before ++ (ready_if b top me m a x).sends) (sym same)
    (λ there. sent ∙ ap (λ (ys : List Envelope). before ++ ys) (sends (subst (λ (u : TxnValue). decision_of u a ≡ None) (sym own) h.0.decision) there)))

-- ## None waits

-- whether a ballot of another data centre's write waits
abbrev pub is_remote_open : Option Open → Bool
is_remote_open None = false
is_remote_open (Some (in_open.Kept h)) = false
is_remote_open (Some (in_open.Part p)) = false
is_remote_open (Some (in_open.Led l)) = false
is_remote_open (Some (in_open.Remote r)) = true

none_waits : (s : Option State) → is_remote_open (open_in s) ≡ false → is_remote s ≡ false
none_waits None e = refl
none_waits (Some (Holds (in_open.Kept h))) e = refl
none_waits (Some (Holds (in_open.Part p))) e = refl
none_waits (Some (Holds (in_open.Led l))) e = refl
none_waits (Some (Holds (in_open.Remote r))) e = e
none_waits (Some IsApplied) e = refl
none_waits (Some (IsDecided commit stamp)) e = refl

-- where the transaction is known and none waits, the clock alone moves
pub notice_passes : (top : TopologyValue) (me n : ℕ) (k : ShardKept) (a : ShardState) (t : TxnValue) (node : ℕ) (before : List Envelope)
    → Represents top me k a → is_some (state_of k.transactions.ledger t) ≡ true → is_remote_open (open_in (state_of k.transactions.ledger t)) ≡ false
    → IsStep top me (on_notify top me n a node t) (record k { clock = n }) before before
notice_passes top me n k a t node before r known e = go (state_of k.transactions.ledger t) refl known (none_waits (state_of k.transactions.ledger t) e)
  where
    go : (s : Option State) → state_of k.transactions.ledger t ≡ s → is_some s ≡ true → is_remote s ≡ false → IsStep top me (on_notify top me n a node t) (record k { clock = n }) before before
    go None f g h = absurd (cc)
    go (Some s) f g h = is_quiet top me n k a (on_notify top me n a node t) before r (notice_ignored top me n a t node s (stands_so top me k a t (Some s) r f) h)

-- where none waits, the clock alone moves
pub answer_passes : (top : TopologyValue) (me n : ℕ) (k : ShardKept) (a : ShardState) (t d : TxnValue) (before : List Envelope)
    → Represents top me k a → is_remote_open (open_in (state_of k.transactions.ledger t)) ≡ false
    → IsStep top me (on_dep_ok top me n a d t) (record k { clock = n }) before before
answer_passes top me n k a t d before r e =
    is_quiet top me n k a (on_dep_ok top me n a d t) before r (answer_ignored top me n a t d (state_of k.transactions.ledger t) (r.stands t) (none_waits (state_of k.transactions.ledger t) e))

pub missing_passes : (missing : Missing) (top : TopologyValue) (me n : ℕ) (k : ShardKept) (a : ShardState) (t : TxnValue) (before : List Envelope)
    → Represents top me k a → IsInTime missing (state_of k.transactions.ledger t) → is_remote_open (open_in (state_of k.transactions.ledger t)) ≡ false
    → IsStep top me (on_missing missing top me n a t) (record k { clock = n }) before before
missing_passes (in_missing.Notice node) top me n k a t before r known e = notice_passes top me n k a t node before r known e
missing_passes (in_missing.Answer dependency) top me n k a t before r known e = answer_passes top me n k a t dependency before r e

-- ## Room

-- there is room for the own part of a ballot that is decided
pub ready_room : (t : TxnValue) (r : Remote) (ledger : LedgerValue) (room ts : TransactionsValue) (b c : Bool) → b ≡ c → open_in (state_of ledger t) ≡ Some (in_open.Remote r) → ts.store ≡ room.store
    → (b ≡ true → (o : Open) → open_in (state_of ledger t) ≡ Some o → HasRoom room.store (part_of o).batch)
    → c ≡ true → HasRoom ts.store r.ballot.part.batch
ready_room t r ledger room ts b c same is store made e =
    subst (λ (x : in_store.StoreValue). HasRoom x r.ballot.part.batch) (sym store) (made (same ∙ e) (in_open.Remote r) is)

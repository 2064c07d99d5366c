-- The steps of a cohort's part, as what is kept takes them.
use Rattle.std.proofs.Common.{◌≡◌, ◌∙◌, sym, ap, subst, refl, ℕ, Bool, true, false, List, [], ◌∷◌, ◌++◌, Option, Some, None, is_some}
use Rattle.logical_time.specs.Stamps.{TxnValue}
use Rattle.store.specs.Keeps.{AreApart}
use Rattle.txn_state.specs.declared.part.WritePart.{WritePart}
use Rattle.messages.specs.declared.body.Body.TheVariants.{Yes, Notify}
use Rattle.messages.specs.declared.envelope.Envelope.{Envelope}
use Rattle.messages.specs.Topology.{TopologyValue, dc_of, shard_node}
use Rattle.messages.specs.Words.{envelope}
use Rattle.messages.specs.Shard.{ShardState, ShardStep, Cohort, Replica}
use Rattle.messages.specs.Commits.{on_prepare, prepare_part}
use Rattle.messages.specs.Reads.{answer}
use Rattle.messages.specs.Replication.{repl_part_if, on_repl_part, on_prepare_remote}
use Rattle.write_txn.specs.declared.open.ReplicatedPart as in_write
use Rattle.write_txn.specs.declared.open.Open.{Open}
use Rattle.write_txn.specs.declared.open.Open.TheVariants as in_open
use Rattle.write_txn.specs.Ledger.{State, Holds, IsApplied, IsDecided, state_of, Becomes, open_in, state_prepared, replica_of}
use Rattle.write_txn.specs.Stands.{kept_part_of}
use Rattle.write_txn.specs.Transactions.{TransactionsValue, cohorts_part}
use Rattle.write_txn.specs.Voters.{VoterList}
use Rattle.write_txn.proofs.CohortSteps.{known_if, cohort_prepares}
use Rattle.write_txn.proofs.Bodies.{prepare_unknown}
use Rattle.write_txn.proofs.Replicas.{repl_part_unknown, part_is_kept, prepare_remote_kept, kept_is_prepared, is_kept, prepare_remote_ignored}
use Rattle.shard.specs.declared.kept.ShardKept.{ShardKept}
use Rattle.shard.specs.Kept.{Represents, IsStep}
use Rattle.shard.specs.Effects.{IsWithout}
use Rattle.shard.proofs.in_code.Standing.{is_quiet}
use Rattle.shard.proofs.in_code.InPlace.{with_transactions, with_both, step_in_place, step_forgetting, stands_so}

-- a part of an unknown transaction is prepared
pub prepares : (top : TopologyValue) (me n : ℕ) (k : ShardKept) (held ts : TransactionsValue) (ns : VoterList) (a : ShardState) (p : WritePart) (before after : List Envelope)
    → Represents top me k a → AreApart (on_prepare top me n a p.writer.txn p.batch p.writer.shard).state.applied
    → state_of k.transactions.ledger p.writer.txn ≡ None
    → Becomes p.writer.txn (Some (Holds (in_open.Part (cohorts_part p n)))) k.transactions.ledger held.ledger → held.store ≡ k.transactions.store → held.early ≡ k.transactions.early
    → ts.ledger ≡ held.ledger → ts.store ≡ held.store → IsWithout p.writer.txn held.early ts.early → IsWithout p.writer.txn k.notices ns
    → after ≡ before ++ envelope me (shard_node top (dc_of top me) p.writer.shard) n (Yes p.writer.txn) ∷ []
    → IsStep top me (on_prepare top me n a p.writer.txn p.batch p.writer.shard) (with_both k ts ns n) before after
prepares top me n k held ts ns a p before after r apart unknown becomes store early same_ledger same_store forgotten notices sends =
    let h = stands_so top me k a p.writer.txn None r unknown in
    let is = prepare_unknown top me n a p.writer.txn p.batch p.writer.shard h in
    subst (λ (s : ShardStep). IsStep top me s (with_both k ts ns n) before after) (sym is)
    (step_forgetting top me n p.writer.txn (Holds (in_open.Part (cohorts_part p n))) k held ts ns a (prepare_part top me n a p.writer.txn p.batch p.writer.shard Cohort) before after r becomes store early same_ledger same_store forgotten notices
    (cohort_prepares top me n a (cohorts_part p n) h.unled h.prepared h.applied refl (λ x e. absurd (let f : Some x ≡ None = sym e ∙ h.kept_part in cc)))
    refl refl (subst (λ (s : ShardStep). AreApart s.state.applied) is apart) sends)

-- ## Parts of other data centres' writes

-- a part of an unknown transaction is kept
pub keeps_part : (top : TopologyValue) (me n : ℕ) (k : ShardKept) (held ts : TransactionsValue) (ns : VoterList) (a : ShardState) (h : in_write.ReplicatedPart) (before after : List Envelope)
    → Represents top me k a → AreApart (on_repl_part top me n a (kept_part_of h)).state.applied
    → state_of k.transactions.ledger h.part.writer.txn ≡ None
    → Becomes h.part.writer.txn (Some (Holds (in_open.Kept h))) k.transactions.ledger held.ledger → held.store ≡ k.transactions.store → held.early ≡ k.transactions.early
    → ts.ledger ≡ held.ledger → ts.store ≡ held.store → IsWithout h.part.writer.txn held.early ts.early → IsWithout h.part.writer.txn k.notices ns
    → after ≡ before ++ envelope me (shard_node top (dc_of top me) h.part.writer.shard) n (Notify h.part.writer.txn) ∷ []
    → IsStep top me (on_repl_part top me n a (kept_part_of h)) (with_both k ts ns n) before after
keeps_part top me n k held ts ns a h before after r apart unknown becomes store early same_ledger same_store forgotten notices sends =
    let u = stands_so top me k a h.part.writer.txn None r unknown in
    let is = repl_part_unknown top me n a (kept_part_of h) u in
    subst (λ (s : ShardStep). IsStep top me s (with_both k ts ns n) before after) (sym is)
    (step_forgetting top me n h.part.writer.txn (Holds (in_open.Kept h)) k held ts ns a
    (answer n (record a { kept_parts = a.kept_parts ++ kept_part_of h ∷ [] }) (envelope me (shard_node top (dc_of top me) h.part.writer.shard) n (Notify h.part.writer.txn)))
    before after r becomes store early same_ledger same_store forgotten notices (part_is_kept top me n a h u) refl refl (subst (λ (s : ShardStep). AreApart s.state.applied) is apart) sends)

-- one of a known transaction is dropped
pub drops_part : (top : TopologyValue) (me n : ℕ) (k : ShardKept) (a : ShardState) (h : in_write.ReplicatedPart) (before : List Envelope)
    → Represents top me k a → is_some (state_of k.transactions.ledger h.part.writer.txn) ≡ true
    → IsStep top me (on_repl_part top me n a (kept_part_of h)) (record k { clock = n }) before before
drops_part top me n k a h before r known =
    is_quiet top me n k a (on_repl_part top me n a (kept_part_of h)) before r
    (ap (λ (b : Bool). repl_part_if b top me n a (kept_part_of h)) (known_if top me h.part.writer.txn a (state_of k.transactions.ledger h.part.writer.txn) (r.stands h.part.writer.txn) ∙ known))

-- what is under way is what is known
pub known_open : (s : Option State) (o : Open) → open_in s ≡ Some o → s ≡ Some (Holds o)
known_open None o e = absurd (cc)
known_open (Some (Holds held)) o e = let same : held ≡ o = cc in ap (λ (x : Open). Some (Holds x)) same
known_open (Some IsApplied) o e = absurd (cc)
known_open (Some (IsDecided commit stamp)) o e = absurd (cc)

replica_prepares : (top : TopologyValue) (me n : ℕ) (k : ShardKept) (ts : TransactionsValue) (a : ShardState) (h : in_write.ReplicatedPart) (before after : List Envelope)
    → Represents top me k a → AreApart (on_prepare_remote top me n a h.part.writer.txn).state.applied
    → open_in (state_of k.transactions.ledger h.part.writer.txn) ≡ Some (in_open.Kept h)
    → Becomes h.part.writer.txn (state_prepared n (state_of k.transactions.ledger h.part.writer.txn)) k.transactions.ledger ts.ledger → ts.store ≡ k.transactions.store → ts.early ≡ k.transactions.early
    → after ≡ before ++ envelope me (shard_node top (dc_of top me) h.part.writer.shard) n (Yes h.part.writer.txn) ∷ []
    → IsStep top me (on_prepare_remote top me n a h.part.writer.txn) (with_transactions k ts n) before after
replica_prepares top me n k ts a h before after r apart held becomes store early sends =
    let known = known_open (state_of k.transactions.ledger h.part.writer.txn) (in_open.Kept h) held in
    let u = stands_so top me k a h.part.writer.txn (Some (Holds (in_open.Kept h))) r known in
    let is = prepare_remote_kept top me n a h.part.writer.txn h u in
    subst (λ (s : ShardStep). IsStep top me s (with_transactions k ts n) before after) (sym is)
    (step_in_place top me n h.part.writer.txn (Holds (in_open.Part (replica_of h n))) k ts a (prepare_part top me n a h.part.writer.txn h.part.batch h.part.writer.shard Replica) before after r (ap (λ (s : Option State). is_some s) known)
    (subst (λ (s : Option State). Becomes h.part.writer.txn (state_prepared n s) k.transactions.ledger ts.ledger) known becomes) store early
    (kept_is_prepared top me n a h u) refl refl (subst (λ (s : ShardStep). AreApart s.state.applied) is apart) sends)

-- a part that is kept is prepared
pub prepares_kept : (top : TopologyValue) (me n : ℕ) (k : ShardKept) (ts : TransactionsValue) (a : ShardState) (t : TxnValue) (h : in_write.ReplicatedPart) (before after : List Envelope)
    → Represents top me k a → h.part.writer.txn ≡ t → AreApart (on_prepare_remote top me n a t).state.applied
    → open_in (state_of k.transactions.ledger t) ≡ Some (in_open.Kept h)
    → Becomes t (state_prepared n (state_of k.transactions.ledger t)) k.transactions.ledger ts.ledger → ts.store ≡ k.transactions.store → ts.early ≡ k.transactions.early
    → after ≡ before ++ envelope me (shard_node top (dc_of top me) h.part.writer.shard) n (Yes t) ∷ []
    → IsStep top me (on_prepare_remote top me n a t) (with_transactions k ts n) before after
prepares_kept top me n k ts a t h before after r own apart held becomes store early sends =
    subst (λ (u : TxnValue).
    AreApart (on_prepare_remote top me n a u).state.applied
    → open_in (state_of k.transactions.ledger u) ≡ Some (in_open.Kept h)
    → Becomes u (state_prepared n (state_of k.transactions.ledger u)) k.transactions.ledger ts.ledger
    → after ≡ before ++ envelope me (shard_node top (dc_of top me) h.part.writer.shard) n (Yes u) ∷ []
    → IsStep top me (on_prepare_remote top me n a u) (with_transactions k ts n) before after)
    own (λ p e b f. replica_prepares top me n k ts a h before after r p e b store early f) apart held becomes sends

-- whether it is a part that is kept
abbrev pub is_kept_open : Option Open → Bool
is_kept_open None = false
is_kept_open (Some (in_open.Kept h)) = true
is_kept_open (Some (in_open.Part p)) = false
is_kept_open (Some (in_open.Led l)) = false
is_kept_open (Some (in_open.Remote r)) = false

none_kept : (s : Option State) → is_kept_open (open_in s) ≡ false → is_kept s ≡ false
none_kept None e = refl
none_kept (Some (Holds (in_open.Kept h))) e = e
none_kept (Some (Holds (in_open.Part p))) e = refl
none_kept (Some (Holds (in_open.Led l))) e = refl
none_kept (Some (Holds (in_open.Remote r))) e = refl
none_kept (Some IsApplied) e = refl
none_kept (Some (IsDecided commit stamp)) e = refl

-- without one the clock alone moves
pub prepares_nothing : (top : TopologyValue) (me n : ℕ) (k : ShardKept) (a : ShardState) (t : TxnValue) (before : List Envelope)
    → Represents top me k a → is_kept_open (open_in (state_of k.transactions.ledger t)) ≡ false
    → IsStep top me (on_prepare_remote top me n a t) (record k { clock = n }) before before
prepares_nothing top me n k a t before r e =
    is_quiet top me n k a (on_prepare_remote top me n a t) before r (prepare_remote_ignored top me n a t (state_of k.transactions.ledger t) (r.stands t) (none_kept (state_of k.transactions.ledger t) e))

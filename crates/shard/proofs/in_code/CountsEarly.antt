-- The step of a notice or an answer that isn't the last missing thing of a ballot, or of none.
use Rattle.std.proofs.Common.{◌≡◌, ◌∙◌, sym, ap, subst, refl, ℕ, Bool, true, false, List, [], Option, Some, None, is_some, append-nil}
use Rattle.std.specs.Prelude.{◌==◌, if◌then◌else◌}
use Rattle.logical_time.specs.Stamps.{TxnValue}
use Rattle.column_family.proofs.Options.{by_cases}
use Rattle.store.specs.Keeps.{AreApart, Keeps}
use Rattle.txn_state.specs.RemoteBallot.{missing_in}
use Rattle.messages.specs.declared.envelope.Envelope.{Envelope}
use Rattle.messages.specs.Topology.{TopologyValue}
use Rattle.messages.specs.Words.{is_same_txn}
use Rattle.messages.specs.Shard.{ShardState}
use Rattle.write_txn.specs.declared.open.Missing.{Missing}
use Rattle.write_txn.specs.declared.open.Open.TheVariants as in_open
use Rattle.write_txn.specs.declared.open.Remote.{Remote}
use Rattle.write_txn.specs.Ledger.{State, Holds, IsApplied, IsDecided, LedgerValue, state_of, open_in, Becomes, remote_with, state_with, lacks_nothing}
use Rattle.write_txn.specs.Transactions.{TransactionsValue}
use Rattle.write_txn.specs.Stands.{kept_ballot_of}
use Rattle.write_txn.specs.Voters.{VoterList, voters_of}
use Rattle.write_txn.proofs.Finds.{found_ballot, same_txn}
use Rattle.write_txn.proofs.Txns.{by_txn}
use Rattle.write_txn.proofs.Unready.{unready_state, none_complete}
use Rattle.shard.specs.declared.kept.ShardKept.{ShardKept}
use Rattle.shard.specs.Kept.{Represents, IsStep}
use Rattle.shard.specs.Concluding.{IsUnderWay}
use Rattle.shard.specs.Effects.{IsWithout}
use Rattle.shard.specs.Counting.{IsInTime, on_missing}
use Rattle.shard.proofs.in_code.InPlace.{stands_so}
use Rattle.shard.proofs.in_code.NoticeSteps.{is_remote_open, missing_passes, missing_so}
use Rattle.shard.proofs.in_code.Standing.{spared}

-- what stays of one transaction stays of all
same_states : (t : TxnValue) (l m : LedgerValue) → Becomes t (state_of l t) l m → (u : TxnValue) → state_of m u ≡ state_of l u
same_states t l m becomes u =
    becomes u ∙ by_txn t u
    (λ is e. ap (λ (b : Bool). if b then state_of l t else state_of l u) e ∙ ap (state_of l) is)
    (λ e. ap (λ (b : Bool). if b then state_of l t else state_of l u) e)

-- what has no voter of a transaction is as it is without it
without : (t : TxnValue) (es : VoterList) → voters_of es t ≡ [] → IsWithout t es es
without t es none u = by_cases (is_same_txn t u)
    (λ yes. subst (λ (v : TxnValue). voters_of es v ≡ []) (same_txn t u yes) none ∙ sym (ap (λ (b : Bool). if b then [] else voters_of es u) yes))
    (λ no. sym (ap (λ (b : Bool). if b then [] else voters_of es u) no))

module _ (missing : Missing) (top : TopologyValue) (me n : ℕ) (t : TxnValue) (k : ShardKept) (ts : TransactionsValue) (a : ShardState) (before : List Envelope)
    (r : Represents top me k a) (in_time : IsInTime missing (state_of k.transactions.ledger t)) (apart : AreApart (on_missing missing top me n a t).state.applied)
    (store : ts.store ≡ k.transactions.store) (early : ts.early ≡ k.transactions.early) where
  abbrev counted : ShardKept
  counted = record k { transactions = ts }

  -- where none waits, nothing is counted
  none_counted : (o : Option State) → state_of k.transactions.ledger t ≡ o → state_with missing o ≡ o → is_remote_open (open_in o) ≡ false
      → Becomes t (state_with missing (state_of k.transactions.ledger t)) k.transactions.ledger ts.ledger
      → IsStep top me (on_missing missing top me n a t) (record k { transactions = ts; clock = n }) before before
  none_counted o is same other becomes =
      let stays : Becomes t (state_of k.transactions.ledger t) k.transactions.ledger ts.ledger = subst (λ (s : Option State). Becomes t s k.transactions.ledger ts.ledger) (ap (state_with missing) is ∙ same ∙ sym is) becomes in
      let states = same_states t k.transactions.ledger ts.ledger stays in
      let goes = spared k counted (record {
        place = refl;
        clock = refl;
        low = ap (λ s. s.low) store;
        states = states;
        store = λ all keeps. subst (λ s. Keeps s all) (sym store) keeps;
        early = λ u. ap (λ (vs : VoterList). voters_of vs u) early;
        notices = λ u. refl;
        askers = λ u. refl;
        waiting = refl;
      }) in
      missing_passes missing top me n counted a t before (goes top me a r) (subst (IsInTime missing) (sym (states t)) in_time) (ap (λ (s : Option State). is_remote_open (open_in s)) (states t ∙ is) ∙ other)

  remote_counted : (b : Remote) → state_of k.transactions.ledger t ≡ Some (Holds (in_open.Remote b)) → (missing_in (remote_with b missing).ballot == 0) ≡ false
      → Becomes t (state_with missing (state_of k.transactions.ledger t)) k.transactions.ledger ts.ledger
      → IsStep top me (on_missing missing top me n a t) (record k { transactions = ts; clock = n }) before before
  remote_counted b is more becomes =
      let h = stands_so top me k a t (Some (Holds (in_open.Remote b))) r is in
      let known : is_some (state_of k.transactions.ledger t) ≡ true = ap (λ (o : Option State). is_some o) is in
      let s = state_with missing (state_of k.transactions.ledger t) in
      let waits : lacks_nothing s ≡ false = ap (λ (o : Option State). lacks_nothing (state_with missing o)) is ∙ more in
      let under_way : IsUnderWay t n counted (record k { transactions = ts; clock = n }) = record {
        place = refl;
        clock = refl;
        ledger = refl;
        store = refl;
        early = without t ts.early (ap (λ (vs : VoterList). voters_of vs t) early ∙ r.early_forgotten t known);
        notices = without t k.notices (r.notices_forgotten t known);
        askers = refl;
        waiting = refl;
      } in
      missing_so missing top me n n t b k k.transactions ts b.ballot.stamp false None (record k { transactions = ts; clock = n }) a before [] before
      refl (found_ballot a.kept_ballots t (kept_ballot_of b) h.0.kept_ballot) (ap open_in is) refl (sym more)
      r apart (record { low = refl; keeps = λ all keeps. keeps }) refl refl
      (subst (λ (o : Option State). Becomes t o k.transactions.ledger ts.ledger) (sym (unready_state n s waits)) becomes) store early
      (sym (none_complete n s waits)) under_way (λ undecided there. refl) (sym (append-nil before))

  by_state : (o : Option State) → state_of k.transactions.ledger t ≡ o → lacks_nothing (state_with missing o) ≡ false
      → Becomes t (state_with missing (state_of k.transactions.ledger t)) k.transactions.ledger ts.ledger
      → IsStep top me (on_missing missing top me n a t) (record k { transactions = ts; clock = n }) before before
  by_state None is more becomes = none_counted None is refl refl becomes
  by_state (Some (Holds (in_open.Kept h))) is more becomes = none_counted (Some (Holds (in_open.Kept h))) is refl refl becomes
  by_state (Some (Holds (in_open.Part p))) is more becomes = none_counted (Some (Holds (in_open.Part p))) is refl refl becomes
  by_state (Some (Holds (in_open.Led l))) is more becomes = none_counted (Some (Holds (in_open.Led l))) is refl refl becomes
  by_state (Some (Holds (in_open.Remote b))) is more becomes = remote_counted b is more becomes
  by_state (Some IsApplied) is more becomes = none_counted (Some IsApplied) is refl refl becomes
  by_state (Some (IsDecided commit stamp)) is more becomes = none_counted (Some (IsDecided commit stamp)) is refl refl becomes

-- what isn't the last missing thing is counted, if a ballot waits for it, and nothing is sent
pub counts_early : (missing : Missing) (top : TopologyValue) (me n : ℕ) (t : TxnValue) (k : ShardKept) (ts : TransactionsValue) (a : ShardState) (before : List Envelope)
    → Represents top me k a → IsInTime missing (state_of k.transactions.ledger t) → AreApart (on_missing missing top me n a t).state.applied
    → ts.store ≡ k.transactions.store → ts.early ≡ k.transactions.early → lacks_nothing (state_with missing (state_of k.transactions.ledger t)) ≡ false
    → Becomes t (state_with missing (state_of k.transactions.ledger t)) k.transactions.ledger ts.ledger
    → IsStep top me (on_missing missing top me n a t) (record k { transactions = ts; clock = n }) before before
counts_early missing top me n t k ts a before r in_time apart store early more becomes =
    by_state missing top me n t k ts a before r in_time apart store early (state_of k.transactions.ledger t) refl more becomes

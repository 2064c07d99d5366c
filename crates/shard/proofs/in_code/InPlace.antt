-- Steps by which one transaction comes to stand otherwise, and nothing is applied or let go.
use Rattle.std.proofs.Common.{◌≡◌, ◌∙◌, sym, ap, subst, refl, ℕ, Bool, true, false, if◌then◌else◌, List, [], ◌++◌, Option, Some, None, is_some, Result, Ok, Err, OnOk}
use Rattle.logical_time.specs.Stamps.{TxnValue}
use Rattle.store.specs.Keeps.{Keeps, AreApart}
use Rattle.store.specs.Stored as in_store
use Rattle.messages.specs.declared.envelope.Envelope.{Envelope}
use Rattle.messages.specs.Topology.{TopologyValue}
use Rattle.messages.specs.Shard.{ShardState, ShardStep}
use Rattle.write_txn.specs.Ledger.{LedgerValue, State, state_of, Becomes, HaveSameStates}
use Rattle.write_txn.specs.View.{view_of}
use Rattle.write_txn.specs.Stands.{Stands}
use Rattle.write_txn.specs.Moves.{Moves}
use Rattle.write_txn.specs.Voters.{VoterList, voters_of}
use Rattle.write_txn.specs.Transactions.{TransactionsValue}
use Rattle.write_txn.proofs.Finds.{own_txn}
use Rattle.shard.specs.declared.kept.ShardKept.{ShardKept}
use Rattle.shard.specs.Kept.{Represents, IsStep, GoesOn}
use Rattle.shard.specs.Effects.{IsWithout, IsAfter}
use Rattle.shard.proofs.in_code.Standing.{spared, moved}

-- what is kept with these transactions, at this clock
abbrev pub with_transactions : ShardKept → TransactionsValue → ℕ → ShardKept
with_transactions k ts n = record k { clock = n; transactions = ts }

-- a transaction that is known comes to stand so
pub after_in_place : (t : TxnValue) (s : State) (n : ℕ) (k : ShardKept) (ts : TransactionsValue) → is_some (state_of k.transactions.ledger t) ≡ true → Becomes t (Some s) k.transactions.ledger ts.ledger → ts.store ≡ k.transactions.store → ts.early ≡ k.transactions.early
    → IsAfter t s None n k.waiting k (with_transactions k ts n)
after_in_place t s n k ts known becomes store early = record {
  place = refl;
  clock = refl;
  low = ap (λ (x : in_store.StoreValue). x.low) store;
  state = becomes;
  store = λ all keeps. subst (λ x. Keeps x all) (sym store) keeps;
  early = λ u e. ap (λ v. voters_of v u) early;
  notices = λ u e. refl;
  own_early = λ gone. ap (λ v. voters_of v t) early ∙ gone known;
  own_notices = λ gone. gone known;
  askers = λ u e. refl;
  own_askers = λ e. refl;
  waiting = refl;
}

-- what is kept with these transactions and these notices, at this clock
abbrev pub with_both : ShardKept → TransactionsValue → VoterList → ℕ → ShardKept
with_both k ts ns n = record k { clock = n; transactions = ts; notices = ns }

-- a transaction comes to stand so, and what came early of it is forgotten
pub after_forgetting : (t : TxnValue) (s : State) (n : ℕ) (k : ShardKept) (held ts : TransactionsValue) (ns : VoterList)
    → Becomes t (Some s) k.transactions.ledger held.ledger → held.store ≡ k.transactions.store → held.early ≡ k.transactions.early
    → ts.ledger ≡ held.ledger → ts.store ≡ held.store → IsWithout t held.early ts.early → IsWithout t k.notices ns
    → IsAfter t s None n k.waiting k (with_both k ts ns n)
after_forgetting t s n k held ts ns becomes store early same_ledger same_store forgotten notices = record {
  place = refl;
  clock = refl;
  low = ap (λ (x : in_store.StoreValue). x.low) (same_store ∙ store);
  state = λ u. ap (λ (l : LedgerValue). state_of l u) same_ledger ∙ becomes u;
  store = λ all keeps. subst (λ (x : in_store.StoreValue). Keeps x all) (sym (same_store ∙ store)) keeps;
  early = λ u other. forgotten u ∙ (ap (λ (b : Bool). if b then [] else voters_of held.early u) other ∙ ap (λ (es : VoterList). voters_of es u) early);
  notices = λ u other. notices u ∙ ap (λ (b : Bool). if b then [] else voters_of k.notices u) other;
  own_early = λ gone. forgotten t ∙ ap (λ (b : Bool). if b then [] else voters_of held.early t) (own_txn t);
  own_notices = λ gone. notices t ∙ ap (λ (b : Bool). if b then [] else voters_of k.notices t) (own_txn t);
  askers = λ u e. refl;
  own_askers = λ e. refl;
  waiting = refl;
}

-- the step of a transaction that comes to stand so in place
pub moves_so : (top : TopologyValue) (me n : ℕ) (t : TxnValue) (s : State) (k : ShardKept) (ts : TransactionsValue) (a b : ShardState)
    → Represents top me k a → is_some (state_of k.transactions.ledger t) ≡ true → Becomes t (Some s) k.transactions.ledger ts.ledger → ts.store ≡ k.transactions.store → ts.early ≡ k.transactions.early
    → Moves top me t (Some s) [] a b → b.clock ≡ n → b.waiting ≡ a.waiting → AreApart b.applied
    → Represents top me (with_transactions k ts n) b
moves_so top me n t s k ts a b r known becomes store early m clock waiting apart =
    moved top me n t s None k.waiting k (with_transactions k ts n) a b r (after_in_place t s n k ts known becomes store early) m clock (waiting ∙ r.waiting) apart

-- where the transactions stay, all goes on
pub goes_on : (k : ShardKept) (ts : TransactionsValue) → HaveSameStates k.transactions.ledger ts.ledger → ts.store ≡ k.transactions.store → ts.early ≡ k.transactions.early
    → GoesOn k (record k { transactions = ts })
goes_on k ts states store early = spared k (record k { transactions = ts }) (record {
  place = refl;
  clock = refl;
  low = ap (λ (x : in_store.StoreValue). x.low) store;
  states = states;
  store = λ all keeps. subst (λ x. Keeps x all) (sym store) keeps;
  early = λ u. ap (λ v. voters_of v u) early;
  notices = λ u. refl;
  askers = λ u. refl;
  waiting = refl;
})

-- the step of a call by which a transaction comes to stand so in place
pub step_in_place : (top : TopologyValue) (me n : ℕ) (t : TxnValue) (s : State) (k : ShardKept) (ts : TransactionsValue) (a : ShardState) (step : ShardStep) (before after : List Envelope)
    → Represents top me k a → is_some (state_of k.transactions.ledger t) ≡ true → Becomes t (Some s) k.transactions.ledger ts.ledger → ts.store ≡ k.transactions.store → ts.early ≡ k.transactions.early
    → Moves top me t (Some s) [] a step.state → step.state.clock ≡ n → step.state.waiting ≡ a.waiting → AreApart step.state.applied → after ≡ before ++ step.sends
    → IsStep top me step (with_transactions k ts n) before after
step_in_place top me n t s k ts a step before after r known becomes store early m clock waiting apart sends =
    record { state = moves_so top me n t s k ts a step.state r known becomes store early m clock waiting apart; sends = sends }

-- the step of a call by which a transaction comes to stand so, and what came early of it is forgotten
pub step_forgetting : (top : TopologyValue) (me n : ℕ) (t : TxnValue) (s : State) (k : ShardKept) (held ts : TransactionsValue) (ns : VoterList) (a : ShardState) (step : ShardStep) (before after : List Envelope)
    → Represents top me k a → Becomes t (Some s) k.transactions.ledger held.ledger → held.store ≡ k.transactions.store → held.early ≡ k.transactions.early
    → ts.ledger ≡ held.ledger → ts.store ≡ held.store → IsWithout t held.early ts.early → IsWithout t k.notices ns
    → Moves top me t (Some s) [] a step.state → step.state.clock ≡ n → step.state.waiting ≡ a.waiting → AreApart step.state.applied → after ≡ before ++ step.sends
    → IsStep top me step (with_both k ts ns n) before after
step_forgetting top me n t s k held ts ns a step before after r becomes store early same_ledger same_store forgotten notices m clock waiting apart sends = record {
  state = moved top me n t s None k.waiting k (with_both k ts ns n) a step.state r (after_forgetting t s n k held ts ns becomes store early same_ledger same_store forgotten notices) m clock (waiting ∙ r.waiting) apart;
  sends = sends;
}

-- how a transaction stands whose state is this
pub stands_so : (top : TopologyValue) (me : ℕ) (k : ShardKept) (a : ShardState) (t : TxnValue) (o : Option State) → Represents top me k a → state_of k.transactions.ledger t ≡ o → Stands top me t (view_of t a) o
stands_so top me k a t o r e = subst (Stands top me t (view_of t a)) e (r.stands t)

-- what follows from what a success gives
pub on_ok : {A E P Q : Type 0} (r : Result A E) → (P → Q) → OnOk r P → OnOk r Q
on_ok (Ok x) f p = f p
on_ok (Err e) f p = tt

pub nothing_known : (o : Option State) → is_some o ≡ false → o ≡ None
nothing_known None e = refl
nothing_known (Some s) e = absurd (cc)

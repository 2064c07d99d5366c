-- What a shard does at its events is the machine's step.
use Rattle.std.proofs.Common.{◌≡◌, ◌∙◌, sym, ap, subst, refl, ℕ, ◌+◌, ◌^◌, ◌<◌, max, Bool, true, false, nat_lt, List, [], ◌∷◌, ◌++◌, Option, Some, None, is_some, Result, Ok, Err, arith}
use Rattle.std.specs.Prelude.{if◌then◌else◌, OnOk, OnErr, IfErr}
use Rattle.std.proofs.lemmas.Bool.Decides.{nat_tests}
use Rattle.logical_time.specs.declared.fault.Fault.{Fault}
use Rattle.logical_time.specs.Stamps.{TxnValue}
use Rattle.store.specs.declared.part.Applied.{Applied}
use Rattle.store.specs.Keeps.{Keeps}
use Rattle.dependencies.specs.Askers.{askers_of}
use Rattle.messages.specs.declared.envelope.Envelope.{Envelope}
use Rattle.messages.specs.Topology.{TopologyValue}
use Rattle.messages.specs.Place.{IsPlace}
use Rattle.messages.specs.Clock.{ticked, on_clock}
use Rattle.messages.specs.Shard.{ShardState, ShardStep, new_shard}
use Rattle.messages.specs.ShardEvents.{handled, shard_handle, collected}
use Rattle.messages.specs.declared.event.ActorEvent.{ActorEvent}
use Rattle.messages.specs.declared.event.ActorEvent.TheVariants.{Collect}
use Rattle.write_txn.specs.Ledger.{state_of}
use Rattle.write_txn.specs.Voters.{voters_of}
use Rattle.write_txn.specs.View.{view_of}
use Rattle.write_txn.specs.Stands.{Stands}
use Rattle.shard.specs.declared.kept.ShardKept.{ShardKept}
use Rattle.shard.specs.Events.{ShardRun, fresh_shard, after_step, after_event, shard_run}
use Rattle.shard.proofs.steps.Handles.{run_push}
use Rattle.shard.specs.Kept.{Represents, IsStepOf, IsRefusalOf, IsSpentOrMemory, Does}

-- ## Before the first event

pub opens : (top : TopologyValue) (me : ℕ) (k : ShardKept) → IsPlace top me k.place → k.clock ≡ 0 → ((t : TxnValue) → state_of k.transactions.ledger t ≡ None)
    → Keeps k.transactions.store [] → k.transactions.store.low ≡ 0 → ((t : TxnValue) → voters_of k.transactions.early t ≡ [])
    → ((t : TxnValue) → voters_of k.notices t ≡ []) → ((t : TxnValue) → askers_of k.askers t ≡ []) → k.waiting ≡ []
    → Represents top me k new_shard
opens top me k place clock unknown keeps low early notices askers waiting = record {
  place = place;
  clock = sym clock;
  low = sym low;
  store = keeps;
  stands = λ t. subst (Stands top me t (view_of t new_shard)) (sym (unknown t)) (record {
    unled = record { ballot = refl; kept_ballot = refl; decision = refl };
    prepared = refl;
    kept_part = refl;
    applied = refl;
    votes = refl;
    met = refl;
  });
  early = λ t e. early t;
  notices = λ t e. notices t;
  early_forgotten = λ t e. early t;
  notices_forgotten = λ t e. notices t;
  askers = λ t e. askers t;
  waiting = sym waiting;
  once = tt;
  kept_once = tt;
}

-- ## The clock of an event

-- a clock that doesn't leave its range ticks
ticks : (clock time : ℕ) → max clock time + 1 < 2 ^ 48 → ticked clock time ≡ Some (max clock time + 1)
ticks clock time lt = go (nat_lt (max clock time + 1) (2 ^ 48)) (grind (arith, nat_tests))
  where
    go : (b : Bool) → b ≡ true → (if b then Some (max clock time + 1) else None) ≡ Some (max clock time + 1)
    go true h = refl
    go false h = absurd (cc)

-- ## Results

pub both_ok : {T E P Q R : Type 0} (o : Result T E) → (P → Q → R) → OnOk o P → OnOk o Q → OnOk o R
both_ok (Ok x) f p q = f p q
both_ok (Err e) f p q = tt

pub on_err : {T E P Q : Type 0} (o : Result T E) → (P → Q) → OnErr o P → OnErr o Q
on_err (Ok x) f p = tt
on_err (Err e) f p = f p

pub if_err : {T E : Type 0} {P Q : E → Type 0} (o : Result T E) → ((e : E) → P e → Q e) → IfErr o P → IfErr o Q
if_err (Ok x) f h = h
if_err (Err e) f h = f e h

-- ## An envelope

pub handles : (k l : ShardKept) (e : Envelope) (before after : List Envelope) → max k.clock e.time + 1 < 2 ^ 48
    → Does (λ top me a. handled top me (max k.clock e.time + 1) a e.from e.body) k l before after
    → (top : TopologyValue) (me : ℕ) (a : ShardState) → Represents top me k a → IsStepOf top me (shard_handle top me a e) l before after
handles k l e before after lt does top me a r =
    subst (λ clock. IsStepOf top me (on_clock (ticked clock e.time) (λ n. handled top me n a e.from e.body)) l before after) (sym r.clock)
    (subst (λ t. IsStepOf top me (on_clock t (λ n. handled top me n a e.from e.body)) l before after) (sym (ticks k.clock e.time lt)) (does top me a r))

refused_on : (t : Option ℕ) (f : Fault) (step : ℕ → ShardStep) → IsSpentOrMemory t f → IsRefusalOf (on_clock t step) f
refused_on None f step h = h
refused_on (Some n) f step h = h

pub refuses : (k : ShardKept) (e : Envelope) (f : Fault) → IsSpentOrMemory (ticked k.clock e.time) f → (top : TopologyValue) (me : ℕ) (a : ShardState) → Represents top me k a
    → IsRefusalOf (shard_handle top me a e) f
refuses k e f h top me a r =
    refused_on (ticked a.clock e.time) f (λ n. handled top me n a e.from e.body) (subst (λ clock. IsSpentOrMemory (ticked clock e.time) f) (sym r.clock) h)

-- ## A collection

-- what the horizon and the clock become stands for the machine's state
collects_at : (n : ℕ) (k l : ShardKept) (time : ℕ) → l.place ≡ k.place → l.clock ≡ n → l.transactions.store.low ≡ max k.transactions.store.low time
    → ((all : List Applied) → Keeps k.transactions.store all → Keeps l.transactions.store all) → l.transactions.ledger ≡ k.transactions.ledger
    → l.transactions.early ≡ k.transactions.early → l.notices ≡ k.notices → l.askers ≡ k.askers → l.waiting ≡ k.waiting
    → (top : TopologyValue) (me : ℕ) (a : ShardState) → Represents top me k a → Represents top me l (collected n a time).state
collects_at n k l time place clock low keeps ledger early notices askers waiting top me a r = record {
  place = subst (IsPlace top me) (sym place) r.place;
  clock = sym clock;
  low = ap (λ m. max m time) r.low ∙ sym low;
  store = keeps a.applied r.store;
  stands = λ t. subst (λ x. Stands top me t (view_of t a) (state_of x t)) (sym ledger) (r.stands t);
  early = λ t e. ap (λ x. voters_of x t) early ∙ r.early t (ap (λ x. state_of x t) (sym ledger) ∙ e);
  notices = λ t e. ap (λ x. voters_of x t) notices ∙ r.notices t (ap (λ x. state_of x t) (sym ledger) ∙ e);
  early_forgotten = λ t e. ap (λ x. voters_of x t) early ∙ r.early_forgotten t (ap (λ x. is_some (state_of x t)) (sym ledger) ∙ e);
  notices_forgotten = λ t e. ap (λ x. voters_of x t) notices ∙ r.notices_forgotten t (ap (λ x. is_some (state_of x t)) (sym ledger) ∙ e);
  askers = λ t e. ap (λ x. askers_of x t) askers ∙ r.askers t e;
  waiting = r.waiting ∙ sym waiting;
  once = r.once;
  kept_once = r.kept_once;
}

-- a shard whose horizon and clock become so goes on to the run's state
pub collects : (n : ℕ) (k l : ShardKept) (time : ℕ) → n ≡ max k.clock k.clock + 1 → n < 2 ^ 48 → l.place ≡ k.place → l.clock ≡ n → l.transactions.store.low ≡ max k.transactions.store.low time
    → ((all : List Applied) → Keeps k.transactions.store all → Keeps l.transactions.store all) → l.transactions.ledger ≡ k.transactions.ledger
    → l.transactions.early ≡ k.transactions.early → l.notices ≡ k.notices → l.askers ≡ k.askers → l.waiting ≡ k.waiting
    → (top : TopologyValue) (me : ℕ) (before : List ActorEvent) → Represents top me k (shard_run top me before).state
    → Represents top me l (shard_run top me (before ++ Collect time ∷ [])).state
collects n k l time same lt place clock low keeps ledger early notices askers waiting top me before r =
    subst (λ (w : ShardRun). Represents top me l w.state) (sym (run_push top me fresh_shard before (Collect time) ∙ next (shard_run top me before) r.clock))
    (collects_at n k l time place clock low keeps ledger early notices askers waiting top me (shard_run top me before).state r)
  where
    next : (w : ShardRun) → w.state.clock ≡ k.clock → after_event top me w (Collect time) ≡ after_step (Ok (collected n w.state time)) w (Collect time)
    next w is = ap (λ o. after_step o w (Collect time)) (
        ap (λ c. on_clock (ticked c c) (λ m. collected m w.state time)) is
        ∙ (ap (λ t. on_clock t (λ m. collected m w.state time)) (ticks k.clock k.clock (subst (λ m. m < 2 ^ 48) same lt))
        ∙ ap (λ m. Ok (collected m w.state time)) (sym same)))

-- When what the code of a shard keeps stands for a state of the machine, and when a call does the machine's step. The machine
-- keeps everything for good; the code drops what it needs no more.
use Rattle.std.specs.Prelude.{◌≡◌, ℕ, true, List, [], ◌++◌, Option, Some, None, is_some, Result, Ok, Err}
use Rattle.logical_time.specs.Stamps.{TxnValue}
use Rattle.logical_time.specs.declared.fault.Fault.{Fault}
use Rattle.logical_time.specs.declared.fault.Fault.TheVariants.{ClockSpent, Memory}
use Rattle.store.specs.Keeps.{Keeps, AreApart}
use Rattle.dependencies.specs.Askers.{KeepsAskers}
use Rattle.messages.specs.declared.envelope.Envelope.{Envelope}
use Rattle.messages.specs.Topology.{TopologyValue}
use Rattle.messages.specs.Shard.{ShardState, ShardStep}
use Rattle.messages.specs.Known.{AreOnce}
use Rattle.messages.specs.Place.{IsPlace}
use Rattle.write_txn.specs.Ledger.{LedgerValue, state_of}
use Rattle.write_txn.specs.Voters.{VoterList, voters_of}
use Rattle.write_txn.specs.View.{view_of}
use Rattle.write_txn.specs.Stands.{Stands}
use Rattle.shard.specs.declared.kept.ShardKept.{ShardKept}

-- nothing is kept of a known transaction that came early
abbrev pub AreForgotten : VoterList → LedgerValue → Type 0
AreForgotten voters l = (t : TxnValue) → is_some (state_of l t) ≡ true → voters_of voters t ≡ []

-- What is kept stands for this state of the shard with this node.
pub record Represents (top : TopologyValue) (me : ℕ) (k : ShardKept) (a : ShardState) : Type 0 where
  pub place : IsPlace top me k.place
  pub clock : a.clock ≡ k.clock
  pub low : a.low ≡ k.transactions.store.low
  pub store : Keeps k.transactions.store a.applied
  -- each transaction stands as it is known
  pub stands : (t : TxnValue) → Stands top me t (view_of t a) (state_of k.transactions.ledger t)
  -- of unknown transactions the early votes and notices are kept
  pub early : (t : TxnValue) → state_of k.transactions.ledger t ≡ None → voters_of k.transactions.early t ≡ (view_of t a).early
  pub notices : (t : TxnValue) → state_of k.transactions.ledger t ≡ None → voters_of k.notices t ≡ (view_of t a).notices
  -- of known ones they are forgotten
  pub early_forgotten : AreForgotten k.transactions.early k.transactions.ledger
  pub notices_forgotten : AreForgotten k.notices k.transactions.ledger
  -- of undecided transactions those that asked for them
  pub askers : KeepsAskers k.askers a
  pub waiting : a.waiting ≡ k.waiting
  -- of no transaction two parts are prepared, or kept
  pub once : AreOnce (λ p. p.txn) a.prepared
  pub kept_once : AreOnce (λ p. p.txn) a.kept_parts

-- a call did this step of the machine: what is kept then stands for its state, and its envelopes were sent, in order
pub record IsStep (top : TopologyValue) (me : ℕ) (step : ShardStep) (k : ShardKept) (before after : List Envelope) : Type 0 where
  pub state : Represents top me k step.state
  pub sends : after ≡ before ++ step.sends

-- For each state that what is kept stands for, a call does this step of it; where the step applies a part, that is in normal
-- form and its stamp is new.
abbrev pub Does : (TopologyValue → ℕ → ShardState → ShardStep) → ShardKept → ShardKept → List Envelope → List Envelope → Type 0
Does step k l before after = (top : TopologyValue) (me : ℕ) (a : ShardState) → Represents top me k a → AreApart (step top me a).state.applied
    → IsStep top me (step top me a) l before after

-- what is kept stands for each state that it stood for
abbrev pub GoesOn : ShardKept → ShardKept → Type 0
GoesOn k l = (top : TopologyValue) (me : ℕ) (a : ShardState) → Represents top me k a → Represents top me l a

-- a call did this step of the machine, where the step's state has its applied parts apart; where the step is refused, so is
-- the call
abbrev pub IsStepOf : TopologyValue → ℕ → Result ShardStep Fault → ShardKept → List Envelope → List Envelope → Type 0
IsStepOf top me (Ok step) k before after = AreApart step.state.applied → IsStep top me step k before after
IsStepOf top me (Err e) k before after = ⊥

-- a call was refused as the machine's step is, or else for want of memory
abbrev pub IsRefusalOf : Result ShardStep Fault → Fault → Type 0
IsRefusalOf (Ok step) e = e ≡ Memory
IsRefusalOf (Err f) e = e ≡ f

-- an event at this clock was refused because the clock is spent, or else for want of memory
abbrev pub IsSpentOrMemory : Option ℕ → Fault → Type 0
IsSpentOrMemory None e = e ≡ ClockSpent
IsSpentOrMemory (Some n) e = e ≡ Memory

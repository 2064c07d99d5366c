-- When what a session keeps stands for a state of the machine, and when a call does the machine's step.
use Rattle.std.specs.Prelude.{◌≡◌, ℕ, List, [], ◌++◌, Option, Some, None, Result, Ok, Err}
use Rattle.logical_time.specs.declared.fault.Fault.{Fault}
use Rattle.logical_time.specs.declared.fault.Fault.TheVariants.{ClockSpent, Memory}
use Rattle.messages.specs.declared.envelope.Envelope.{Envelope}
use Rattle.messages.specs.Topology.{TopologyValue}
use Rattle.messages.specs.Words.{in_writer_order}
use Rattle.messages.specs.Session.{SessionState, SessionStep}
use Rattle.messages.specs.Rounds.{asked_nodes}
use Rattle.client.specs.declared.kept.SessionKept.{SessionKept}
use Rattle.client.specs.declared.current.Current.{Current}
use Rattle.client.specs.declared.current.Current.TheVariants.{Idle, Write, First, Second, Move}
use Rattle.client.specs.State.{state_of, topology_of}

-- the rounds of a read ask the shards that hold its keys, and begin at the session's floor. A move is to a data centre of the
-- same topology. While an operation is open, all writers stand in order
abbrev pub FitsIn : SessionKept → Current → Type 0
FitsIn k Idle = Unit {0}
FitsIn k (Write coordinator) = k.added ≡ []
FitsIn k (First f) = (k.added ≡ []) × (f.asked ≡ asked_nodes (topology_of k) (state_of k) f.read) × (f.floor ≡ k.floor)
FitsIn k (Second s) = (k.added ≡ []) × (s.asked ≡ asked_nodes (topology_of k) (state_of k) s.read)
FitsIn k (Move home m) = (k.added ≡ []) × (home.dcs ≡ k.home.dcs) × (home.shards ≡ k.home.shards)

-- What is kept stands for this state of the machine, in this topology.
pub record Represents (k : SessionKept) (top : TopologyValue) (a : SessionState) : Type 0 where
  pub topology : top ≡ record top { dcs = k.home.dcs; shards = k.home.shards; schema = k.schema }
  pub state : a ≡ state_of k
  pub current : FitsIn k k.current
  pub ordered : in_writer_order k.dependencies ≡ k.dependencies

-- a call did this step of the machine: what is kept then stands for its state, and its envelopes were sent, in order
pub record IsStep (step : SessionStep) (top : TopologyValue) (k : SessionKept) (before after : List Envelope) : Type 0 where
  pub state : Represents k top step.state
  pub sends : after ≡ before ++ step.sends

abbrev pub IsStepOf : Result SessionStep Fault → TopologyValue → SessionKept → List Envelope → List Envelope → Type 0
IsStepOf (Ok step) top k before after = IsStep step top k before after
IsStepOf (Err e) top k before after = ⊥

-- a call was refused as the machine's step is, or else for want of memory
abbrev pub IsRefusalOf : Result SessionStep Fault → Fault → Type 0
IsRefusalOf (Ok step) e = e ≡ Memory
IsRefusalOf (Err f) e = e ≡ f

-- an event at this clock was refused because the clock is spent, or else for want of memory
abbrev pub IsSpentOrMemory : Option ℕ → Fault → Type 0
IsSpentOrMemory None e = e ≡ ClockSpent
IsSpentOrMemory (Some n) e = e ≡ Memory

-- The events of one shard, and what a list of them makes of it.
use Rattle.std.specs.Prelude.{ℕ, List, [], ◌∷◌, ◌++◌, filter_map, Result, Ok, Err}
use Rattle.logical_time.specs.declared.fault.Fault.{Fault}
use Rattle.messages.specs.declared.envelope.Envelope.{Envelope}
use Rattle.messages.specs.declared.event.ActorEvent.{ActorEvent}
use Rattle.messages.specs.declared.event.ActorEvent.TheVariants.{Submit, Handle, Collect}
use Rattle.messages.specs.Topology.{TopologyValue}
use Rattle.messages.specs.Shard.{ShardState, ShardStep, new_shard}
use Rattle.messages.specs.ShardEvents.{shard_handle, shard_collect}
use Rattle.messages.specs.Actors.{envelope_of}

-- a shard, with the events that weren't refused and all that it sent, oldest first
pub record ShardRun : Type 0 where
  pub events : List ActorEvent
  pub state : ShardState
  pub sent : List Envelope

-- a shard before its first event
abbrev pub fresh_shard : ShardRun
fresh_shard = record { events = []; state = new_shard; sent = [] }

-- a refused event is no event, and changes nothing
abbrev pub after_step : Result ShardStep Fault → ShardRun → ActorEvent → ShardRun
after_step (Err e) w x = w
after_step (Ok s) w x = record { events = w.events ++ x ∷ []; state = s.state; sent = w.sent ++ s.sends }

-- what an event makes of a shard so far; a submission is none of a shard's
abbrev pub after_event : TopologyValue → ℕ → ShardRun → ActorEvent → ShardRun
after_event top me w (Submit o) = w
after_event top me w (Handle e) = after_step (shard_handle top me w.state e) w (Handle e)
after_event top me w (Collect time) = after_step (shard_collect w.state time) w (Collect time)

-- events in order, from a shard so far
abbrev pub shard_continued : TopologyValue → ℕ → ShardRun → List ActorEvent → ShardRun
shard_continued top me w [] = w
shard_continued top me w (x ∷ xs) = shard_continued top me (after_event top me w x) xs

-- what these events make of a new shard with this node
abbrev pub shard_run : TopologyValue → ℕ → List ActorEvent → ShardRun
shard_run top me events = shard_continued top me fresh_shard events

-- the envelopes that the shard handled, in order, repeats included
abbrev pub envelopes_handled : ShardRun → List Envelope
envelopes_handled w = filter_map envelope_of w.events

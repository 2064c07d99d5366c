-- What a script asks of each actor, and what became of it.
use Rattle.std.specs.Prelude.{◌≡◌, ℕ, ◌==◌, if◌then◌else◌, List, [], ◌∷◌, map, filter, filter_map, Option, Some, None, Contains}
use Rattle.std.specs.Option.{is_none}
use Rattle.logical_time.specs.declared.fault.Fault.{Fault}
use Rattle.messages.specs.declared.outcome.Outcome.{Outcome}
use Rattle.messages.specs.declared.event.ActorEvent.{ActorEvent}
use Rattle.messages.specs.declared.event.ActorEvent.TheVariants as event
use Rattle.messages.specs.Topology.{TopologyValue}
use Rattle.messages.specs.Actors.{envelope_of}
use Rattle.actors.specs.Journals.{IsBeginning}
use Rattle.threaded.specs.Machines.{Refuses}
use Rattle.site.specs.Story.{Story, journal}
use Rattle.workload.specs.declared.script.ScriptEvent.{ScriptEvent}
use Rattle.workload.specs.declared.script.ScriptEvent.TheVariants.{Submit, Deliver, Collect, Drain}
use Rattle.workload.specs.declared.transcript.Entry.{Entry}
use Rattle.workload.specs.declared.transcript.Entry.TheVariants as entry
use Rattle.workload.specs.Simulation.{is_refusal, entry_by}

-- ## What is asked

-- what an event of a script asks of the actor with a node, if it asks it for something; deliveries and drains are left to the sites
abbrev pub asked_by : ℕ → ScriptEvent → Option ActorEvent
asked_by node (Submit session o) = if session == node then Some (event.Submit o) else None
asked_by node (Deliver number) = None
asked_by node (Collect shard time) = if shard == node then Some (event.Collect time) else None
asked_by node Drain = None

-- what these events ask of it, in order
abbrev pub asked_in : ℕ → List ScriptEvent → List ActorEvent
asked_in node events = filter_map (asked_by node) events

-- the events of a journal that no message brought, in order
abbrev pub own_events : List ActorEvent → List ActorEvent
own_events journal = filter (λ x. is_none (envelope_of x)) journal

-- ## What is told

-- the session of an entry
abbrev pub session_in : Entry → ℕ
session_in (entry.Wrote node number commit stamp) = node
session_in (entry.Read node number effective answer) = node
session_in (entry.Collected node number) = node
session_in (entry.Moved node number dc floor) = node
session_in (entry.Refused node fault) = node

-- what entries tell of a session, in order
abbrev pub told_of : ℕ → List Entry → List Entry
told_of node entries = filter (λ e. session_in e == node) entries

-- an outcome of a session, with the number of its operation, as it is told
abbrev pub entry_in : ℕ → ℕ × Outcome → Entry
entry_in node o = entry_by node o.0 o.1

-- what an event of the actor with a node ended, as it is told
abbrev pub noted : ℕ → Option (ℕ × Outcome) → List Entry
noted node None = []
noted node (Some o) = entry_in node o ∷ []

-- ## What became of it

-- an event that was asked for, and with which fault it was refused, if it was
abbrev pub Fate : Type 0
Fate = ActorEvent × Option Fault

-- the event, if it was done
abbrev pub done_by : Fate → Option ActorEvent
done_by (x, None) = Some x
done_by (x, Some f) = None

-- its refusal
abbrev pub refused_by : Fate → Option Fault
refused_by p = p.1

-- The actor with a node did all that these events ask of it, in order, and nothing else of its own, but for what its machine refused
-- after what it had done so far; the refusals are told.
pub record DidAsked (top : TopologyValue) (events : List ScriptEvent) (node : ℕ) (s : Story) (entries : List Entry) : Type 0 where
  pub fates : List Fate
  pub all : map (λ p. p.0) fates ≡ asked_in node events
  pub own : own_events (journal s node) ≡ filter_map done_by fates
  pub refused : filter is_refusal (told_of node entries) ≡ map (λ f. entry.Refused node f) (filter_map refused_by fates)
  pub why : (x : ActorEvent) (f : Fault) → Contains fates (x, Some f) → (before : Story) × IsBeginning before s × Refuses top node (journal before node) x f

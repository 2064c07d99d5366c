-- A world as its user sees it: the actors of a topology, and what happened so far.
use Rattle.std.specs.Prelude.{◌≡◌, List, [], ◌∷◌, ◌++◌, Option, Some, None}
use Rattle.logical_time.specs.declared.fault.Fault.{Fault}
use Rattle.logical_time.specs.declared.fault.Fault.TheVariants.{Memory}
use Rattle.messages.specs.Topology.{TopologyValue}
use Rattle.world.specs.Run.{Run, RunEvent, run}
use Rattle.world.specs.Refusals.{Refusal, Refused, refusal_of}

-- the topology, and the events so far, oldest first. A refused event isn't in it
pub record WorldValue : Type 0 where
  pub top : TopologyValue
  pub events : List RunEvent

-- the run that a world is
abbrev pub run_of : WorldValue → Run
run_of v = run v.top v.events

-- why a world refuses an event, if it does
abbrev pub refusal_in : WorldValue → RunEvent → Option Refusal
refusal_in v x = refusal_of v.top (run_of v) x

-- the world took this event: it isn't refused, and is the last of what happened
pub record Takes (old : WorldValue) (x : RunEvent) (new : WorldValue) : Type 0 where
  pub allowed : refusal_in old x ≡ None
  pub happened : new ≡ record old { events = old.events ++ x ∷ [] }

-- a call was refused as the run refuses the event, or else for want of memory
abbrev pub IsRefusedAs : Option Refusal → Fault → Type 0
IsRefusedAs None e = e ≡ Memory
IsRefusedAs (Some r) e = r ≡ Refused e

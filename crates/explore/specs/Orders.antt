-- The orders in which the messages of a script can come.
use Rattle.std.specs.Prelude.{◌≡◌, ◌<◌, ℕ, Bool, true, false, nat_eq, nat_lt, List, length, take, filter}
use Rattle.std.specs.List.{list_all}
use Rattle.messages.specs.Topology.{node_count}
use Rattle.workload.specs.declared.script.ScriptEvent.{ScriptEvent}
use Rattle.workload.specs.declared.script.ScriptEvent.TheVariants.{Submit, Deliver, Collect, Drain}
use Rattle.workload.specs.declared.script.Script.{Script}

-- whether an actor does it on its own: a session submits, a shard collects
abbrev pub is_own : ℕ → ScriptEvent → Bool
is_own node (Submit session op) = nat_eq session node
is_own node (Deliver number) = false
is_own node (Collect shard time) = nat_eq shard node
is_own node Drain = false

-- what an actor does on its own, in order
abbrev pub own_of : ℕ → List ScriptEvent → List ScriptEvent
own_of node events = filter (is_own node) events

-- whether it is a delivery, or one of so many actors does it on its own
abbrev pub is_step : ℕ → ScriptEvent → Bool
is_step actors (Submit session op) = nat_lt session actors
is_step actors (Deliver number) = true
is_step actors (Collect shard time) = nat_lt shard actors
is_step actors Drain = false

-- all that was asked is done, in order; or a beginning of it, where messages may be lost
abbrev pub IsDone : Bool → List ScriptEvent → List ScriptEvent → Type 0
IsDone false asked done = done ≡ asked
IsDone true asked done = done ≡ take (length done) asked

-- so many actors do on their own what is asked of them, in order; all else are deliveries
pub record AreOrdered (lose : Bool) (actors : ℕ) (asked done : List ScriptEvent) : Type 0 where
  pub own : (node : ℕ) → node < actors → IsDone lose (own_of node asked) (own_of node done)
  pub steps : list_all (is_step actors) done ≡ true

-- a script with the same data centres, shards, column families and homes, whose actors submit and collect what the script asks
pub record IsOrderOf (lose : Bool) (script order : Script) : Type 0 where
  pub topology : order.topology ≡ script.topology
  pub events : AreOrdered lose (node_count script.topology) script.events order.events

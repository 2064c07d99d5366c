-- When a script is an order of another.
use Rattle.std.proofs.Common.{◌≡◌, ◌∙◌, sym, ℕ, ◌<◌, Bool, true, List}
use Rattle.std.specs.Prelude.{◌↔◌}
use Rattle.std.specs.List.{list_all}
use Rattle.messages.specs.Topology.{node_count}
use Rattle.workload.specs.declared.script.ScriptEvent.{ScriptEvent}
use Rattle.workload.specs.declared.script.Script.{Script}
use Rattle.explore.specs.Orders.{is_step, own_of, IsDone, AreOrdered, IsOrderOf}

-- all else are deliveries, so the actors decide
pub by_actors : (lose : Bool) (actors : ℕ) (asked done : List ScriptEvent) (steps own : Bool) → steps ≡ true → steps ≡ list_all (is_step actors) done
    → (own ≡ true) ↔ ((node : ℕ) → node < actors → IsDone lose (own_of node asked) (own_of node done)) → (own ≡ true) ↔ AreOrdered lose actors asked done
by_actors lose actors asked done steps own on are is =
    (λ e. record { own = is.0 e; steps = sym are ∙ on }, λ h. is.1 h.own)

-- the topology is the same, so the events decide
pub by_events : (lose : Bool) (script order : Script) (own : Bool) → order.topology ≡ script.topology
    → (own ≡ true) ↔ AreOrdered lose (node_count script.topology) script.events order.events → (own ≡ true) ↔ IsOrderOf lose script order
by_events lose script order own same is = (λ e. record { topology = same; events = is.0 e }, λ h. is.1 h.events)

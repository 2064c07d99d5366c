-- One more connection.
use Rattle.std.proofs.Common.{◌≡◌, ℕ, ◌+◌, List, subst, add-one}
use Rattle.messages.specs.Topology.{TopologyValue, session_node}
use Rattle.world.specs.declared.run_event.RunEvent.{RunEvent}
use Rattle.service.specs.Connections.{IsServed, AreServed}

pub served_next : (top t : TopologyValue) (n session : ℕ) (before between after : List RunEvent) → t ≡ top → session ≡ session_node top n → AreServed top n before between
    → IsServed t session between after → AreServed top (n + 1) before after
served_next top t n session before between after same node served last =
    rw add-one (
      between,
      served,
      subst (λ s. IsServed top s between after) node (subst (λ x. IsServed x session between after) same last),
    )

-- The numbers of sessions.
use Rattle.std.proofs.Common.{◌≡◌, ℕ, ◌<◌, true, length, arith}
use Rattle.std.proofs.lemmas.Bool.Decides.{nat_tests}
use Rattle.messages.specs.Topology.{TopologyValue, is_session, session_node}

-- each number of a session is that of one
pub session_here : (top : TopologyValue) (i : ℕ) → i < length top.homes → is_session top (session_node top i) ≡ true
session_here top i lt = grind (arith, nat_tests)

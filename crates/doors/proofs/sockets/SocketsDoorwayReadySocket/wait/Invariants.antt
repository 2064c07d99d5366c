use Rattle.std.proofs.Common.{ℕ, List, ◌≡◌, ◌++◌}
use Rattle.doors.proofs.sockets.SocketsDoorwayReadySocket.wait.Given as goal

abbrev pub invariant-loop-event : goal.invariant-loop-event
invariant-loop-event l = (told : List ℕ) × (l.ready.items ≡ l.fn.ready.items ++ told)

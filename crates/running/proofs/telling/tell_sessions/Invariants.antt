use Rattle.std.proofs.Common.{◌≡◌, ◌++◌}
use Rattle.running.proofs.ToldMore.{first_told}
use Rattle.running.proofs.telling.tell_sessions.Given as goal

abbrev pub invariant-loop-session : goal.invariant-loop-session
invariant-loop-session l = l.transcript ≡ l.fn.transcript ++ first_told l.concluded.top l.concluded.seats l.session

use Rattle.std.proofs.Common.{◌≡◌, take}
use Rattle.audit.proofs.auditing.lay_all.Given as goal

abbrev pub invariant-loop-history : goal.invariant-loop-history
invariant-loop-history l = l.laid.items ≡ take l.history-index l.histories

use Rattle.std.proofs.Common.{◌≡◌, ◌++◌, map, take}
use Rattle.workload.specs.Simulation.{entry_of}
use Rattle.tracing.proofs.playing.add_ended.Given as goal

-- those before the next were added
abbrev pub invariant-loop-one : goal.invariant-loop-one
invariant-loop-one l = l.transcript ≡ l.fn.transcript ++ map entry_of (take l.one-index l.completed)

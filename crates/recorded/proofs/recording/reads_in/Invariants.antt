use Rattle.std.proofs.Common.{◌≡◌, take}
use Rattle.recorded.specs.Recording.{reads_in}
use Rattle.recorded.proofs.recording.reads_in.Given as goal

-- those among the operations before the next
abbrev pub invariant-loop-one : goal.invariant-loop-one
invariant-loop-one l = l.reads.items ≡ reads_in (take l.one-index l.completed)

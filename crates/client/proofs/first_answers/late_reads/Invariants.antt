use Rattle.std.proofs.Common.{◌≡◌, map, take}
use Rattle.client.specs.Steps.{read_late}
use Rattle.client.proofs.first_answers.late_reads.Given as goal

abbrev pub invariant-loop-late : goal.invariant-loop-late
invariant-loop-late l = l.envelopes.items ≡ map (read_late l.time l.kept l.round) (take l.late-index l.asks)

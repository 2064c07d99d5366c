use Rattle.std.proofs.Common.{◌≡◌, drop}
use Rattle.messages.specs.Rounds.{greatest_evt, rows_heard}
use Rattle.read_txn.proofs.valid.effective_time.Given as goal

abbrev pub invariant-loop-answer : goal.invariant-loop-answer
invariant-loop-answer l = greatest_evt l.greatest (rows_heard (drop l.answer-index l.heard)) ≡ greatest_evt l.fn.floor (rows_heard l.heard)

use Rattle.std.proofs.Common.{◌≡◌, ◌++◌, drop, map}
use Rattle.messages.specs.Rounds as rounds
use Rattle.read_txn.specs.Completed.{row_of}
use Rattle.read_txn.proofs.completing.add_first.Given as goal

-- the rows so far and those of what is left
abbrev pub invariant-loop-answer : goal.invariant-loop-answer
invariant-loop-answer l = map row_of l.taken.items ++ rounds.accepted l.time (drop l.answer-index l.heard) ≡ map row_of l.fn.taken.items ++ rounds.accepted l.time l.heard

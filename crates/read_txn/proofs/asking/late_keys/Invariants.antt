use Rattle.std.proofs.Common.{◌≡◌, ◌++◌, drop}
use Rattle.messages.specs.Rounds as rounds
use Rattle.read_txn.proofs.asking.late_keys.Given as goal

-- the keys so far and those of what is left
abbrev pub invariant-loop-answer : goal.invariant-loop-answer
invariant-loop-answer l =
    l.keys.items ++ rounds.late_keys l.time (drop l.answer-index l.heard) l.node ≡ rounds.late_keys l.time l.heard l.node

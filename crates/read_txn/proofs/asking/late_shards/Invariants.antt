use Rattle.std.proofs.Common.{◌≡◌, ◌++◌, drop}
use Rattle.read_txn.specs.States.{asked_again}
use Rattle.read_txn.proofs.asking.late_shards.Given as goal

-- what is found so far and what is left
abbrev pub invariant-loop-node : goal.invariant-loop-node
invariant-loop-node l = l.late.items ++ asked_again (drop l.node-index l.asked) l.time l.heard ≡ asked_again l.asked l.time l.heard

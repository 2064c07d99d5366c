use Rattle.std.proofs.Common.{◌≡◌, take}
use Rattle.table.specs.Meaning.{each_once}
use Rattle.table.proofs.answering.each_of_few.Given as goal

-- the keys so far, each once
abbrev pub invariant-loop-key : goal.invariant-loop-key
invariant-loop-key l = l.once.items ≡ each_once (take l.key-index l.keys)

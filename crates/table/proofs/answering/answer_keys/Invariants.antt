use Rattle.std.proofs.Common.{◌≡◌, take, map}
use Rattle.table.specs.Meaning.{shown_row}
use Rattle.table.proofs.answering.answer_keys.Given as goal

abbrev pub invariant-loop-key : goal.invariant-loop-key
invariant-loop-key l = l.answer ≡ map (shown_row l.read l.entries) (take l.key-index l.keys)

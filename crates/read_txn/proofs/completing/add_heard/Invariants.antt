use Rattle.std.proofs.Common.{◌≡◌, ◌++◌, drop, flat_map, map}
use Rattle.messages.specs.Session.{HeardAt}
use Rattle.read_txn.specs.Completed.{row_of}
use Rattle.read_txn.proofs.completing.add_heard.Given as goal

-- the rows so far and those of what is left
abbrev pub invariant-loop-answer : goal.invariant-loop-answer
invariant-loop-answer l =
    map row_of l.taken.items ++ flat_map (λ (h : HeardAt). h.rows) (drop l.answer-index l.heard)
    ≡ map row_of l.fn.taken.items ++ flat_map (λ (h : HeardAt). h.rows) l.heard

use Rattle.std.proofs.Common.{◌≡◌, take, map}
use Rattle.column_family.specs.History.{History, up_to}
use Rattle.table.specs.Meaning.{shown_row}
use Rattle.audit.specs.Laid.{IsLaidOut}
use Rattle.audit.proofs.laid.rows_at.Given as goal

abbrev pub invariant-loop-key : goal.invariant-loop-key
invariant-loop-key l = (h : History) → IsLaidOut l.store h → l.answer ≡ map (shown_row l.read (up_to l.time h)) (take l.key-index l.keys)

use Rattle.std.proofs.Common.{◌≡◌, drop}
use Rattle.messages.specs.Rounds.{greatest_evt}
use Rattle.read_txn.proofs.valid.greatest_evt.Given as goal

abbrev pub invariant-loop-row : goal.invariant-loop-row
invariant-loop-row l = greatest_evt l.greatest (drop l.row-index l.rows) ≡ greatest_evt l.fn.floor l.rows

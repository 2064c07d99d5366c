use Rattle.std.proofs.Common.{◌≡◌, ◌++◌, take, filter_map}
use Rattle.slice.specs.Live.{column_changed}
use Rattle.slice.proofs.live.add_changed.Given as goal

abbrev pub invariant-loop-change : goal.invariant-loop-change
invariant-loop-change l = l.names.items ≡ l.fn.names.items ++ filter_map (column_changed l.row) (take l.change-index l.changes)

use Rattle.std.proofs.Common.{◌≡◌, take, filter_map, flat_map}
use Rattle.slice.specs.Live.{column_changed}
use Rattle.slice.proofs.live.names_changed.Given as goal

abbrev pub invariant-loop-entry : goal.invariant-loop-entry
invariant-loop-entry l = l.names.items ≡ flat_map (λ c. filter_map (column_changed l.row) c.batch) (take l.entry-index l.history)

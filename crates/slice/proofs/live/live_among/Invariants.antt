use Rattle.std.proofs.Common.{◌≡◌, take, filter_map}
use Rattle.slice.specs.Live.{live_column}
use Rattle.slice.proofs.live.live_among.Given as goal

abbrev pub invariant-loop-name : goal.invariant-loop-name
invariant-loop-name l = l.columns.items ≡ filter_map (live_column l.history l.row) (take l.name-index l.names)

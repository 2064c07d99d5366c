use Rattle.std.proofs.Common.{◌≡◌, map, take, Some}
use Rattle.serde_json.specs.View.{view}
use Rattle.workload.specs.Shape.{all_by}
use Rattle.recorded.proofs.reading.each.Given as goal

abbrev pub invariant-loop-item : goal.invariant-loop-item
invariant-loop-item g l = all_by (g.T.Piece.stands_for l.families l.homes) (map view (take l.item-index l.items.items)) ≡ Some l.all.items

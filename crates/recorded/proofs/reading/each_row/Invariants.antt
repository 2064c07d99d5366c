use Rattle.std.proofs.Common.{◌≡◌, map, take, Some}
use Rattle.serde_json.specs.View.{view}
use Rattle.workload.specs.Shape.{all_by}
use Rattle.recorded.specs.Reading.{row_of}
use Rattle.recorded.proofs.reading.each_row.Given as goal

abbrev pub invariant-loop-item : goal.invariant-loop-item
invariant-loop-item l = all_by row_of (map view (take l.item-index l.items.items)) ≡ Some l.answer

use Rattle.std.proofs.Common.{◌≡◌, map, take, Some}
use Rattle.serde_json.specs.View.{view}
use Rattle.workload.specs.Shape.{all_by}
use Rattle.recorded.specs.Reading.{entry_of}
use Rattle.recorded.proofs.reading.each_entry.Given as goal

abbrev pub invariant-loop-item : goal.invariant-loop-item
invariant-loop-item l = all_by (entry_of l.families) (map view (take l.item-index l.items.items)) ≡ Some l.history

use Rattle.std.proofs.Common.{◌≡◌, map, take, Some}
use Rattle.serde_json.specs.View.{view}
use Rattle.workload.specs.Shape.{all_by}
use Rattle.workload.specs.Script.{event_of}
use Rattle.workload.proofs.reading.each_event.Given as goal

abbrev pub invariant-loop-item : goal.invariant-loop-item
invariant-loop-item l = all_by (event_of l.topology) (map view (take l.item-index l.items.items)) ≡ Some l.all.items

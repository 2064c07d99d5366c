use Rattle.std.proofs.Common.{◌≡◌, ◌≤◌, map, take, Some}
use Rattle.serde_json.specs.Data.{items_depth}
use Rattle.serde_json.specs.View.{view, items_of}
use Rattle.workload.specs.Shape.{all_by}
use Rattle.recorded.proofs.writing.list_json.Given as goal

-- the values so far stand for the items before the next
abbrev pub invariant-loop-item : goal.invariant-loop-item
invariant-loop-item g l = record {
  stands : all_by (g.T.Written.stands_for l.families l.homes) (map view l.all.items) ≡ Some (take l.item-index l.items);
  nests : items_depth (items_of (map view l.all.items)) ≤ g.T.Written.most;
}

use Rattle.std.proofs.Common.{◌≡◌, map, take, Some}
use Rattle.serde_json.specs.View.{view}
use Rattle.workload.specs.Shape.{all_by}
use Rattle.sites_file.specs.Sites.{site_of, site_seen}
use Rattle.sites_file.proofs.reading.each.Given as goal

abbrev pub invariant-loop-item : goal.invariant-loop-item
invariant-loop-item l = all_by site_of (map view (take l.item-index l.items.items)) ≡ Some (map site_seen l.all.items)

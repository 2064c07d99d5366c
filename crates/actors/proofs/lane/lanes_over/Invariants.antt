use Rattle.std.proofs.Common.{◌≡◌, ◌++◌, map}
use Rattle.actors.specs.Opening.{new_lane}
use Rattle.actors.proofs.lane.lanes_over.Given as goal

abbrev pub invariant-loop-link : goal.invariant-loop-link
invariant-loop-link l = l.lanes.items ++ map new_lane l.link-iterator.rest.items ≡ map new_lane l.fn.links.items

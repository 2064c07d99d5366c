use Rattle.std.proofs.Common.{◌≡◌, ◌≤◌, ◌<◌, ℕ, true, false, Some}
use Rattle.std.specs.List.{slice_get}
use Rattle.actors.specs.Seats.{LaneValue, through, ends_of, rings}
use Rattle.actors.specs.Resting.{waiting_on, IsFlushed}
use Rattle.actors.proofs.lane.flush.Given as goal

abbrev pub invariant-loop-place : goal.invariant-loop-place
invariant-loop-place l = record {
  ends : ends_of l.lanes.items ≡ ends_of l.fn.lanes.items;
  whole : (node : ℕ) → through l.lanes.items node ≡ through l.fn.lanes.items node;
  still : l.moved ≡ false → rings l.lanes.items ≡ rings l.fn.lanes.items;
  waiting : l.moved ≡ false → waiting_on l.lanes.items ≡ waiting_on l.fn.lanes.items;
  most : waiting_on l.lanes.items ≤ waiting_on l.fn.lanes.items;
  fewer : l.moved ≡ true → waiting_on l.lanes.items < waiting_on l.fn.lanes.items;
  flushed : (k : ℕ) (w : LaneValue) → k < l.place → slice_get l.lanes.items k ≡ Some w → IsFlushed w;
}

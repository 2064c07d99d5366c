use Rattle.std.proofs.Common.{◌≡◌, ◌≤◌, length, take, map}
use Rattle.explore.proofs.orders.are_first.Given as goal

abbrev pub invariant-loop-place : goal.invariant-loop-place
invariant-loop-place l = record {
  lengths : length l.done ≤ length l.asked;
  same : take l.place (map (λ e. e.now) l.done) ≡ take l.place (map (λ e. e.now) l.asked);
}

use Rattle.std.proofs.Common.{◌≡◌, length, None}
use Rattle.std.specs.Prelude.{All}
use Rattle.site_port.proofs.sessions.free_places.Given as goal

abbrev pub invariant-loop-place : goal.invariant-loop-place
invariant-loop-place l = record {
  count : length l.waiting.items ≡ l._place;
  free : All (λ w. w ≡ None) l.waiting.items;
}

use Rattle.std.proofs.Common.{◌≡◌, length, All, None}
use Rattle.readiness.proofs.places.Places.new.Given as goal

abbrev pub invariant-loop : goal.invariant-loop
invariant-loop g l = record {
  count : length l.free.places.items ≡ l.counter;
  free : All (λ c. c ≡ None) l.free.places.items;
}

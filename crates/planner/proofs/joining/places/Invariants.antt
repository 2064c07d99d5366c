use Rattle.std.proofs.Common.{◌≡◌, length, List, ℕ}
use Rattle.std.specs.Option.{option_or}
use Rattle.std.specs.Ordering.{nat_cmp}
use Rattle.std.specs.Cmp.Lexicographic.{slice_cmp}
use Rattle.std.specs.BTreeMap.{get}
use Rattle.planner.specs.Join.{place_in}
use Rattle.planner.proofs.joining.places.Given as goal

-- the first in the rest, or else what is held, is the first of all
abbrev pub invariant-loop-last : goal.invariant-loop-last
invariant-loop-last l = (k : List ℕ) → option_or (place_in l.rest k) (get (slice_cmp nat_cmp) l.places k) ≡ place_in l.rows k

abbrev pub decreases-loop-last : goal.decreases-loop-last
decreases-loop-last l = length l.rest

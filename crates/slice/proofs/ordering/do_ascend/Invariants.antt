use Rattle.std.proofs.Common.{◌≡◌, length}
use Rattle.slice.specs.Live.{ascend}
use Rattle.slice.proofs.ordering.do_ascend.Given as goal

-- the rest ascends if and only if all do
abbrev pub invariant-loop-name : goal.invariant-loop-name
invariant-loop-name l = ascend l.rest ≡ ascend l.names

abbrev pub decreases-loop-name : goal.decreases-loop-name
decreases-loop-name l = length l.rest

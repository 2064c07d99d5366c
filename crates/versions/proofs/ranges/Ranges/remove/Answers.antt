use Rattle.std.proofs.Common.{ap, reverse}
use Rattle.versions.specs.Ranges.{HeldRanges}
use Rattle.versions.proofs.RangesHeld.{held_but_removed}
use Rattle.versions.proofs.ranges.Ranges.remove.Goals as goal

pub returns-clause-others : goal.returns-clause-others
returns-clause-others c = λ x.
    rw (← ap (λ (h : HeldRanges). h.ranges) c.self.view_is, c.take_range_out.ensures.left, c.take_range_out.ensures.removed)
    (held_but_removed (reverse c.self.inside.items.items) c.args.place x)

use Rattle.std.proofs.Common.{ap, reverse}
use Rattle.std.proofs.lemmas.Result.{on_ok_weaker}
use Rattle.versions.specs.Ranges.{HeldRanges}
use Rattle.versions.proofs.RangesHeld.{held_after_put}
use Rattle.versions.proofs.RangesOver.{over_after_put}
use Rattle.versions.proofs.ranges.Ranges.put.Goals as goal

pub returns-clause-held : goal.returns-clause-held
returns-clause-held c =
    rw (← ap (λ (h : HeldRanges). h.ranges) c.self.view_is)
    (on_ok_weaker c.put_range_in.result (held_after_put (reverse c.self.inside.items.items) (reverse c.put_range_in.new.ranges.items) c.args.range) c.put_range_in.ensures.ok)

pub returns-clause-over : goal.returns-clause-over
returns-clause-over c =
    rw (← ap (λ (h : HeldRanges). h.ranges) c.self.view_is)
    (on_ok_weaker c.put_range_in.result (over_after_put (reverse c.self.inside.items.items) (reverse c.put_range_in.new.ranges.items) c.args.range c.self.invariant) c.put_range_in.ensures.ok)

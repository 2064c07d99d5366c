use Rattle.std.proofs.Common.{ap, reverse}
use Rattle.versions.specs.Ranges.{HeldRanges}
use Rattle.versions.proofs.RangesKept.{kept_by_rule, kept_in_force}
use Rattle.versions.proofs.ranges.Ranges.keep_from.Goals as goal

pub returns-clause-exact : goal.returns-clause-exact
returns-clause-exact c =
    rw (← ap (λ (h : HeldRanges). h.ranges) c.self.view_is)
    (kept_by_rule c.args.time c.args.deletions.now.versions (reverse c.self.inside.items.items) (reverse c.keep_in_force.new.ranges.items) c.is_ordered.ensures c.keep_in_force.ensures.kept)

pub returns-clause-in_force : goal.returns-clause-in_force
returns-clause-in_force c =
    rw (← ap (λ (h : HeldRanges). h.ranges) c.self.view_is)
    (kept_in_force c.args.time c.args.deletions.now.versions (reverse c.self.inside.items.items) (reverse c.keep_in_force.new.ranges.items) c.is_ordered.ensures c.keep_in_force.ensures.kept)

use Rattle.versions.proofs.SweepOrder.{by_start}
use Rattle.versions.proofs.SweepSteps.{seen_permuted, all_permuted}
use Rattle.std.proofs.Common.{length}
use Rattle.versions.proofs.sweep_steps.seen_by_start.Goals as goal

pub returns-clause-seen : goal.returns-clause-seen
returns-clause-seen c = seen_permuted c.args.ranges.now c.args.time c.in_ok-ahead.ahead.items c.sort_by_start.new.ahead.items c.sort_by_start.ensures.same c.in_ok-ahead.ensures.seen

pub returns-clause-all : goal.returns-clause-all
returns-clause-all c = all_permuted c.args.ranges.now c.args.time (length c.args.ranges.now) c.in_ok-ahead.ahead.items c.sort_by_start.new.ahead.items c.sort_by_start.ensures.same c.in_ok-ahead.ensures.all

pub returns-clause-by_start : goal.returns-clause-by_start
returns-clause-by_start c =
    by_start c.args.ranges.now c.args.time c.sort_by_start.new.ahead.items
    (seen_permuted c.args.ranges.now c.args.time c.in_ok-ahead.ahead.items c.sort_by_start.new.ahead.items c.sort_by_start.ensures.same c.in_ok-ahead.ensures.seen)
    c.sort_by_start.ensures.sorted

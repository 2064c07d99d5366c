use Rattle.std.proofs.Common.{◌∙◌, ◌++◌, ap, map, filter, not, List}
use Rattle.std.specs.Option.{option_copied}
use Rattle.store.specs.declared.sight.Seen.{Seen}
use Rattle.store.specs.Sight.{named}
use Rattle.store.specs.Struck.{ranged}
use Rattle.store.specs.Sweeping.{newest_strikes}
use Rattle.store.proofs.seen.Struck.{standing_seen, unstruck_by_both}
use Rattle.store.proofs.sweeping.unstruck_in_both.Goals as goal

pub walk_time-time-requires : goal.walk_time-time-requires
walk_time-time-requires c =
    standing_seen c.args.moment.now (option_copied c.args.deletion) (c.args.row.now.ranges.ranges ++ c.args.over.now.ranges.ranges) (map ranged c.args.ranges.now) c.requires

pub returns-clause-ok : goal.returns-clause-ok
returns-clause-ok c =
    let d = option_copied c.args.deletion in
    let t = c.walk_time-time.result in
    let xs = c.args.row.now.ranges.ranges in
    let ys = c.args.over.now.ranges.ranges in
    c.in_ok-bare.ensures.ok
    ∙ ap (λ (ss : List Seen). filter (λ s. not (newest_strikes ys t d (named s))) ss) (c.deref.ensures.value ∙ c.in_ok-left.ensures.ok)
    ∙ unstruck_by_both c.args.moment.now d xs ys t c.args.ranges.now c.args.seen.now c.in_ok-left.ensures.ordered c.in_ok-bare.ensures.ordered c.requires c.walk_time-time.ensures

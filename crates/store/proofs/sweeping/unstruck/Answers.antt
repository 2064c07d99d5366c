use Rattle.std.proofs.Common.{◌∙◌, map}
use Rattle.std.specs.Option.{option_copied}
use Rattle.store.specs.Struck.{ranged}
use Rattle.store.proofs.seen.Struck.{standing_seen, unstruck_by_newest}
use Rattle.store.proofs.sweeping.unstruck.Goals as goal

pub walk_time-time-requires : goal.walk_time-time-requires
walk_time-time-requires c = standing_seen c.args.moment.now (option_copied c.args.deletion) c.args.row.now.ranges.ranges (map ranged c.args.ranges.now) c.requires

pub returns-clause-ok : goal.returns-clause-ok
returns-clause-ok c =
    c.in_ok-bare.ensures.ok
    ∙ unstruck_by_newest c.args.moment.now (option_copied c.args.deletion) c.args.row.now.ranges.ranges c.walk_time-time.result c.args.ranges.now c.args.seen.now
    c.in_ok-bare.ensures.ordered c.requires c.walk_time-time.ensures

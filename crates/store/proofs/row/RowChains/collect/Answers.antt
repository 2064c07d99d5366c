use Rattle.store.proofs.times.Latest.{latest_collected}
use Rattle.store.proofs.row.RowChains.collect.Goals as goal

pub invariant_of-self : goal.invariant_of-self
invariant_of-self c = latest_collected c.args.time c.self.inside.columns.entries c.collect_columns.new.columns.entries c.self.inside.latest c.collect_columns.ensures c.self.invariant

use Rattle.std.proofs.Common.{rules}
use Rattle.store.proofs.seen.Struck.{time_of_all, time_of_moment}
use Rattle.store.proofs.sweeping.walk_time.Goals as goal

pub returns-in-Now : goal.returns-in-Now
returns-in-Now c = rw c.in-Now.is (time_of_all c.args.ranges.now c.last_evt.result c.last_evt.ensures)

pub returns-in-At : goal.returns-in-At
returns-in-At c = time_of_moment c.args.moment.now c.args.ranges.now _ (search rules) c.requires

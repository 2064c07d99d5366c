use Rattle.store.specs.Stored.{ranges_in}
use Rattle.store.proofs.applied.Written.{range_put}
use Rattle.store.proofs.rows.put_change.Goals as goal

pub returns-in-DeleteRange-clause-held : goal.returns-in-DeleteRange-clause-held
returns-in-DeleteRange-clause-held c = λ r.
    rw c.in-DeleteRange.is
    (range_put c.args.origin.now r c.args.change.row c.in-DeleteRange.start c.in-DeleteRange.finish (ranges_in c.args.rows.now.entries r).ranges (ranges_in c.put_and_list.new.rows.entries r).ranges (c.put_and_list.ensures.put r))

use Rattle.std.proofs.Common.{◌∙◌, ap}
use Rattle.std.specs.Prelude.{filter_map}
use Rattle.world.specs.Asked.{entry_at}
use Rattle.world.proofs.lists.Replacing.{item_at}
use Rattle.world.proofs.histories.AskedFor.{one_more_asked, all_asked}
use Rattle.world.proofs.history.history.Goals as goal

pub loop-write-preserved : goal.loop-write-preserved
loop-write-preserved c =
    λ top states e are.
    one_more_asked (entry_at top states c.args.home.dc) c.args.writes.now c.loop-write.write-index c.write-item.result c.loop-write.history c.add.new.history c.in_ok-entry.entry
    (item_at c.args.writes.now c.loop-write.write-index c.write-item.result c.loop-write-test.true c.write-item.is) (c.loop-write.invariant top states e are) (c.in_ok-entry.ensures.ok top states e are) c.in_ok-add.ensures.ok

pub returns-clause-ok : goal.returns-clause-ok
returns-clause-ok c =
    λ top states e are.
    c.loop-write.invariant top states e are ∙ ap (filter_map (entry_at top states c.args.home.dc)) (all_asked c.args.writes.now c.loop-write.write-index c.loop-write-test.false)

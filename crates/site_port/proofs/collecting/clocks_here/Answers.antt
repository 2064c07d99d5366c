use Rattle.site_port.proofs.Collections.{one_clock_more}
use Rattle.site_port.proofs.collecting.clocks_here.Goals as goal

pub loop-shard-preserved : goal.loop-shard-preserved
loop-shard-preserved g c =
    one_clock_more c.args.site.now.site c.loop-shard.shard c.node_of.result c.clock_of-clock.result c.time_of.result c.loop-shard.clocks.items c.push.new.self.items
    c.loop-shard.invariant c.in_ok-push.ensures.items c.node_of.ensures.node c.clock_of-clock.ensures c.time_of.ensures

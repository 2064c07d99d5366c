use Rattle.std.proofs.Common.{sym, subst}
use Rattle.messages.specs.Topology.{TopologyValue}
use Rattle.world.specs.Run.{run}
use Rattle.world.specs.Quiet.{IsQuiet}
use Rattle.ledger.specs.declared.entry.Entry.TheVariants.{Rested}
use Rattle.durable.proofs.Requests.{entry_led, ready_led, rested_event}
use Rattle.durable.proofs.recovering.replay_rest.Goals as goal

pub collect_again-requires-clause-quiet : goal.collect_again-requires-clause-quiet
collect_again-requires-clause-quiet g c =
    let mid = g.W.Deliveries.world c.make_ready.new.world in
    subst (λ (t : TopologyValue). IsQuiet (run t mid.events)) (sym c.in_ok-make_ready.ensures.topology) c.in_ok-make_ready.ensures.ok.left.quiet

pub returns-in-Ok-clause-ok : goal.returns-in-Ok-clause-ok
returns-in-Ok-clause-ok g c = λ es led.
    let old = g.W.Deliveries.world c.args.world.now in
    let mid = g.W.Deliveries.world c.make_ready.new.world in
    let new = g.W.Deliveries.world c.collect_again.new.self in
    let ready = c.in_ok-make_ready.ensures.ok in
    entry_led old.top mid.events new.events (Rested c.args.shard) es ready.left.quiet
    (rested_event old.top mid new c.new-node.result c.args.shard c.in_ok-make_ready.ensures.topology c.new-node.ensures c.in-Ok.ensures.taken)
    (ready_led old.top old.events mid.events es ready led)

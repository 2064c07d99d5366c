use Rattle.std.proofs.Common.{sym}
use Rattle.threaded.proofs.Machines.{shard_opens, session_home, session_opens}
use Rattle.threaded.proofs.actor.ActorMachine.new.Goals as goal

pub returns-in-Some-clause-came : goal.returns-in-Some-clause-came
returns-in-Some-clause-came c = shard_opens c.args.topology.now c.args.node c.in-Some.shard (sym c.in-Some.ensures.some) c.in-Some.ensures.state

pub returns-in_ok-new-in-None-clause-came : goal.returns-in_ok-new-in-None-clause-came
returns-in_ok-new-in-None-clause-came c =
    let away = sym c.in-None.ensures.some in
    let home = session_home c.args.topology.now c.args.node away c.requires in
    session_opens c.args.topology.now c.args.node c.in_ok-new-in-None.field-0 away c.in_ok-new-in-None.ensures.node c.in_ok-new-in-None.ensures.state home.0 home.1

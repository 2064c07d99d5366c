use Rattle.service.proofs.Requests.{declined_after}
use Rattle.service.proofs.asking.submit.Goals as goal

pub returns-in-Err-clause-refused : goal.returns-in-Err-clause-refused
returns-in-Err-clause-refused g c =
    declined_after (g.A.Deliveries.world c.args.world.now) (g.A.Deliveries.world c.make_ready.new.world) (g.A.Deliveries.world c.submit.new.self) c.args.session c.args.op c.in-Err.fault
    c.in_ok-make_ready.ensures.ok c.in_ok-make_ready.ensures.topology c.in-Err.ensures.refused c.in-Err.ensures.same

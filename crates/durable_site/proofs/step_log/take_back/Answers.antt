use Rattle.durable_site.proofs.Logs.{taken_back}
use Rattle.durable_site.proofs.step_log.take_back.Goals as goal

pub returns-clause-back : goal.returns-clause-back
returns-clause-back g c = taken_back g.D.Disk.seen g.D.Disk.may_leave c.args.log.now c.take_back.new.self c.args.mark c.take_back.ensures.noted

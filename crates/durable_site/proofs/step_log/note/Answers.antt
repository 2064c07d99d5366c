use Rattle.durable_site.proofs.Logs.{noted_last, noted_still}
use Rattle.durable_site.proofs.step_log.note.Goals as goal

pub returns-in-Ok-clause-ok : goal.returns-in-Ok-clause-ok
returns-in-Ok-clause-ok g c = noted_last g.D.Disk.seen g.D.Disk.may_leave c.args.log.now c.note.new.self c.in-Ok.mark c.args.text.now c.in-Ok.ensures.ok c.in-Ok.ensures.mark

pub returns-in-Err-clause-err : goal.returns-in-Err-clause-err
returns-in-Err-clause-err g c = noted_still g.D.Disk.seen g.D.Disk.may_leave c.args.log.now c.note.new.self c.in-Err.ensures.err

use Rattle.std.proofs.Common.{subst, sym}
use Rattle.records.specs.Records.{recovered}
use Rattle.durable.specs.Settled.{IsSettled}
use Rattle.durable.proofs.Settled.{settled_at}
use Rattle.durable.proofs.opening.open.Goals as goal

pub returns-in-Ok-clause-settled : goal.returns-in-Ok-clause-settled
returns-in-Ok-clause-settled g c =
    let l = c.in-Ok.ensures.led in
    subst (λ (d : g.row.D.Denot). IsSettled g.D.Disk.seen g.D.Disk.may_leave g.D.Disk.failed c.args.topology.now c.args.secret d c.in-Ok.world.events) (sym c.over.ensures.is.0)
    (settled_at g.D.Disk.seen g.D.Disk.may_leave g.D.Disk.failed c.args.topology.now c.args.secret c.in-Ok.end c.reopen.new.disk c.in-Ok.world.events (recovered c.args.secret 0 0 c.args.bytes.now) l.0 c.in-Ok.ensures.kept l.1 l.2)

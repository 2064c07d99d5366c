use Rattle.readiness.specs.declared.connection.TheConstants.{LIMIT}
use Rattle.readiness.specs.Kept.{view}
use Rattle.readiness.proofs.Halves.{stays_so, waits_so}
use Rattle.readiness.proofs.turning.reply.Goals as goal

pub returns-then-is_over-clause-stays : goal.returns-then-is_over-clause-stays
returns-then-is_over-clause-stays g c h = stays_so c.args.connection.now.stop c.flush.new.connection.stop (view g.L.ReadyLine.seen c.args.connection.now) (view g.L.ReadyLine.seen c.flush.new.connection) c.flush.ensures.stop c.flush.ensures.dry c.flush.ensures.flushed h

pub returns-then-could_go_on-clause-stays : goal.returns-then-could_go_on-clause-stays
returns-then-could_go_on-clause-stays g c h = stays_so c.args.connection.now.stop c.flush.new.connection.stop (view g.L.ReadyLine.seen c.args.connection.now) (view g.L.ReadyLine.seen c.flush.new.connection) c.flush.ensures.stop c.flush.ensures.dry c.flush.ensures.flushed h

pub returns-clause-stays : goal.returns-clause-stays
returns-clause-stays g c h = stays_so c.args.connection.now.stop c.flush.new.connection.stop (view g.L.ReadyLine.seen c.args.connection.now) (view g.L.ReadyLine.seen c.flush.new.connection) c.flush.ensures.stop c.flush.ensures.dry c.flush.ensures.flushed h

pub returns-then-is_over-clause-left : goal.returns-then-is_over-clause-left
returns-then-is_over-clause-left g c h = c.is_over.ensures.yes c.if-is_over.true

pub returns-then-could_go_on-clause-left : goal.returns-then-could_go_on-clause-left
returns-then-could_go_on-clause-left g c h = c.is_over.ensures.no c.if-is_over.false

pub returns-clause-left : goal.returns-clause-left
returns-clause-left g c h =
    let v = view g.L.ReadyLine.seen c.args.connection.now in
    let w = view g.L.ReadyLine.seen c.flush.new.connection in
    let on = c.is_over.ensures.no c.if-is_over.false in
    let stays = stays_so c.args.connection.now.stop c.flush.new.connection.stop v w c.flush.ensures.stop c.flush.ensures.dry c.flush.ensures.flushed h in
    (on, waits_so LIMIT v w c.flush.ensures.flushed on (c.could_go_on.ensures c.if-could_go_on.false stays))

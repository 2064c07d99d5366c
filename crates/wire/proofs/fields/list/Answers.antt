use Rattle.std.proofs.lemmas.Result.{err_from_is_err_and}
use Rattle.wire.specs.Reading.{list_at}
use Rattle.wire.proofs.Lists.{goes_on, ends, is_done}
use Rattle.wire.proofs.fields.list.Goals as goal

pub returns-in_err-item : goal.returns-in_err-item
returns-in_err-item g c =
    let p = err_from_is_err_and c.from_residual.result c.from_residual.ensures.1 in
    rw (p.1, p.2) (ends c.in_err-item.field-0.0 g.T.Field.read_at c.loop.items.items c.args.count c.loop.counter c.loop.rest.now (list_at g.T.Field.read_at c.args.count c.args.bytes.now) c.loop-test.true c.in_err-item.ensures c.loop.invariant)

pub loop-preserved : goal.loop-preserved
loop-preserved g c =
    rw c.in_ok-push.ensures.items (goes_on g.T.Field.read_at c.loop.items.items c.args.count c.loop.counter c.loop.rest.now c.in_ok-item.item c.in_ok-item.after.now (list_at g.T.Field.read_at c.args.count c.args.bytes.now) c.loop-test.true c.in_ok-item.ensures c.loop.invariant)

pub returns : goal.returns
returns g c = is_done g.T.Field.read_at c.loop.items.items c.args.count c.loop.counter c.loop.rest.now (list_at g.T.Field.read_at c.args.count c.args.bytes.now) c.loop-test.false c.loop.invariant

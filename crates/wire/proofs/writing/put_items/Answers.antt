use Rattle.std.proofs.Common.{◌<◌, ◌≤◌, ◌-◌, length, refl, arith}
use Rattle.std.specs.List.{list_all}
use Rattle.std.proofs.lemmas.Result.{err_from_is_err_and}
use Rattle.wire.specs.Fields.{longest}
use Rattle.wire.proofs.Written.{text_more, fits_more, short_more, refuses_list, too_long, all_written}
use Rattle.wire.proofs.writing.put_items.Goals as goal

pub returns-in_err-put : goal.returns-in_err-put
returns-in_err-put g c =
    let p = err_from_is_err_and c.from_residual.result c.from_residual.ensures.1 in
    rw (p.1, p.2) (refuses_list c.in_err-put.field-0.0 g.T.Item.fits c.args.items.now c.loop-item.item-index c.item-item.result _ c.loop-item-test.true c.item-item.is c.in_err-put.ensures)

pub returns-then-len-start-gt-LONGEST : goal.returns-then-len-start-gt-LONGEST
returns-then-len-start-gt-LONGEST g c =
    let xs = c.args.items.now in
    let long : longest < length c.put.new.out.items - length c.args.out.now.items = omega (arith, c.if-len-start-gt-LONGEST.true, c.put.new.out.ok.0, c.args.out.now.ok.0) in
    let text = text_more g.T.Item.bytes xs c.loop-item.item-index c.item-item.result c.args.out.now.items c.loop-item.out.items c.put.new.out.items c.loop-item-test.true c.item-item.is c.loop-item.invariant.text c.in_ok-put.ensures.1 in
    (refl, too_long g.T.Item.bytes (list_all g.T.Item.fits xs) xs c.loop-item.item-index c.args.out.now.items c.put.new.out.items text long)

pub loop-item-preserved : goal.loop-item-preserved
loop-item-preserved g c =
    let xs = c.args.items.now in
    let short : length c.put.new.out.items - length c.args.out.now.items ≤ longest = omega (arith, c.if-len-start-gt-LONGEST.false, c.put.new.out.ok.0, c.args.out.now.ok.0, c.len.ensures, c.len-start.ensures) in
    let more = text_more g.T.Item.bytes xs c.loop-item.item-index c.item-item.result c.args.out.now.items c.loop-item.out.items c.put.new.out.items c.loop-item-test.true c.item-item.is c.loop-item.invariant.text c.in_ok-put.ensures.1 in
    record {
      fits = fits_more g.T.Item.fits xs c.loop-item.item-index c.item-item.result c.loop-item-test.true c.item-item.is c.loop-item.invariant.fits c.in_ok-put.ensures.0;
      text = more;
      short = short_more _ c.args.out.now.items c.put.new.out.items more short;
    }

pub returns : goal.returns
returns g c = all_written g.T.Item.bytes g.T.Item.fits c.args.items.now c.loop-item.item-index c.args.out.now.items c.loop-item.out.items c.loop-item-test.false c.loop-item.invariant.fits c.loop-item.invariant.text c.loop-item.invariant.short

use Rattle.std.proofs.lemmas.Result.{err_from_is_err_and}
use Rattle.wire.proofs.Written.{text_more, fits_more}
use Rattle.parcels.proofs.Written.{refuses_list, all_written}
use Rattle.parcels.proofs.lists.put_items.Goals as goal

pub returns-in_err-put : goal.returns-in_err-put
returns-in_err-put g c =
    let p = err_from_is_err_and c.from_residual.result c.from_residual.ensures.1 in
    rw (p.1, p.2) (refuses_list c.in_err-put.field-0.0 g.T.Piece.fits c.args.items.now c.loop-item.item-index c.item-item.result c.loop-item-test.true c.item-item.is c.in_err-put.ensures)

pub loop-item-preserved : goal.loop-item-preserved
loop-item-preserved g c =
    let xs = c.args.items.now in
    record {
      fits = fits_more g.T.Piece.fits xs c.loop-item.item-index c.item-item.result c.loop-item-test.true c.item-item.is c.loop-item.invariant.fits c.in_ok-put.ensures.0;
      text = text_more g.T.Piece.bytes xs c.loop-item.item-index c.item-item.result c.args.out.now.items c.loop-item.out.items c.put.new.out.items c.loop-item-test.true c.item-item.is c.loop-item.invariant.text c.in_ok-put.ensures.1;
    }

pub returns : goal.returns
returns g c = all_written g.T.Piece.bytes g.T.Piece.fits c.args.items.now c.loop-item.item-index c.args.out.now.items c.loop-item.out.items c.loop-item-test.false c.loop-item.invariant.fits c.loop-item.invariant.text

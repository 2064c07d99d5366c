use Rattle.std.proofs.Common.{◌∙◌, ◌+◌, ap, sym, drop, arith}
use Rattle.messages.specs.Rounds.{greatest_evt}
use Rattle.read_txn.proofs.Steps.{left_more}
use Rattle.read_txn.proofs.RowsHeard.{evt_step}
use Rattle.read_txn.proofs.valid.greatest_evt.Goals as goal

pub loop-row-preserved : goal.loop-row-preserved
loop-row-preserved c =
    let rows = c.args.rows.now in
    let i = c.loop-row.row-index in
    let rest = drop (i + 1) rows in
    ap (λ t. greatest_evt t rest) c.later-greatest.ensures
    ∙ evt_step c.loop-row.greatest c.row-item.result rest
    ∙ ap (λ rs. greatest_evt c.loop-row.greatest rs) (sym (left_more rows i c.row-item.result (omega arith) c.row-item.is))
    ∙ c.loop-row.invariant

use Rattle.std.proofs.Common.{◌∙◌, ◌+◌, ap, sym, drop, arith}
use Rattle.messages.specs.Rounds.{greatest_evt, rows_heard}
use Rattle.read_txn.proofs.Steps.{left_more}
use Rattle.read_txn.proofs.RowsHeard.{evt_append}
use Rattle.read_txn.proofs.valid.effective_time.Goals as goal

pub loop-answer-preserved : goal.loop-answer-preserved
loop-answer-preserved c =
    let heard = c.args.heard.now in
    let i = c.loop-answer.answer-index in
    let rest = drop (i + 1) heard in
    let answer = c.answer-item.result in
    let greatest = c.loop-answer.greatest in
    ap (λ t. greatest_evt t (rows_heard rest)) (c.greatest_evt-greatest.ensures ∙ ap (λ rs. greatest_evt greatest rs) c.rows.ensures)
    ∙ evt_append greatest answer.rows (rows_heard rest)
    ∙ ap (λ hs. greatest_evt greatest (rows_heard hs)) (sym (left_more heard i answer (omega arith) c.answer-item.is))
    ∙ c.loop-answer.invariant

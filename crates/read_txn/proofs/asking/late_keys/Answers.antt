use Rattle.std.proofs.Common.{◌≡◌, ◌∙◌, ◌+◌, ◌++◌, ◌∷◌, ◌==◌, ap, sym, drop, arith}
use Rattle.messages.specs.Rounds as rounds
use Rattle.read_txn.proofs.Steps.{left_more}
use Rattle.read_txn.proofs.LateKeys.{keys_late, keys_taken, keys_left}
use Rattle.read_txn.proofs.asking.late_keys.Goals as goal
use Rattle.read_txn.proofs.asking.late_keys.Goals.{then-eq+in_ok-add_late_keys, else-eq}

pub loop-answer-preserved : goal.loop-answer-preserved
loop-answer-preserved c =
    let heard = c.args.heard.now in
    let i = c.loop-answer.answer-index in
    let rest = drop (i + 1) heard in
    let answer = c.answer-item.result in
    let keys = c.loop-answer.keys.items in
    let total = rounds.late_keys c.args.time heard c.args.node in
    let so_far : keys ++ rounds.late_keys c.args.time (answer ∷ rest) c.args.node ≡ total =
    ap (λ hs. keys ++ rounds.late_keys c.args.time hs c.args.node) (sym (left_more heard i answer (omega arith) c.answer-item.is)) ∙ c.loop-answer.invariant in
    elim c.if-eq.branch [
      | then-eq+in_ok-add_late_keys w ↦
          keys_taken c.args.time answer rest c.args.node keys c.if-eq.keys.items total (ap (λ n. n == c.args.node) (sym c.from.ensures) ∙ sym w.if-eq.ensures)
          (ap (λ v. v.items) w.keys-is ∙ w.in_ok-add_late_keys.ensures.ok ∙ ap (λ rows. keys ++ keys_late c.args.time rows) w.rows.ensures) so_far
      | else-eq w ↦
          rw w.keys-is (keys_left c.args.time answer rest c.args.node keys total (ap (λ n. n == c.args.node) (sym c.from.ensures) ∙ sym w.if-eq.ensures) so_far)
    ]

-- One read more is let go and answered, or goes on waiting.
use Rattle.std.proofs.Common.{rules, ap, subst, sym, ◌∙◌, take, ◌++◌, [], ◌∷◌, ◌≡◌, ◌+◌, List}
use Rattle.std.proofs.lemmas.List.{take_more}
use Rattle.messages.specs.Shard.{WaitingRead}
use Rattle.commit_check.specs.Waiting.{freed}
use Rattle.commit_check.proofs.Freed.{answered_one, answered_none, unanswered}
use Rattle.commit_check.proofs.freeing.freed_answers.Goals as goal
use Rattle.commit_check.proofs.freeing.freed_answers.Goals.{then-is_freed+in_ok-answer_to+in_ok-push, else-is_freed}

pub loop-wait-preserved : goal.loop-wait-preserved
loop-wait-preserved g c = λ f by.
    let ws = c.as_slice-wait-items.result.now in
    let i = c.loop-wait.wait-index in
    let xs = take i c.args.waits.now in
    let zs = take (i + 1) c.args.waits.now in
    let x = c.wait-item.result in
    let more : zs ≡ xs ++ x ∷ [] =
    subst (λ (vs : List WaitingRead). take (i + 1) vs ≡ take i vs ++ x ∷ []) c.as_slice-wait-items.ensures
    (take_more ws i x c.loop-wait-test.true ∙ ap (λ (y : WaitingRead). take i ws ++ y ∷ []) (sym c.wait-item.is)) in
    elim c.if-is_freed.branch [
      | then-is_freed+in_ok-answer_to+in_ok-push w ↦
          answered_one c.args.txn c.args.cause.now c.args.me c.args.time f xs zs x w.in_ok-answer_to.field-0 c.loop-wait.envelopes.items c.if-is_freed.envelopes.items (c.loop-wait.invariant f by) more (search rules) (w.in_ok-answer_to.ensures.ok f by) (search rules)
      | else-is_freed w ↦
          answered_none c.args.txn c.args.cause.now c.args.me c.args.time f xs zs x c.loop-wait.envelopes.items c.if-is_freed.envelopes.items (c.loop-wait.invariant f by) more (search rules) (search rules)
    ]

pub returns-in_err-answer_to-clause-none : goal.returns-in_err-answer_to-clause-none
returns-in_err-answer_to-clause-none g c = λ none.
    let ws = c.as_slice-wait-items.result.now in
    unanswered c.args.txn c.args.cause.now ws c.loop-wait.wait-index c.wait-item.result c.loop-wait-test.true c.wait-item.is (search rules)
    (subst (λ (vs : List WaitingRead). freed c.args.txn c.args.cause.now vs ≡ []) (sym c.as_slice-wait-items.ensures) none)

pub returns-in_err-push-clause-none : goal.returns-in_err-push-clause-none
returns-in_err-push-clause-none g c = λ none.
    let ws = c.as_slice-wait-items.result.now in
    unanswered c.args.txn c.args.cause.now ws c.loop-wait.wait-index c.wait-item.result c.loop-wait-test.true c.wait-item.is (search rules)
    (subst (λ (vs : List WaitingRead). freed c.args.txn c.args.cause.now vs ≡ []) (sym c.as_slice-wait-items.ensures) none)

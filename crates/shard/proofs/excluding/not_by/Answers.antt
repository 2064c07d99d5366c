use Rattle.std.proofs.Common.{rules, refl, false}
use Rattle.shard.proofs.in_code.ReadsAnswered.{excludes}
use Rattle.shard.proofs.in_code.QuietSteps.{contrary, fits, none_let_go, nothing_sent}
use Rattle.shard.proofs.excluding.not_by.Goals as goal

pub returns-clause-step : goal.returns-clause-step
returns-clause-step c = λ top me a r apart.
    let answers = c.in_ok-answers.ensures.ok top me a r in
    excludes top me c.args.clock c.args.kept.now a c.args.txn c.args.time c.release.new.self c.in_ok-answers.answers.items c.args.outbox.now.sent c.post_all.new.self.sent r (search rules) (search rules) (search rules)

pub returns-in_err-answers-clause-quiet : goal.returns-in_err-answers-clause-quiet
returns-in_err-answers-clause-quiet c = λ top me a r e.
    let none = none_let_go top me c.args.clock c.args.kept.now a c.args.txn c.args.time r e in
    contrary false (c.in_err-answers.ensures.none none) refl

pub returns-in_err-reserve-clause-quiet : goal.returns-in_err-reserve-clause-quiet
returns-in_err-reserve-clause-quiet c = λ top me a r e.
    let answers = c.in_ok-answers.ensures.ok top me a r in
    let none = nothing_sent top me c.args.clock c.now.result c.args.kept.now a c.args.txn c.args.time c.in_ok-answers.answers.items r e answers in
    contrary false (c.in_err-reserve.ensures.succeeds (fits c.in_ok-answers.answers.items c.len.result c.args.outbox.now.room none (search rules))) refl

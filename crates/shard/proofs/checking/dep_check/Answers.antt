use Rattle.std.proofs.Common.{rules, refl, false}
use Rattle.messages.specs.Shard.{Asker}
use Rattle.shard.proofs.in_code.AskerSteps.{answers_asker, remembers_asker}
use Rattle.shard.proofs.checking.dep_check.Goals.{in-None+in_ok-remember-in-None, in-Some+in_ok-reserve-in-Some}
use Rattle.shard.proofs.in_code.QuietSteps.{contrary, asked_before}
use Rattle.shard.proofs.checking.dep_check.Goals as goal

pub returns-clause-step : goal.returns-clause-step
returns-clause-step c = λ top me a r apart.
    let asker : Asker = record { dependency = c.args.dependency; waiter = c.args.waiter; from = c.args.from } in
    elim c.match-decided.branch [
      | in-None+in_ok-remember-in-None w ↦
          rw (w.kept-is, w.outbox-is) (remembers_asker top me c.args.clock c.args.kept.now w.remember.new.self a asker c.args.outbox.now.sent r (search rules) (search rules))
      | in-Some+in_ok-reserve-in-Some w ↦
          rw (w.kept-is, w.outbox-is) (answers_asker top me c.args.clock c.args.kept.now a asker w.in-Some.commit w.in-Some.field-0-1 c.args.outbox.now.sent w.post.new.self.sent r (search rules) (search rules))
    ]

pub returns-in_err-remember-in-None-clause-quiet : goal.returns-in_err-remember-in-None-clause-quiet
returns-in_err-remember-in-None-clause-quiet c = λ top me a r e.
    let asker : Asker = record { dependency = c.args.dependency; waiter = c.args.waiter; from = c.args.from } in
    contrary false (c.in_err-remember-in-None.ensures.known (asked_before top me c.args.clock c.args.kept.now a asker r e).kept) refl

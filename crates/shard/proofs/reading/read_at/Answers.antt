use Rattle.std.proofs.Common.{rules}
use Rattle.shard.proofs.in_code.ReadsAnswered.{answers_at, waits_at}
use Rattle.commit_check.specs.Waiting.{is_among}
use Rattle.shard.proofs.in_code.QuietSteps.{contrary, waits_before}
use Rattle.shard.proofs.reading.read_at.Goals as goal

pub returns-then-not-is_empty-clause-step : goal.returns-then-not-is_empty-clause-step
returns-then-not-is_empty-clause-step c =
    waits_at c.waits.result c.args.clock c.args.from c.args.number c.args.time c.args.asked c.as_slice.result.now c.args.kept.now c.waits.new.kept c.args.outbox.now.sent c.waits.new.outbox.sent
    (search rules) (λ top me a r. (let is = c.in-Ok.ensures.ok top me a r in search rules)) (search rules) c.waits.ensures.step

pub returns-in-Ok-answered-clause-step : goal.returns-in-Ok-answered-clause-step
returns-in-Ok-answered-clause-step c =
    answers_at c.args.clock c.args.from c.args.number c.args.time c.args.asked c.in-Ok.writers.items c.args.kept.now c.answered.new.kept c.args.outbox.now.sent c.answered.new.outbox.sent
    (search rules) (λ top me a r. c.in-Ok.ensures.ok top me a r) (search rules) c.in-Ok-answered.ensures.step

pub returns-in-Err-clause-quiet : goal.returns-in-Err-clause-quiet
returns-in-Err-clause-quiet c = λ top me a r e.
    contrary (is_among c.args.from c.args.number c.args.kept.now.waiting) (waits_before top me c.args.clock c.args.kept.now a c.args.from c.args.number c.args.time c.args.asked r e) (search rules)

pub returns-then-not-is_empty-clause-quiet : goal.returns-then-not-is_empty-clause-quiet
returns-then-not-is_empty-clause-quiet c = λ top me a r e.
    contrary (is_among c.args.from c.args.number c.args.kept.now.waiting) (waits_before top me c.args.clock c.args.kept.now a c.args.from c.args.number c.args.time c.args.asked r e) (search rules)

pub returns-in-Err-answered-clause-quiet : goal.returns-in-Err-answered-clause-quiet
returns-in-Err-answered-clause-quiet c = λ top me a r e.
    contrary (is_among c.args.from c.args.number c.args.kept.now.waiting) (waits_before top me c.args.clock c.args.kept.now a c.args.from c.args.number c.args.time c.args.asked r e) (search rules)

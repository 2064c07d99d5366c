use Rattle.std.proofs.Common.{refl, false}
use Rattle.shard.proofs.in_code.QuietSteps.{contrary}
use Rattle.shard.proofs.handling.handle.Goals as goal

pub returns-in-Err-act-clause-ignored : goal.returns-in-Err-act-clause-ignored
returns-in-Err-act-clause-ignored c = λ top me a r ignored. contrary false (c.in-Err-act.ensures.quiet top me a r (ignored c.receive.new.self)) refl

use Rattle.std.proofs.Common.{sym, subst, ◌+◌, ◌^◌, ◌<◌, max}
use Rattle.std.specs.Prelude.{OnOk, OnErr, IfErr}
use Rattle.shard.specs.declared.kept.ShardKept.{ShardKept}
use Rattle.shard.specs.Events.{shard_run}
use Rattle.messages.specs.Clock.{ticked}
use Rattle.shard.specs.Kept.{Represents, GoesOn, IsSpentOrMemory}
use Rattle.shard.specs.Effects.{IsSpared}
use Rattle.shard.proofs.in_code.Standing.{spared}
use Rattle.shard.proofs.right.RightSends.{handles_right}
use Rattle.shard.proofs.in_code.ShardSteps.{both_ok, on_err, if_err, handles, refuses}
use Rattle.shard.proofs.shard.Shard.handle.Goals as goal

pub returns-clause-step : goal.returns-clause-step
returns-clause-step c = λ top me a r.
    both_ok c.handle.result
    (λ lt does. handles c.self.inside.kept c.handle.new.kept c.args.envelope c.args.outbox.now.sent c.handle.new.outbox.sent lt does top me a
    (subst (λ (k : ShardKept). Represents top me k a) (sym c.self.view_is) r))
    c.handle.ensures.time c.handle.ensures.step

pub returns-clause-refused : goal.returns-clause-refused
returns-clause-refused c = λ top me a r.
    if_err c.handle.result
    (λ e spent. refuses c.self.inside.kept c.args.envelope e.fault spent top me a (subst (λ (k : ShardKept). Represents top me k a) (sym c.self.view_is) r))
    c.handle.ensures.refused

pub returns-clause-ignored : goal.returns-clause-ignored
returns-clause-ignored c = λ top me a r ignored. c.handle.ensures.ignored top me a (subst (λ (k : ShardKept). Represents top me k a) (sym c.self.view_is) r) ignored

pub returns-clause-right : goal.returns-clause-right
returns-clause-right c = λ top me before after r honest.
    let a = (shard_run top me before).state in
    both_ok c.handle.result
    (λ lt does. (handles_right top me before after c.args.envelope c.handle.new.kept c.args.outbox.now.sent c.handle.new.outbox.sent honest
    (handles c.self.inside.kept c.handle.new.kept c.args.envelope c.args.outbox.now.sent c.handle.new.outbox.sent lt does top me a
    (subst (λ (k : ShardKept). Represents top me k a) (sym c.self.view_is) r))).sends)
    c.handle.ensures.time c.handle.ensures.step

pub returns-clause-leads : goal.returns-clause-leads
returns-clause-leads c = λ top me before after r honest.
    let a = (shard_run top me before).state in
    both_ok c.handle.result
    (λ lt does. (handles_right top me before after c.args.envelope c.handle.new.kept c.args.outbox.now.sent c.handle.new.outbox.sent honest
    (handles c.self.inside.kept c.handle.new.kept c.args.envelope c.args.outbox.now.sent c.handle.new.outbox.sent lt does top me a
    (subst (λ (k : ShardKept). Represents top me k a) (sym c.self.view_is) r))).state)
    c.handle.ensures.time c.handle.ensures.step

pub returns-clause-same : goal.returns-clause-same
returns-clause-same c = subst (λ (k : ShardKept). OnErr c.handle.result (GoesOn k c.handle.new.kept)) c.self.view_is (on_err c.handle.result (spared c.self.inside.kept c.handle.new.kept) c.handle.ensures.same)

pub returns-clause-spared : goal.returns-clause-spared
returns-clause-spared c = subst (λ (k : ShardKept). OnErr c.handle.result (IsSpared k c.handle.new.kept)) c.self.view_is c.handle.ensures.same

pub returns-clause-time : goal.returns-clause-time
returns-clause-time c = subst (λ (k : ShardKept). OnOk c.handle.result (max k.clock c.args.envelope.time + 1 < 2 ^ 48)) c.self.view_is c.handle.ensures.time

pub returns-clause-faults : goal.returns-clause-faults
returns-clause-faults c = subst (λ (k : ShardKept). IfErr c.handle.result (λ r. IsSpentOrMemory (ticked k.clock c.args.envelope.time) r.fault)) c.self.view_is c.handle.ensures.refused

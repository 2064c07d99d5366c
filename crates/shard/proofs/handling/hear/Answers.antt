use Rattle.messages.specs.ShardEvents.{handled}
use Rattle.shard.proofs.in_code.HandledSteps.{unheard}
use Rattle.shard.proofs.in_code.Standing.{is_quiet}
use Rattle.shard.proofs.handling.hear.Goals as goal

pub returns-in-NotBy-clause-step : goal.returns-in-NotBy-clause-step
returns-in-NotBy-clause-step c = rw c.in-NotBy.is c.not_by.ensures.step

pub returns-in-Check-clause-step : goal.returns-in-Check-clause-step
returns-in-Check-clause-step c = rw c.in-Check.is c.check.ensures.step

pub returns-in-Read-clause-step : goal.returns-in-Read-clause-step
returns-in-Read-clause-step c = rw c.in-Read.is c.read.ensures.step

pub returns-in-DepCheck-clause-step : goal.returns-in-DepCheck-clause-step
returns-in-DepCheck-clause-step c = rw c.in-DepCheck.is c.dep_check.ensures.step

pub returns-in_default-clause-step : goal.returns-in_default-clause-step
returns-in_default-clause-step c = λ top me a r apart.
    let d = c.in_default in
    is_quiet top me c.args.clock c.args.kept.now a (handled top me c.args.clock a c.args.from c.args.body.now) c.args.outbox.now.sent r
    (unheard top me c.args.clock a c.args.from c.args.body.now c.requires d.not-Yes d.not-Commit d.not-At d.not-NotBy d.not-Check d.not-Read d.not-Notify d.not-PrepareRemote d.not-DepCheck d.not-DepOk)

pub returns-in-NotBy-clause-quiet : goal.returns-in-NotBy-clause-quiet
returns-in-NotBy-clause-quiet c = rw c.in-NotBy.is c.not_by.ensures.quiet

pub returns-in-Check-clause-quiet : goal.returns-in-Check-clause-quiet
returns-in-Check-clause-quiet c = rw c.in-Check.is c.check.ensures.quiet

pub returns-in-Read-clause-quiet : goal.returns-in-Read-clause-quiet
returns-in-Read-clause-quiet c = rw c.in-Read.is c.read.ensures.quiet

pub returns-in-DepCheck-clause-quiet : goal.returns-in-DepCheck-clause-quiet
returns-in-DepCheck-clause-quiet c = rw c.in-DepCheck.is c.dep_check.ensures.quiet

use Rattle.std.proofs.Common.{refl}
use Rattle.world.specs.declared.run_event.RunEvent.TheVariants.{Submit}
use Rattle.workload.specs.declared.script.ScriptEvent.TheVariants as script
use Rattle.workload.proofs.Plays.{taken_plays}
use Rattle.tracing.proofs.Tracings.{refusal_told}
use Rattle.tracing.proofs.playing.submit.Goals as goal

pub returns-in-Ok-clause-ok : goal.returns-in-Ok-clause-ok
returns-in-Ok-clause-ok c =
    taken_plays c.args.world.now c.submit.new.self (script.Submit c.args.session c.args.op.now) (Submit c.args.session c.args.op.now) refl
    (rw (← c.in_ok-copied.ensures) c.in-Ok.ensures.taken)

pub returns-in-Err-clause-ok : goal.returns-in-Err-clause-ok
returns-in-Err-clause-ok c =
    refusal_told c.refusal_of.result c.args.world.now c.submit.new.self c.args.session c.args.op.now c.fault_of.result
    c.refusal_of.ensures.told c.refusal_of.ensures.known c.refusal_of.ensures.unspent
    (rw (← c.in_ok-copied.ensures, c.fault_of.ensures) c.in-Err.ensures.refused) c.in-Err.ensures.same

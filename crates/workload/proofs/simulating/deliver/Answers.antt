use Rattle.std.proofs.Common.{refl}
use Rattle.std.proofs.lemmas.Result.{on_ok_weaker}
use Rattle.world.specs.declared.run_event.RunEvent.TheVariants.{Deliver}
use Rattle.workload.specs.declared.script.ScriptEvent.TheVariants as script
use Rattle.workload.proofs.Plays.{taken_plays}
use Rattle.workload.proofs.simulating.deliver.Goals as goal

pub returns-clause-ok : goal.returns-clause-ok
returns-clause-ok c =
    on_ok_weaker c.deliver.result (taken_plays c.args.world.now c.deliver.new.self (script.Deliver c.args.number) (Deliver c.args.number) refl) c.deliver.ensures.taken

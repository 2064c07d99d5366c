use Rattle.std.proofs.Common.{refl}
use Rattle.std.proofs.lemmas.Result.{on_ok_weaker}
use Rattle.world.specs.declared.run_event.RunEvent.TheVariants.{Collect}
use Rattle.workload.specs.declared.script.ScriptEvent.TheVariants as script
use Rattle.workload.proofs.Plays.{taken_plays}
use Rattle.tracing.proofs.playing.collect.Goals as goal

pub returns-clause-ok : goal.returns-clause-ok
returns-clause-ok c =
    on_ok_weaker c.collect.result (taken_plays c.args.world.now c.collect.new.self (script.Collect c.args.shard c.args.time) (Collect c.args.shard c.args.time) refl) c.collect.ensures.taken

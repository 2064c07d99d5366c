use Rattle.std.proofs.Common.{◌≡◌, take}
use Rattle.world.specs.World.{run_of}
use Rattle.workload.specs.HasTold.{HasTold}
use Rattle.tracing.proofs.playing.play_all.Given as goal

-- those before the next happened and were told
abbrev pub invariant-loop-event : goal.invariant-loop-event
invariant-loop-event l = record {
  topology : l.world.top ≡ l.fn.world.top;
  told : HasTold l.fn.world.top (take l.event-index l.events) (run_of l.world) l.transcript;
}

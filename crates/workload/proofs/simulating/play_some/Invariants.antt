use Rattle.std.proofs.Common.{◌≡◌, length, take}
use Rattle.world.specs.World.{run_of}
use Rattle.workload.specs.Marks.{ended_in, merged}
use Rattle.workload.proofs.Since.{Since}
use Rattle.workload.proofs.simulating.play_some.Given as goal

-- those before the next happened and are noted
abbrev pub invariant-loop-event : goal.invariant-loop-event
invariant-loop-event l = record {
  topology : l.world.top ≡ l.fn.world.top;
  marked : ended_in l.marks.items ≡ length (run_of l.world).transcript;
  told : Since l.fn.world.top (run_of l.fn.world) l.fn.marks.items (take l.event-index l.events) (run_of l.world) (merged l.marks.items (run_of l.world).transcript);
}

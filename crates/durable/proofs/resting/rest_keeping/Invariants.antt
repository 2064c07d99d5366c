use Rattle.std.proofs.Common.{◌≡◌}
use Rattle.world.specs.World.{run_of}
use Rattle.world.specs.Quiet.{IsQuiet}
use Rattle.present.specs.AtRest.{AreTidied}
use Rattle.durable.specs.Logged.{IsLogged}
use Rattle.durable.proofs.resting.rest_keeping.Given as goal

-- the shards so far collected, and that is logged
abbrev pub invariant-loop-shard : goal.invariant-loop-shard
invariant-loop-shard g l = record {
  topology : l.world.top ≡ l.fn.world.top;
  quiet : IsQuiet (run_of l.world);
  tidied : AreTidied l.fn.world.top l.shard l.fn.world.events l.world.events;
  disk : l.log.disk ≡ l.fn.log.disk;
  secret : l.log.secret ≡ l.fn.log.secret;
  logged : IsLogged g.D.Disk.seen g.D.Disk.may_leave l.fn.world.top l.fn.log l.fn.world.events → IsLogged g.D.Disk.seen g.D.Disk.may_leave l.fn.world.top l.log l.world.events;
}

use Rattle.std.proofs.Common.{◌<◌, length}
use Rattle.actors.proofs.pool.locked.Given as goal

-- the worker stands at a seat, and has not come by all of them
abbrev pub invariant-loop : goal.invariant-loop
invariant-loop g l = (l.stand.place < length l.seats) × (l.stand.resting < length l.seats)

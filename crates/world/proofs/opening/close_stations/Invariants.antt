use Rattle.std.specs.Vec.{vec_len}
use Rattle.world.proofs.opening.close_stations.Given as goal

abbrev pub decreases-loop-station : goal.decreases-loop-station
decreases-loop-station l = vec_len l.stations

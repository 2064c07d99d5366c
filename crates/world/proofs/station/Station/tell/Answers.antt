use Rattle.std.proofs.Common.{rules}
use Rattle.world.proofs.station.Station.tell.Goals as goal

pub returns-in-Some-take-clause-told : goal.returns-in-Some-take-clause-told
returns-in-Some-take-clause-told c = search rules

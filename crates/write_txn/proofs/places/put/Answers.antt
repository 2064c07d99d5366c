use Rattle.std.proofs.Common.{rules}
use Rattle.write_txn.proofs.places.put.Goals as goal

pub returns-in-Applied : goal.returns-in-Applied
returns-in-Applied c = search rules

use Rattle.workload.proofs.Lists.{data_of_view}
use Rattle.recorded.proofs.reading.pieces.Goals as goal

pub returns : goal.returns
returns g c = rw (c.in_ok-list.ensures, data_of_view c.in_ok-list.field-0.now.items) c.each.ensures

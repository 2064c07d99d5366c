use Rattle.workload.proofs.Lists.{data_of_view}
use Rattle.sites_file.proofs.reading.sites.Goals as goal

pub returns : goal.returns
returns c = rw (c.in_ok-list.ensures, data_of_view c.in_ok-list.field-0.now.items) c.each.ensures

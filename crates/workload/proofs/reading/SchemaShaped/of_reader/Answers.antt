use Rattle.workload.proofs.Streams.{families_read}
use Rattle.workload.proofs.reading.SchemaShaped.of_reader.Goals as goal

pub returns : goal.returns
returns c = families_read c.args.depth c.args.reader.now c.list_in.new.reader c.in_ok-list_in.field-0.items c.new.result c.in_ok-list_in.ensures c.new.ensures

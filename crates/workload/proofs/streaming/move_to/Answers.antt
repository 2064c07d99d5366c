use Rattle.workload.proofs.Streams.{move_reads}
use Rattle.workload.proofs.streaming.move_to.Goals as goal

pub returns : goal.returns
returns c = move_reads c.args.topology.now c.args.depth c.args.reader.now c.number_below.new.reader c.in_ok-dc.field-0 (rw (← c.dcs.ensures.value, ← c.from.ensures) c.in_ok-dc.ensures)

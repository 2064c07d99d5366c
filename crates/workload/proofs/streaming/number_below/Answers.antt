use Rattle.workload.proofs.Streams.{below_reads}
use Rattle.workload.proofs.streaming.number_below.Goals as goal

pub returns-then-number-end : goal.returns-then-number-end
returns-then-number-end c = below_reads c.args.end c.args.depth c.args.reader.now c.number.new.reader c.in_ok-number.number c.in_ok-number.ensures c.if-number-end.true

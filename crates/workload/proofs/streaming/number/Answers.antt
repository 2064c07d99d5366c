use Rattle.workload.proofs.Streams.{number_reads}
use Rattle.workload.proofs.streaming.number.Goals as goal

pub returns : goal.returns
returns c = number_reads c.args.depth c.args.reader.now c.digits.new.reader c.in_ok-digits.digits.now c.few_digits.result c.in_ok-digits.ensures (rw c.as_bytes.ensures.value at c.few_digits.ensures)

use Rattle.std.proofs.Common.{arith}
use Rattle.workload.proofs.Streams.{delete_row_reads}
use Rattle.workload.proofs.streaming.delete_row.Goals as goal

pub returns : goal.returns
returns c = delete_row_reads c.args.depth c.args.reader.now c.take_end_array.new.self (grind arith)

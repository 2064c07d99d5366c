use Rattle.std.proofs.Common.{arith}
use Rattle.workload.proofs.Streams.{flag_reads}
use Rattle.workload.proofs.streaming.flag.Goals as goal

pub returns-in-Some-Bool : goal.returns-in-Some-Bool
returns-in-Some-Bool c = flag_reads c.args.depth c.args.reader.now c.next.new.self c.in-Some-Bool.flag (grind arith)

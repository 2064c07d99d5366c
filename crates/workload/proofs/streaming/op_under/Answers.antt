use Rattle.std.proofs.Common.{sym, ◌∙◌}
use Rattle.workload.proofs.Streams.{batch_reads, reads_read, moves_read}
use Rattle.workload.proofs.streaming.op_under.Goals as goal

pub returns-in-Ok : goal.returns-in-Ok
returns-in-Ok c = rw (c.in-Ok.ensures, c.from_changes.ensures) (batch_reads c.args.topology.now c.args.name.now c.args.depth c.args.reader.now c.list_in.new.reader c.in_ok-changes.changes.items (sym c.eq.ensures ∙ c.if-eq.true) c.in_ok-changes.ensures)

pub returns-then-eq-2 : goal.returns-then-eq-2
returns-then-eq-2 c = reads_read c.args.topology.now c.args.name.now c.args.depth c.args.reader.now c.read.new.reader c.read.result (sym c.eq-else-eq.ensures ∙ c.if-eq-2.true) c.read.ensures

pub returns-then-eq-3 : goal.returns-then-eq-3
returns-then-eq-3 c = moves_read c.args.topology.now c.args.name.now c.args.depth c.args.reader.now c.move_to.new.reader c.move_to.result (sym c.eq-else-eq-2.ensures ∙ c.if-eq-3.true) c.move_to.ensures

use Rattle.std.proofs.Common.{sym, ◌∙◌}
use Rattle.workload.proofs.Streams.{names_read, range_reads}
use Rattle.workload.proofs.streaming.predicate_under.Goals as goal

pub returns-in-Ok : goal.returns-in-Ok
returns-in-Ok c = rw c.in-Ok.ensures (names_read c.args.name.now c.args.depth c.args.reader.now c.list_in.new.reader c.in_ok-names.names.items (sym c.eq.ensures ∙ c.if-eq.true) c.in_ok-names.ensures)

pub returns-then-eq-2 : goal.returns-then-eq-2
returns-then-eq-2 c = range_reads c.args.name.now c.args.depth c.args.reader.now c.range.new.reader c.range.result (sym c.eq-else-eq.ensures ∙ c.if-eq-2.true) c.range.ensures

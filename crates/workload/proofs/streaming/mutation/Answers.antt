use Rattle.std.proofs.Common.{sym, ◌∙◌, arith}
use Rattle.workload.proofs.Streams.{inserts, deletes, deletes_row, deletes_range}
use Rattle.workload.proofs.streaming.mutation.Goals as goal

pub returns-then-eq : goal.returns-then-eq
returns-then-eq c = inserts c.args.depth c.args.reader.now c.opens.new.reader c.text.new.reader c.insert.new.reader c.in_ok-tag.tag.now (omega arith) (c.opens.ensures (grind arith)) c.in_ok-tag.ensures c.insert.result (sym c.eq.ensures ∙ c.if-eq.true) c.insert.ensures

pub returns-then-eq-2 : goal.returns-then-eq-2
returns-then-eq-2 c = deletes c.args.depth c.args.reader.now c.opens.new.reader c.text.new.reader c.delete.new.reader c.in_ok-tag.tag.now (omega arith) (c.opens.ensures (grind arith)) c.in_ok-tag.ensures c.delete.result (sym c.eq.ensures ∙ c.if-eq.false) (sym c.eq-else-eq.ensures ∙ c.if-eq-2.true) c.delete.ensures

pub returns-then-eq-3 : goal.returns-then-eq-3
returns-then-eq-3 c = deletes_row c.args.depth c.args.reader.now c.opens.new.reader c.text.new.reader c.delete_row.new.reader c.in_ok-tag.tag.now (omega arith) (c.opens.ensures (grind arith)) c.in_ok-tag.ensures c.delete_row.result (sym c.eq.ensures ∙ c.if-eq.false) (sym c.eq-else-eq.ensures ∙ c.if-eq-2.false) (sym c.eq-else-eq-2.ensures ∙ c.if-eq-3.true) c.delete_row.ensures

pub returns-then-eq-4 : goal.returns-then-eq-4
returns-then-eq-4 c = deletes_range c.args.depth c.args.reader.now c.opens.new.reader c.text.new.reader c.delete_range.new.reader c.in_ok-tag.tag.now (omega arith) (c.opens.ensures (grind arith)) c.in_ok-tag.ensures c.delete_range.result (sym c.eq.ensures ∙ c.if-eq.false) (sym c.eq-else-eq.ensures ∙ c.if-eq-2.false) (sym c.eq-else-eq-2.ensures ∙ c.if-eq-3.false) (sym c.eq-else-eq-3.ensures ∙ c.if-eq-4.true) c.delete_range.ensures

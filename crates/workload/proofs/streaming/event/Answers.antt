use Rattle.std.proofs.Common.{sym, ◌∙◌, arith}
use Rattle.workload.proofs.Streams.{submits, delivers, collects, drains}
use Rattle.workload.proofs.streaming.event.Goals as goal

pub returns-then-eq : goal.returns-then-eq
returns-then-eq c = delivers c.args.depth c.args.reader.now c.opens.new.reader c.text.new.reader c.deliver.new.reader c.in_ok-tag.tag.now (omega arith) (c.opens.ensures (grind arith)) c.in_ok-tag.ensures c.args.topology.now c.deliver.result (sym c.eq.ensures ∙ c.if-eq.true) c.deliver.ensures

pub returns-then-eq-2 : goal.returns-then-eq-2
returns-then-eq-2 c = submits c.args.depth c.args.reader.now c.opens.new.reader c.text.new.reader c.submit.new.reader c.in_ok-tag.tag.now (omega arith) (c.opens.ensures (grind arith)) c.in_ok-tag.ensures c.args.topology.now c.submit.result (sym c.eq-else-eq.ensures ∙ c.if-eq-2.true) c.submit.ensures

pub returns-then-eq-3 : goal.returns-then-eq-3
returns-then-eq-3 c = collects c.args.depth c.args.reader.now c.opens.new.reader c.text.new.reader c.collect.new.reader c.in_ok-tag.tag.now (omega arith) (c.opens.ensures (grind arith)) c.in_ok-tag.ensures c.args.topology.now c.collect.result (sym c.eq-else-eq.ensures ∙ c.if-eq-2.false) (sym c.eq.ensures ∙ c.if-eq.false) (sym c.eq-else-eq-2.ensures ∙ c.if-eq-3.true) c.collect.ensures

pub returns-then-eq-4 : goal.returns-then-eq-4
returns-then-eq-4 c = drains c.args.depth c.args.reader.now c.opens.new.reader c.text.new.reader c.drain.new.reader c.in_ok-tag.tag.now (omega arith) (c.opens.ensures (grind arith)) c.in_ok-tag.ensures c.args.topology.now c.drain.result (sym c.eq-else-eq.ensures ∙ c.if-eq-2.false) (sym c.eq.ensures ∙ c.if-eq.false) (sym c.eq-else-eq-2.ensures ∙ c.if-eq-3.false) (sym c.eq-else-eq-3.ensures ∙ c.if-eq-4.true) c.drain.ensures

use Rattle.std.proofs.Common.{sym, ◌∙◌}
use Rattle.workload.proofs.Members.{bound_start, bound_finish, bound_reversed, bound_count}
use Rattle.workload.proofs.heading.bound.Goals as goal

pub returns-in_ok-start : goal.returns-in_ok-start
returns-in_ok-start c = bound_start c.args.name.now c.args.depth c.args.reader.now c.of_reader.new.reader c.args.bounds.now c.in_ok-start.start (sym c.eq.ensures ∙ c.if-eq.true) c.in_ok-start.ensures

pub returns-in_ok-finish : goal.returns-in_ok-finish
returns-in_ok-finish c = bound_finish c.args.name.now c.args.depth c.args.reader.now c.of_reader-then-eq-2.new.reader c.args.bounds.now c.in_ok-finish.finish (sym c.eq-else-eq.ensures ∙ c.if-eq-2.true) c.in_ok-finish.ensures

pub returns-in_ok-reversed : goal.returns-in_ok-reversed
returns-in_ok-reversed c = bound_reversed c.args.name.now c.args.depth c.args.reader.now c.flag.new.reader c.args.bounds.now c.in_ok-reversed.reversed (sym c.eq-else-eq-2.ensures ∙ c.if-eq-3.true) c.in_ok-reversed.ensures

pub returns-in_ok-count : goal.returns-in_ok-count
returns-in_ok-count c = bound_count c.args.name.now c.args.depth c.args.reader.now c.number_below.new.reader c.args.bounds.now c.in_ok-count.field-0 (sym c.eq-else-eq-3.ensures ∙ c.if-eq-4.true) c.in_ok-count.ensures

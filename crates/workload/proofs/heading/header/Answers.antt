use Rattle.std.proofs.Common.{sym, ◌∙◌, arith}
use Rattle.workload.proofs.Members.{member_shorter, more_heading, all_heading, no_heading}
use Rattle.workload.proofs.heading.header.Goals as goal

pub loop-name-init : goal.loop-name-init
loop-name-init c = no_heading c.args.depth c.args.reader.now

pub loop-name-smaller : goal.loop-name-smaller
loop-name-smaller c = member_shorter c.args.depth c.loop-name.reader c.next_key.new.self c.head.new.reader c.in-Ok-Some.name.now c.in_ok-head.ensures.0 (grind arith) c.in_ok-head.ensures.1

pub loop-name-preserved : goal.loop-name-preserved
loop-name-preserved c = more_heading c.args.depth c.args.reader.now c.loop-name.reader c.next_key.new.self c.head.new.reader c.in-Ok-Some.name.now c.loop-name.heading c.head.new.heading c.loop-name.invariant (grind arith) c.in_ok-head.ensures

pub returns-then-eq : goal.returns-then-eq
returns-then-eq c = all_heading c.args.depth c.args.reader.now c.loop-name.reader c.next_key.new.self c.in-Ok-Some.name.now c.loop-name.heading c.loop-name.invariant (grind arith) (sym c.eq.ensures ∙ c.if-eq.true)

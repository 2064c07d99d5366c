use Rattle.messages.proofs.Greatest.{effective_above_floor, effective_above_each, effective_no_greater, mark_below_clock, mark_below_each, mark_no_less}
use Rattle.messages.proofs.law.times_of_reads.Goals as goal

pub returns-clause-floor : goal.returns-clause-floor
returns-clause-floor c = effective_above_floor

pub returns-clause-each : goal.returns-clause-each
returns-clause-each c = effective_above_each

pub returns-clause-least : goal.returns-clause-least
returns-clause-least c = effective_no_greater

pub returns-clause-clock : goal.returns-clause-clock
returns-clause-clock c = mark_below_clock

pub returns-clause-mark : goal.returns-clause-mark
returns-clause-mark c = mark_below_each

pub returns-clause-greatest : goal.returns-clause-greatest
returns-clause-greatest c = mark_no_less

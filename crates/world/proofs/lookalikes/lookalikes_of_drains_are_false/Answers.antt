use Rattle.world.proofs.worked.RefutedDrains.{yes_above, decisions, waiting, unhandled, clocks}
use Rattle.world.proofs.lookalikes.lookalikes_of_drains_are_false.Goals as goal

pub returns-clause-yes_above : goal.returns-clause-yes_above
returns-clause-yes_above c = yes_above

pub returns-clause-decisions : goal.returns-clause-decisions
returns-clause-decisions c = decisions

pub returns-clause-waiting : goal.returns-clause-waiting
returns-clause-waiting c = waiting

pub returns-clause-unhandled : goal.returns-clause-unhandled
returns-clause-unhandled c = unhandled

pub returns-clause-clocks : goal.returns-clause-clocks
returns-clause-clocks c = clocks

use Rattle.world.proofs.envelopes.Addressed.{messages_are_for_actors}
use Rattle.world.proofs.histories.AskedHistory.{histories_are_asked}
use Rattle.world.proofs.in_code.Unfinished.{shards_tell_unfinished}
use Rattle.world.proofs.quiet.Unhandled.{finds_unhandled}
use Rattle.world.proofs.promises.runs_can_be_looked_up.Goals as goal

pub returns-clause-messages : goal.returns-clause-messages
returns-clause-messages c = messages_are_for_actors

pub returns-clause-unhandled : goal.returns-clause-unhandled
returns-clause-unhandled c = finds_unhandled

pub returns-clause-histories : goal.returns-clause-histories
returns-clause-histories c = histories_are_asked

pub returns-clause-unfinished : goal.returns-clause-unfinished
returns-clause-unfinished c = shards_tell_unfinished

use Rattle.shard.proofs.worked.Refuted.{earlier, later, at_earlier, at_later, applied_above, given_up}
use Rattle.shard.proofs.lookalikes.lookalikes_of_right_shards_are_false.Goals as goal

pub returns-clause-earlier : goal.returns-clause-earlier
returns-clause-earlier c = earlier

pub returns-clause-later : goal.returns-clause-later
returns-clause-later c = later

pub returns-clause-at_earlier : goal.returns-clause-at_earlier
returns-clause-at_earlier c = at_earlier

pub returns-clause-at_later : goal.returns-clause-at_later
returns-clause-at_later c = at_later

pub returns-clause-applied_above : goal.returns-clause-applied_above
returns-clause-applied_above c = applied_above

pub returns-clause-given_up : goal.returns-clause-given_up
returns-clause-given_up c = given_up

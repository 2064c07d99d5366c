use Rattle.world.proofs.worked.RefutedOutcomes.{refused_events, given_up, all_writes, submissions_end, next_number}
use Rattle.world.proofs.lookalikes.lookalikes_of_transcripts_are_false.Goals as goal

pub returns-clause-given_up : goal.returns-clause-given_up
returns-clause-given_up c = given_up

pub returns-clause-all_writes : goal.returns-clause-all_writes
returns-clause-all_writes c = all_writes

pub returns-clause-submissions_end : goal.returns-clause-submissions_end
returns-clause-submissions_end c = submissions_end

pub returns-clause-next_number : goal.returns-clause-next_number
returns-clause-next_number c = next_number

pub returns-clause-refused_events : goal.returns-clause-refused_events
returns-clause-refused_events c = refused_events

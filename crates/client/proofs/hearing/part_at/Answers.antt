use Rattle.std.proofs.Common.{rules}
use Rattle.client.proofs.hearing.part_at.Goals as goal

pub returns-in-Second-clause-state : goal.returns-in-Second-clause-state
returns-in-Second-clause-state c = search rules

pub returns-in-Second-clause-ignored : goal.returns-in-Second-clause-ignored
returns-in-Second-clause-ignored c = search rules

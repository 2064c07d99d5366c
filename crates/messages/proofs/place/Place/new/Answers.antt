use Rattle.std.proofs.Common.{rules}
use Rattle.messages.proofs.place.Place.new.Goals as goal

pub returns-clause-place : goal.returns-clause-place
returns-clause-place c = search rules

use Rattle.parcels.proofs.BodiesTaken.{read_text, short_spelled, other_spelled}
use Rattle.parcels.proofs.law.what_is_read_is_spelled.Goals as goal

pub returns-clause-text : goal.returns-clause-text
returns-clause-text c = read_text

pub returns-clause-short : goal.returns-clause-short
returns-clause-short c = short_spelled

pub returns-clause-other : goal.returns-clause-other
returns-clause-other c = other_spelled

use Rattle.slice.proofs.RowAlike.{rest_alike}
use Rattle.slice.proofs.law.parts_make_the_same_of_a_row.Goals as goal

pub returns-clause-rests : goal.returns-clause-rests
returns-clause-rests c = rest_alike

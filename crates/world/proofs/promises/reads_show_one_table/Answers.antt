use Rattle.world.proofs.promised.Laws.{reads_show_one_table, answers_stay}
use Rattle.world.proofs.promises.reads_show_one_table.Goals as goal

pub returns-clause-now : goal.returns-clause-now
returns-clause-now c = reads_show_one_table

pub returns-clause-later : goal.returns-clause-later
returns-clause-later c = answers_stay

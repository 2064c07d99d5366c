use Rattle.world.proofs.worked.WorkedPasts.{own_write, read_first, read_second, quiet}
use Rattle.world.proofs.law.worked_pasts.Goals as goal

pub returns-clause-own_write : goal.returns-clause-own_write
returns-clause-own_write c = own_write

pub returns-clause-first_read : goal.returns-clause-first_read
returns-clause-first_read c = read_first

pub returns-clause-second_read : goal.returns-clause-second_read
returns-clause-second_read c = read_second

pub returns-clause-quiet : goal.returns-clause-quiet
returns-clause-quiet c = quiet

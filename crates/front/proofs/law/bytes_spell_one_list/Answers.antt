use Rattle.front.proofs.Requests.{begins-one, waits-none, faulty-none}
use Rattle.front.proofs.law.bytes_spell_one_list.Goals as goal

pub returns-clause-one : goal.returns-clause-one
returns-clause-one c = begins-one

pub returns-clause-waiting : goal.returns-clause-waiting
returns-clause-waiting c = waits-none

pub returns-clause-faulty : goal.returns-clause-faulty
returns-clause-faulty c = faulty-none

use Rattle.peers.proofs.Links.{sound}
use Rattle.peers.proofs.law.taken_is_a_beginning.Goals as goal

pub returns-clause-beginning : goal.returns-clause-beginning
returns-clause-beginning c = λ es may. (sound es may).beginning

pub returns-clause-wanted : goal.returns-clause-wanted
returns-clause-wanted c = λ es may. (sound es may).wanted

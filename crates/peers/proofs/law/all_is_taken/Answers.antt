use Rattle.peers.specs.Links.{run, started}
use Rattle.peers.proofs.Links.{sound, carried_all, even_is_all}
use Rattle.peers.proofs.law.all_is_taken.Goals as goal

pub returns-clause-carried : goal.returns-clause-carried
returns-clause-carried c = λ es may. carried_all (run es started) (sound es may)

pub returns-clause-even : goal.returns-clause-even
returns-clause-even c = λ es may even. even_is_all (run es started) (sound es may) even

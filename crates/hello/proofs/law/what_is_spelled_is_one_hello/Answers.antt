use Rattle.hello.proofs.Spelled.{length-spelled, spelled_again}
use Rattle.hello.proofs.law.what_is_spelled_is_one_hello.Goals as goal

pub returns-clause-long : goal.returns-clause-long
returns-clause-long c = length-spelled

pub returns-clause-one : goal.returns-clause-one
returns-clause-one c = spelled_again

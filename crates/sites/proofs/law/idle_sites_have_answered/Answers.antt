use Rattle.sites.proofs.Idle.{idle_answered, idle_ended}
use Rattle.sites.proofs.law.idle_sites_have_answered.Goals as goal

pub returns-clause-runs : goal.returns-clause-runs
returns-clause-runs c = λ top dc s journals events story idle has is. idle_answered top dc s journals events story idle has is

pub returns-clause-ended : goal.returns-clause-ended
returns-clause-ended c =
    λ top dc s journals events node number o story idle has is session here home asked local.
    idle_ended top dc s journals events story idle has is node number o session here home asked local

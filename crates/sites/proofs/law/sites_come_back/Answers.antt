use Rattle.sites.proofs.Again.{sites_go_on, sites_meet}
use Rattle.sites.proofs.law.sites_come_back.Goals as goal

pub returns-clause-on : goal.returns-clause-on
returns-clause-on c = λ top before after ok lived met live back. sites_go_on top before after ok lived met live back

pub returns-clause-meet : goal.returns-clause-meet
returns-clause-meet c = λ top before after ok lived met live back since. sites_meet top before after ok lived met live back since

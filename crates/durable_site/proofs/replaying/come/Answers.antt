use Rattle.durable_site.proofs.Redone.{heard_redone}
use Rattle.durable_site.proofs.replaying.come.Goals as goal

pub returns-in-Ok-clause-ok : goal.returns-in-Ok-clause-ok
returns-in-Ok-clause-ok g c = heard_redone c.args.site.now c.hear.new.self c.args.from c.args.envelope c.in-Ok.ensures.heard

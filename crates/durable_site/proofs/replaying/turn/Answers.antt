use Rattle.durable_site.proofs.Redone.{turned_redone, some_turns}
use Rattle.durable_site.proofs.replaying.turn.Goals as goal

pub returns-else-counted-eq0-clause-ok : goal.returns-else-counted-eq0-clause-ok
returns-else-counted-eq0-clause-ok g c = turned_redone c.args.site.now c.turn.new.self c.in-Ok.turn (some_turns c.counted.result c.in-Ok.turn c.counted.ensures c.if-counted-eq0.false) c.in-Ok.ensures.turned

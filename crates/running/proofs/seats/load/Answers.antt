use Rattle.std.proofs.Common.{sym, subst}
use Rattle.std.specs.Prelude.{All}
use Rattle.actors.specs.Journals.{IsOwn}
use Rattle.running.proofs.AskedMore.{asked_own}
use Rattle.running.proofs.seats.load.Goals as goal

pub load-requires : goal.load-requires
load-requires c = subst (λ l. All IsOwn l) (sym c.in_ok-asked.ensures.ok) (asked_own c.node.result c.args.events.now)

use Rattle.store.proofs.newest.Places.{on_ok}
use Rattle.store.proofs.store.reserve_all.Goals as goal

pub returns-clause-ok : goal.returns-clause-ok
returns-clause-ok c = on_ok c.reserve_changes.result (λ room. (room, c.in_ok-reserve.ensures.ok)) c.reserve_changes.ensures.ok

use Rattle.wire.proofs.Fed.{taken_next}
use Rattle.wire.proofs.reader.Reader.next.Goals as goal

pub returns-clause-taken : goal.returns-clause-taken
returns-clause-taken c =
    rw (← c.self.view_is) (taken_next c.pop_front.result c.self.inside.held.items c.pop_front.new.self.items c.self.inside.rest.items c.self.inside.fault c.pop_front.ensures.items c.self.invariant.spelled)

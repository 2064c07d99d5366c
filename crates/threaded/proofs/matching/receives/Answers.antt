use Rattle.std.proofs.Common.{length, refl}
use Rattle.threaded.proofs.Matched.{all_received}
use Rattle.threaded.proofs.matching.receives.Goals as goal

pub returns-clause-ok : goal.returns-clause-ok
returns-clause-ok c = (
  λ on. all_received (length c.args.places.now) c.args.seats.now c.args.to c.args.journal.now c.loop-place.place c.loop-place.received.items c.loop-place-test.false c.loop-place.invariant,
  λ does. refl,
)

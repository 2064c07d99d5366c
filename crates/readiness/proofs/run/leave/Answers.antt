use Rattle.std.proofs.Common.{inr}
use Rattle.readiness.proofs.run.leave.Goals as goal

pub returns : goal.returns
returns g c = inr (c.in-Some.connection, c.in-Some.ensures.some, c.release.ensures.free, c.in_ok-push.ensures.items)

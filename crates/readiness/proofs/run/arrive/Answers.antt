use Rattle.std.proofs.Common.{inl, inr}
use Rattle.readiness.proofs.run.arrive.Goals as goal

pub returns-in-Some : goal.returns-in-Some
returns-in-Some g c = let a = c.admit.ensures in (a.0, a.1, inl (c.in-Some.place, c.in-Some.ensures.some, a.2))

pub returns-in_ok-push-in-None : goal.returns-in_ok-push-in-None
returns-in_ok-push-in-None g c = (c.new.result, c.new.ensures, inr c.in_ok-push-in-None.ensures.items)

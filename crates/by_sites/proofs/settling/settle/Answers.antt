use Rattle.std.proofs.Common.{rules, ◌≡◌, false}
use Rattle.by_sites.proofs.settling.settle.Goals as goal

pub loop-round-init : goal.loop-round-init
loop-round-init c = λ events holds. holds

pub loop-round-preserved : goal.loop-round-preserved
loop-round-preserved c = λ events holds. c.in_ok-more.ensures.on events (c.loop-round.invariant events holds)

pub returns-then-not-more-clause-on : goal.returns-then-not-more-clause-on
returns-then-not-more-clause-on c = λ events holds. c.in_ok-more.ensures.on events (c.loop-round.invariant events holds)

pub returns-then-not-more-clause-rest : goal.returns-then-not-more-clause-rest
returns-then-not-more-clause-rest c = let none : c.in_ok-more.more ≡ false = search rules in c.in_ok-more.ensures.rest none

use Rattle.by_sites.proofs.settling.step.Goals as goal

pub returns-then-turned-clause-on : goal.returns-then-turned-clause-on
returns-then-turned-clause-on c = λ events holds. c.in_ok-carried.ensures.on c.turn.new.told events (c.in_ok-turned.ensures.on c.args.topology.now events holds)

pub returns-else-turned-clause-on : goal.returns-else-turned-clause-on
returns-else-turned-clause-on c = λ events holds. c.in_ok-carried.ensures.on c.turn.new.told events (c.in_ok-turned.ensures.on c.args.topology.now events holds)

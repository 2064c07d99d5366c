use Rattle.std.specs.Prelude.{replicate}
use Rattle.site.specs.Steps.{Turned}
use Rattle.durable_site.specs.Stuck.{HasRedone}
use Rattle.durable_site.proofs.replaying.turn_often.Given as goal

-- so many turns were done so far
abbrev pub invariant-loop-turn : goal.invariant-loop-turn
invariant-loop-turn g l = HasRedone l.fn.site (replicate l._turn Turned) l.site

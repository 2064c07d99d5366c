use Rattle.tracing.specs.Tracing.{HasGrown, Shows}
use Rattle.tracing.proofs.telling.put_steps.Given as goal

-- the lines of what happened were told
abbrev pub invariant-loop-step : goal.invariant-loop-step
invariant-loop-step g l = record {
  grown : HasGrown g.W.Write.contents l.fn.output l.output;
  told : Shows g.W.Write.contents l.fn.output l.output l.text l.rest;
}

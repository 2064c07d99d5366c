use Rattle.std.proofs.Common.{◌≤◌, ◌-◌, length}
use Rattle.tracing.specs.Tracing.{HasGrown, Shows}
use Rattle.tracing.proofs.lines.put_lines.Given as goal

-- so many lines were told, or all
abbrev pub invariant-loop-told : goal.invariant-loop-told
invariant-loop-told g l = record {
  grown : HasGrown g.W.Write.contents l.fn.output l.output;
  told : Shows g.W.Write.contents l.fn.output l.output l.text l.rest;
  left : length l.rest ≤ length l.text - l.told;
}

use Rattle.std.proofs.Common.{◌≡◌}
use Rattle.explore.specs.Exploration.{AreAudited}
use Rattle.explore.proofs.exploring.audit_all.Given as goal

abbrev pub invariant-loop-end : goal.invariant-loop-end
invariant-loop-end g l = AreAudited l.lose l.script l.end-index l.all

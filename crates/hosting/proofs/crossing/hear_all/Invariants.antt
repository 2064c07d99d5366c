use Rattle.std.proofs.Common.{[], ◌≡◌}
use Rattle.site.specs.Story.{given}
use Rattle.site_port.specs.Port.{port_of, kept_of}
use Rattle.hosting.specs.Rounds.{IsComing, HasPassed, LeavesNone}
use Rattle.hosting.proofs.crossing.hear_all.Given as goal

-- what came so far was heard, or refused
abbrev pub invariant-loop-heard : goal.invariant-loop-heard
invariant-loop-heard g l = record {
  heard : HasPassed IsComing g.W.Ways.steps [] (port_of l.fn.port) l.fn.ways (port_of l.port) l.ways;
  silent : LeavesNone g.W.Ways.steps l.fn.ways l.ways;
  ungiven : given l.port.site.site.story ≡ given l.fn.port.site.site.story;
  kept : kept_of l.port ≡ kept_of l.fn.port;
}

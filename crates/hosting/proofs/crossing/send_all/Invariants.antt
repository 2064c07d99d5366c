use Rattle.std.proofs.Common.{[], ◌≡◌, ◌+◌, length}
use Rattle.site.specs.Story.{given}
use Rattle.site.specs.Steps.{steps}
use Rattle.site_port.specs.Port.{port_of, kept_of}
use Rattle.hosting.specs.Rounds.{IsGoing, HasPassed}
use Rattle.hosting.proofs.crossing.send_all.Given as goal

-- what was given so far was taken
abbrev pub invariant-loop-sent : goal.invariant-loop-sent
invariant-loop-sent g l = record {
  sent : HasPassed IsGoing g.W.Ways.steps [] (port_of l.fn.port) l.fn.ways (port_of l.port) l.ways;
  undone : steps l.port.site.site.story ≡ steps l.fn.port.site.site.story;
  count : length (given l.port.site.site.story) ≡ length (given l.fn.port.site.site.story) + l._sent;
  kept : kept_of l.port ≡ kept_of l.fn.port;
}

use Rattle.std.specs.List.{All}
use Rattle.explore.specs.Exploration.{IsShown}
use Rattle.explore.proofs.exploring.all_found.Given as goal

abbrev pub invariant-loop-place : goal.invariant-loop-place
invariant-loop-place l = All (IsShown l.lose l.script) l.all.items

use Rattle.std.proofs.Common.{◌≡◌, ℕ, ◌≤◌}
use Rattle.std.specs.List.{slice_get}
use Rattle.actors.specs.Draining.{AreLater, HaveTaken}
use Rattle.actors.proofs.Rounds.{SoFar}
use Rattle.actors.proofs.draining.one_round.Given as goal

abbrev pub invariant-loop-place : goal.invariant-loop-place
invariant-loop-place g l = record {
  later : AreLater l.fn.seats l.seats;
  taken : HaveTaken g.M.Machine.refuses l.fn.seats l.seats;
  waiting : (k : ℕ) → l.place ≤ k → slice_get l.seats k ≡ slice_get l.fn.seats k;
  so_far : SoFar l.round l.fn.seats l.seats l.place;
}

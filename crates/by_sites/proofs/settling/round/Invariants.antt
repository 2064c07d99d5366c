use Rattle.std.proofs.Common.{◌≡◌, false, length}
use Rattle.by_sites.specs.Sites.{AreAtRest}
use Rattle.by_sites.specs.Holds.{GoesOn}
use Rattle.by_sites.proofs.settling.round.Given as goal

abbrev pub invariant-loop-place : goal.invariant-loop-place
invariant-loop-place l = record {
  count : length l.sites ≡ length l.fn.sites;
  on : GoesOn l.topology l.fn.sites l.fn.told l.sites l.told;
  rest : l.any ≡ false → AreAtRest l.place l.sites;
}
